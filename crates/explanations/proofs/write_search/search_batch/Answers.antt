use Rattle.std.proofs.Common.{◌≡◌, ◌<◌, ◌≤◌, ◌++◌, List, [], Some, length, take, true, false, slice_get, filter, get_or, w64, SFits, rules, arith, refl, sym, ap, subst, ◌∙◌, take_all}
use Rattle.std.proofs.lemmas.Int.{to_z-of_z}
use Rattle.std.proofs.lemmas.Option.{slice_get_read}
use Rattle.keyspace.specs.contracts.reply.Verdict.{the_type}
use Rattle.keyspace.specs.declared.batch.Batch.{Batch}
use Rattle.keyspace.specs.declared.reply.Reply.{Reply}
use Rattle.keyspace.specs.declared.reply.Entry.{Entry}
use Rattle.keyspace.specs.declared.reply.Verdict.{Verdict}
use Rattle.keyspace.specs.declared.reply.Verdict.TheVariants.{Conflict, TooOld, Committed}
use Rattle.keyspace.specs.declared.txn.Txn.{Txn}
use Rattle.keyspace.specs.Writes.{counted_ranges}
use Rattle.keys.proofs.callers.Lists.{some_at}
use Rattle.explanations.specs.Written.{written_from}
use Rattle.explanations.specs.Explains.{explains}
use Rattle.explanations.specs.Found.{IsFound}
use Rattle.explanations.proofs.Finding.{found_of, found_txn, found_same, found_skipping}
use Rattle.explanations.proofs.write_search.search_batch.Goals.{then-eq, else-eq}
use Rattle.explanations.proofs.write_search.search_batch.Goals as goal
use denote.Enum.Bare.{sameb}

-- what the comparison says
counted_if : (verdict : Verdict) (t : Txn) → sameb the_type verdict Committed ≡ true → t.writes ≡ counted_ranges verdict t.writes
counted_if Committed t h = refl
counted_if TooOld t h = cc
counted_if Conflict t h = cc

not_counted_unless : (verdict : Verdict) (t : Txn) → sameb the_type verdict Committed ≡ false → [] ≡ counted_ranges verdict t.writes
not_counted_unless Committed t h = cc
not_counted_unless TooOld t h = refl
not_counted_unless Conflict t h = refl

pub loop-txn-preserved : goal.loop-txn-preserved
loop-txn-preserved c =
    let q = c.args.question.now in
    let p = c.args.processed.now in
    let from = c.loop-txn.next in
    let n = c.in-Some.txn in
    let e = c.index-entries-txn.result in
    let test = explains q.version q.txn q.snapshot q.range in
    let next = c.in-Some.ensures.next q.range c.hash-hash.ensures.hash in
    let entries_are : c.as_slice-entries.result.now ≡ p.reply.entries =
    c.as_slice-entries.ensures.items ∙ ap (λ (r : Reply). r.entries) c.reply.ensures.reply in
    let inside : n < length p.batch.txns = next.1 in
    let within : n < length p.reply.entries = omega (arith, inside, c.reply.ensures.entries) in
    let found = some_at p.batch.txns n inside in
    let at_e : slice_get p.reply.entries n ≡ Some e =
    slice_get_read p.reply.entries (length p.reply.entries) n e refl within
    (subst (λ (es : List Entry). e ≡ get_or es n e) entries_are c.index-entries-txn.is) in
    let equal = c.eq.ensures ∙ ap (λ (x : Entry). sameb the_type x.verdict Committed) (sym c.index-entries-txn.is) in
    record {
      within = omega (arith, inside);
      found = λ ws before.
          let so_far =
          found_skipping q.version q.txn q.snapshot q.range p.proxy p.batch.version p.batch.txns p.reply.entries from n ws _ next.0
          (omega (arith, inside)) (omega (arith, within)) next.2 (c.loop-txn.invariant.found ws before) in
          elim c.if-eq.branch [
            | then-eq w ↦
                let here : slice_get c.batch-batch.result.now.txns n ≡ Some found.0 =
                ap (λ (b : Batch). slice_get b.txns n) c.batch-batch.ensures.batch ∙ found.1 in
                let fits : SFits w64 c.batch-batch.result.now.version = search rules in
                let same = to_z-of_z w64 c.batch-batch.result.now.version fits in
                let version_is = ap (λ (b : Batch). b.version) c.batch-batch.ensures.batch in
                subst (IsFound _) (sym w.found-is)
                (found_txn test p.proxy p.batch.version p.batch.txns p.reply.entries n found.0 e ws _ _ _ _
                (w.search_txn-found.ensures.found found.0 here _ so_far) w.proxy.ensures.proxy (cc)
                (counted_if e.verdict found.0 (sym equal ∙ w.if-eq.true)) found.1 at_e)
            | else-eq w ↦
                subst (IsFound _) (sym w.found-is)
                (found_same test p.proxy p.batch.version p.batch.txns p.reply.entries n found.0 e ws _ so_far
                (not_counted_unless e.verdict found.0 (sym equal ∙ w.if-eq.false)) found.1 at_e)
          ];
    }

pub returns : goal.returns
returns c =
    let q = c.args.question.now in
    let p = c.args.processed.now in
    let from = c.loop-txn.next in
    let end = length p.batch.txns in
    let none = c.in_default.ensures.next q.range c.hash-hash.ensures.hash in
    let entries : length p.reply.entries ≤ end = omega (arith, c.reply.ensures.entries) in
    let fits : end ≤ length p.reply.entries = omega (arith, c.reply.ensures.entries) in
    record {
      found = λ ws before.
          found_of _ _ _
          (ap (λ (ts : List Txn). ws ++ filter (explains q.version q.txn q.snapshot q.range)
          (written_from p.proxy p.batch.version 0 ts (take end p.reply.entries))) (take_all end p.batch.txns (omega arith))
          ∙ ap (λ (es : List Entry). ws ++ filter (explains q.version q.txn q.snapshot q.range)
          (written_from p.proxy p.batch.version 0 p.batch.txns es)) (take_all end p.reply.entries entries))
          (found_skipping q.version q.txn q.snapshot q.range p.proxy p.batch.version p.batch.txns p.reply.entries from end ws _
          c.loop-txn.invariant.within (omega arith) fits none (c.loop-txn.invariant.found ws before));
    }
