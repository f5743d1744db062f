use Rattle.std.proofs.Common.{◌≡◌, ◌+◌, ◌<◌, ◌≤◌, ◌++◌, ◌∙◌, length, take, drop, replicate, cond, true, false, refl, sym, ap, subst, arith}
use Rattle.std.proofs.lemmas.Grind.{common_steps}
use Rattle.std.proofs.lemmas.List.{take_at}
use denote.Enum.Bare.{sameb}
use Rattle.keyspace.specs.contracts.reply.Verdict.{the_type}
use Rattle.keyspace.specs.storage.BatchRanges.{write_marks}
use Rattle.keyspace.specs.declared.reply.Verdict.{Verdict}
use Rattle.keyspace.specs.declared.reply.Verdict.TheVariants.{Conflict, TooOld, Committed}
use Rattle.keyspace.specs.declared.txn.Txn.{Txn}
use Rattle.conflict.proofs.Parts.{lent_at}
use Rattle.conflict.proofs.Marks.{AreMarksOf, counts, marked_to-init, marked_to-room, marked_to-next, marked_to-all, part_set, determined_at}
use Rattle.conflict.proofs.writes.mark_written.Goals.{then-eq, else-eq}
use Rattle.conflict.proofs.writes.mark_written.Goals as goal

-- what the comparison says
says : (verdict : Verdict) → sameb the_type verdict Committed ≡ counts verdict
says Committed = refl
says TooOld = refl
says Conflict = refl

pub loop-index-init : goal.loop-index-init
loop-index-init c =
    let items : c.resize.new.self.items ≡ replicate c.len.result false =
    c.in_ok-resize.ensures.items ∙ rw (c.clear.ensures.items, c.clear.ensures.len) (grind (arith, common_steps)) in
    marked_to-init c.deref_mut.result.now c.len.result c.args.batch.now.txns c.args.entries.now
    (c.deref_mut.ensures.value ∙ items) (c.len.ensures.count ∙ ap length c.ranges-2.ensures.ranges)

pub slice_bounds-mark_all-end : goal.slice_bounds-mark_all-end
slice_bounds-mark_all-end c =
    let txns = c.args.batch.now.txns in
    let i = c.loop-index.index in
    let t = c.txn-txn.result in
    let inside : i < length txns = omega (arith, c.loop-index-test.true, c.len-index-end.ensures.count) in
    let reads : c.len-in-loop-index.result ≡ length t.reads =
    c.len-in-loop-index.ensures.count ∙ ap (λ (u : Txn). length u.reads) c.txn.view_is in
    let writes : c.len-in-loop-index-2.result ≡ length t.writes =
    c.len-in-loop-index-2.ensures.count ∙ ap (λ (u : Txn). length u.writes) c.txn.view_is in
    omega (
      arith,
      marked_to-room c.loop-index.marks c.loop-index.end txns c.args.entries.now i t inside
          (lent_at txns i t inside c.txn-txn.ensures.txn) c.loop-index.invariant,
      reads,
      writes,
    )

pub loop-index-preserved : goal.loop-index-preserved
loop-index-preserved c =
    let txns = c.args.batch.now.txns in
    let i = c.loop-index.index in
    let t = c.txn-txn.result in
    let inside : i < length txns = omega (arith, c.loop-index-test.true, c.len-index-end.ensures.count) in
    let reads : c.len-in-loop-index.result ≡ length t.reads =
    c.len-in-loop-index.ensures.count ∙ ap (λ (u : Txn). length u.reads) c.txn.view_is in
    let writes : c.len-in-loop-index-2.result ≡ length t.writes =
    c.len-in-loop-index-2.ensures.count ∙ ap (λ (u : Txn). length u.writes) c.txn.view_is in
    let e = c.index-entries-index.result in
    let commits : c.eq.result ≡ counts e.verdict =
    c.eq.ensures ∙ ap (λ x. sameb the_type x.verdict Committed) (sym c.index-entries-index.is) ∙ says e.verdict in
    let marks = c.loop-index.marks in
    let is_next = lent_at txns i t inside c.txn-txn.ensures.txn in
    let begin = c.loop-index.end + c.len-in-loop-index.result in
    let room : begin + c.len-in-loop-index-2.result ≤ length marks = omega (
      arith,
      marked_to-room marks c.loop-index.end txns
          c.args.entries.now i t inside is_next c.loop-index.invariant,
      reads,
      writes,
    ) in
    let set = take begin marks ++ (replicate c.len-in-loop-index-2.result true ++ drop (begin + c.len-in-loop-index-2.result) marks) in
    marked_to-next marks c.if-eq.marks c.loop-index.end c.len-in-loop-index.result c.len-in-loop-index-2.result txns
    c.args.entries.now i t e inside c.requires.entries is_next c.index-entries-index.is reads writes c.loop-index.invariant
    (elim c.if-eq.branch [
      | then-eq w ↦ w.marks-is
          ∙ part_set marks w.mark_all.new.marks begin c.len-in-loop-index-2.result room w.mark_all.ensures.marked
          ∙ ap (λ b. cond b set marks) (sym w.if-eq.true ∙ commits)
      | else-eq w ↦ w.marks-is ∙ ap (λ b. cond b set marks) (sym w.if-eq.false ∙ commits)
    ])

pub returns : goal.returns
returns c =
    let txns = c.args.batch.now.txns in
    let marks = c.loop-index.marks in
    let past : length txns ≤ c.loop-index.index = omega (arith, c.loop-index-test.false, c.len-index-end.ensures.count) in
    let all = marked_to-all marks c.loop-index.end txns c.args.entries.now c.loop-index.index past c.requires.entries
    c.loop-index.invariant in
    let size : length marks ≡ c.resize.new.self.len = c.loop-index.auto.marks ∙ c.deref_mut.ensures.len in
    let now = subst (λ ms. AreMarksOf ms txns c.args.entries.now)
    (sym (take_at marks (drop (length marks) c.resize.new.self.items) c.resize.new.self.len size)) all in
    record { written = now.written; count = now.count; writes = determined_at _ (write_marks txns) now.determine }
