use Rattle.std.proofs.Common.{rules, SFits, w64, ◌≡◌, ◌<◌, ℤ, List, length, ap₂, sym, subst, ◌∙◌, Some}
use Rattle.std.specs.Prelude.{IsSomeAnd}
use Rattle.std.proofs.lemmas.Int.{to_z-of_z}
use Rattle.std.proofs.lemmas.Option.{slice_get_within}
use Rattle.keys.specs.declared.range.Range.{Range}
use Rattle.keyspace.specs.declared.txn.Txn.{Txn}
use Rattle.keyspace.specs.storage.BatchRanges.{ranges_in}
use Rattle.conflict.proofs.NamedQuery.{name, found}
use Rattle.conflict.proofs.lookup.AskedReadsQueryList.query.Goals as goal

pub get-requires : goal.get-requires
get-requires c =
    let a = c.args.self.now in
    let f = found a.txns.now a.names.now a.named c.args.index c.requires.within in
    let at = name a.names.now c.args.index in
    record {
      within = subst (λ (ranges : List Range). at.range < length ranges) (sym c.ranges-2.ensures.ranges)
          (slice_get_within (ranges_in a.txns.now) at.range f.0.0 f.2);
    }

pub snapshot-requires : goal.snapshot-requires
snapshot-requires c =
    let a = c.args.self.now in
    let f = found a.txns.now a.names.now a.named c.args.index c.requires.within in
    record { within = slice_get_within a.txns.now (name a.names.now c.args.index).txn f.3.0 f.3.1 }

pub returns-clause-query : goal.returns-clause-query
returns-clause-query c =
    let a = c.args.self.now in
    let f = found a.txns.now a.names.now a.named c.args.index c.requires.within in
    let range : f.0.0 ≡ c.get.result =
    let all = c.ranges-2.ensures.ranges in let lent = c.get.ensures.range in let is = f.2 in cc in
    let same = subst (λ o. IsSomeAnd o (λ (t : Txn). c.snapshot.result ≡ t.snapshot)) f.3.1 c.snapshot.ensures.snapshot in
    let fits : SFits w64 c.snapshot.result = search rules in
    f.1 ∙ ap₂ (λ (r : Range) (version : ℤ). Some (r, version)) range
    (sym (to_z-of_z w64 c.snapshot.result fits ∙ same ∙ f.3.2))
