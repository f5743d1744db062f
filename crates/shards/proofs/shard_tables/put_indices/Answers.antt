use Rattle.std.proofs.Common.{◌≡◌, ◌++◌, ◌∷◌, ◌∙◌, ℕ, List, [], take, sym, ap, arith, append_assoc, take_all}
use Rattle.std.proofs.lemmas.Slice.Zip.{AllZip-long}
use Rattle.keys.specs.declared.range.Range.{Range}
use Rattle.keys.proofs.callers.Lists.{some_at, AllZip-at}
use Rattle.keyspace.specs.Judge.{places_from}
use Rattle.shards.specs.Clips.{goes_to}
use Rattle.shards.specs.Reach.{IsReported}
use Rattle.shards.specs.declared.reach.Reach.{Reach}
use Rattle.shards.proofs.IndexLists.{places_with, places_without}
use Rattle.shards.proofs.shard_tables.put_indices.Goals.{then-includes+in_ok-push, else-includes}
use Rattle.shards.proofs.shard_tables.put_indices.Goals as goal

pub loop-index-preserved : goal.loop-index-preserved
loop-index-preserved c = λ owner ranges reported.
    let i = c.loop-index.index in
    let reaches = c.args.reaches.now in
    let long = AllZip-long (IsReported owner c.args.shard) ranges reaches reported in
    let range = some_at ranges i (omega (arith, long, c.loop-index-test.true)) in
    let none : Reach = record { first = 0; last = 0 } in
    let is = AllZip-at (IsReported owner c.args.shard) ranges reaches i range.0 none range.1 reported in
    let goes : goes_to owner range.0 ≡ c.includes.result = is.goes ∙ sym c.includes.ensures.reached in
    let before = c.loop-index.invariant owner ranges reported in
    let old = c.args.indices.now.items in
    let front = places_from 0 (goes_to owner) (take i ranges) in
    elim c.if-includes.branch [
      | then-includes+in_ok-push w ↦
          ap (λ v. v.items) w.indices-is ∙ w.in_ok-push.ensures.items ∙ ap (λ (all : List ℕ). all ++ i ∷ []) before
          ∙ append_assoc old front (i ∷ [])
          ∙ ap (λ (all : List ℕ). old ++ all) (sym (places_with (goes_to owner) ranges i range.0 range.1 (goes ∙ w.if-includes.true)))
      | else-includes w ↦
          ap (λ v. v.items) w.indices-is ∙ before
          ∙ ap (λ (all : List ℕ). old ++ all) (sym (places_without (goes_to owner) ranges i range.0 range.1 (goes ∙ w.if-includes.false)))
    ]

pub returns : goal.returns
returns c = record {
  put = λ owner ranges reported.
      let i = c.loop-index.index in
      let long = AllZip-long (IsReported owner c.args.shard) ranges c.args.reaches.now reported in
      c.loop-index.invariant owner ranges reported
      ∙ ap (λ (all : List Range). c.args.indices.now.items ++ places_from 0 (goes_to owner) all)
      (take_all i ranges (omega (arith, long, c.loop-index-test.false)));
}
