use Rattle.std.proofs.Common.{◌∙◌, ℕ, List, [], ◌∷◌, ◌++◌, take, map, sym, ap, append_assoc, Bor, arith, take_all}
use Rattle.std.proofs.lemmas.List.{map_push}
use Rattle.keys.specs.declared.range.Range.{Range}
use Rattle.shards.specs.Picking.{keys_of}
use Rattle.shards.proofs.Leasts.{take_next}
use Rattle.shards.proofs.balanced_points.put_begins.Goals as goal

pub loop-index-preserved : goal.loop-index-preserved
loop-index-preserved c =
    let i = c.loop-index.index in
    let ranges = c.ranges-ranges.result in
    let range = c.get.result in
    let begin = λ (range : Range). range.begin in
    let now = λ (key : Bor (List ℕ)). key.now in
    let old = keys_of c.args.begins.now.items in
    let so_far = c.loop-index.begins.items in
    let next = ap (map begin) (take_next ranges i range c.get.ensures.range) ∙ map_push begin (take i ranges) range in
    ap keys_of c.in_ok-push.ensures.items ∙ map_push now so_far c.begin.result
    ∙ ap (λ (key : List ℕ). keys_of so_far ++ key ∷ []) c.begin.ensures.bytes
    ∙ ap (λ (front : List (List ℕ)). front ++ range.begin ∷ []) c.loop-index.invariant
    ∙ append_assoc old (map begin (take i ranges)) (range.begin ∷ [])
    ∙ ap (λ (all : List (List ℕ)). old ++ all) (sym next)

pub returns : goal.returns
returns c = record {
  put =
      c.loop-index.invariant
      ∙ ap (λ (ranges : List Range). keys_of c.args.begins.now.items ++ map (λ (range : Range). range.begin) ranges)
      (take_all c.loop-index.index c.ranges-ranges.result (omega arith) ∙ c.ranges-ranges.ensures.ranges);
}
