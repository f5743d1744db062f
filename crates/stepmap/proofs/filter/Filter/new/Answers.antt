use Rattle.std.proofs.Common.{◌≡◌, refl, arith, ap, ◌∙◌, length, replicate}
use Rattle.std.proofs.lemmas.Int.{ints}
use Rattle.std.proofs.lemmas.List.{length-replicate}
use Rattle.keys.specs.Hash.{hash_of}
use Rattle.stepmap.specs.Cell.{empty_cell}
use Rattle.stepmap.proofs.Bounds.{none_newer, none_written}
use Rattle.stepmap.proofs.filter.Filter.new.Goals as goal
use Rattle.stepmap.proofs.filter.Filter.new.Goals.{In_ok-from_elem}

filled : (c : In_ok-from_elem) → c.in_ok-from_elem.field-0.items ≡ replicate 256 empty_cell
filled c =
    c.in_ok-from_elem.ensures.items_if_clones_equal (λ y same. same)
    ∙ ap (replicate 256) c.empty.ensures.empty

pub returns-clause-bounds : goal.returns-clause-bounds
returns-clause-bounds c = λ key. none_written _ 256 (filled c) refl (hash_of key)

pub invariant_of-result : goal.invariant_of-result
invariant_of-result c =
    let many = ap length (filled c) in (
      omega (arith, many, length-replicate 256 empty_cell),
      omega (arith, many, length-replicate 256 empty_cell),
      none_newer _ 256 (filled c),
      omega (arith, ints),
    )
