use Rattle.std.proofs.Common.{◌≡◌, ◌*◌, ◌-◌, ◌++◌, length, replicate, take, refl, ◌∙◌, ap, arith}
use Rattle.std.proofs.lemmas.List.{take_all, take-append-le, with_items_is}
use Rattle.std.specs.Vec.{with_items}
use Rattle.keys.specs.Hash.{hash_of}
use Rattle.stepmap.specs.Filter.{FilterState, bound, each_twice}
use Rattle.stepmap.proofs.Bounds.{length-each_twice, doubled, twice_none_newer}
use Rattle.stepmap.proofs.filter.Filter.double.Goals as goal
use Rattle.stepmap.proofs.filter.Filter.double.Goals.{After-spread}

-- how many cells there are before
count : (c : After-spread) → c.len-count.result ≡ length c.self.inside.cells.items
count c = c.len-count.ensures ∙ c.self.inside.cells.ok.0

-- After the vector grew, the cells are still the first ones.
kept : (c : After-spread) → take c.len-count.result c.deref_mut.result.now ≡ c.self.inside.cells.items
kept c =
    let n = c.len-count.result in
    let old = c.self.inside.cells.items in
    let more = replicate (2 * n - c.self.inside.cells.len) c.empty.result in
    let all = take_all (2 * n) old (omega (arith, count c)) in
    ap (take n) (c.deref_mut.ensures.value ∙ c.in_ok-resize.ensures.items ∙ ap (λ cells. cells ++ more) all)
    ∙ take-append-le n old more (omega (arith, count c))
    ∙ take_all n old (omega (arith, count c))

-- the cells in the end
twice : (c : After-spread) → (with_items c.resize.new.self c.spread.new.cells).items
    ≡ each_twice c.self.inside.cells.items
twice c =
    let is = c.spread.ensures.twice ∙ ap each_twice (kept c) in
    let many = ap length is ∙ length-each_twice c.self.inside.cells.items in
    with_items_is c.resize.new.self c.spread.new.cells (omega (arith, many, count c, c.in_ok-resize.ensures.len)) ∙ is

many : (c : After-spread) → length (with_items c.resize.new.self c.spread.new.cells).items
    ≡ 2 * length c.self.inside.cells.items
many c = ap length (twice c) ∙ length-each_twice c.self.inside.cells.items

pub invariant_of-self-2 : goal.invariant_of-self-2
invariant_of-self-2 c =
    let at = (goal.at.invariant_of-self-2 c).After-spread in
    let few = ap (λ (f : FilterState). length f.cells) c.self.view_is in (
      omega (arith, c.self.invariant.0, many at),
      omega (arith, c.requires.few, few, many at),
      twice_none_newer c.self.inside.cells.items _ c.self.inside.newest_key (twice at) c.self.invariant.2,
      c.self.invariant.3,
    )

pub returns-clause-same : goal.returns-clause-same
returns-clause-same c =
    let at = (goal.at.returns-clause-same c).After-spread in
    let i = c.self.inside in
    let old : FilterState = record { cells = i.cells.items; newest_range = i.newest_range; newest_key = i.newest_key } in
    λ key. doubled old _ (twice at) refl (hash_of key) ∙ ap (λ (f : FilterState). bound f key) c.self.view_is
