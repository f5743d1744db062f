use Rattle.std.proofs.Common.{◌≡◌, ◌<◌, ◌≤◌, ◌-◌, ◌∙◌, ℕ, List, ◌∷◌, length, get_or, take, drop, sym, ap, ap₂, subst, rules, arith}
use Rattle.std.specs.Prelude.{Some, slice_get}
use Rattle.shards.proofs.IndexLists.{length-parts, part_at, part_within}
use Rattle.shards.proofs.read_indices.ReadIndices.txn.Goals.{After-as_slice-ends, After-part_start}
use Rattle.shards.proofs.read_indices.ReadIndices.txn.Goals as goal

inside : (c : After-as_slice-ends) → c.args.index < length c.self.inside.ends.items
inside c =
    let parts = length-parts 0 c.self.inside.indices.items c.self.inside.ends.items in
    omega (arith, c.requires.within, ap length c.self.view_is, parts)

within : (c : After-as_slice-ends) → c.args.index < length c.as_slice-ends.result.now
within c = subst (λ (ends : List ℕ). c.args.index < length ends) (sym c.as_slice-ends.ensures.value) (inside c)

-- the part lies within the list
bounds : (c : After-part_start) → (c.part_start.result ≤ get_or c.as_slice-ends.result.now c.args.index 0)
    × (get_or c.as_slice-ends.result.now c.args.index 0 ≤ length c.deref.result.now)
bounds c =
    let part = part_within 0 c.as_slice-ends.result.now (length c.self.inside.indices.items) c.args.index
    (rw c.as_slice-ends.ensures.value c.self.invariant.ends_fit) (rw c.as_slice-ends.ensures.value (inside_of c)) in
    (omega (arith, part.0, c.part_start.ensures.start), omega (arith, part.1, ap length c.deref.ensures.value))
  where
    inside_of : (c : After-part_start) → c.args.index < length c.self.inside.ends.items
    inside_of c =
        let parts = length-parts 0 c.self.inside.indices.items c.self.inside.ends.items in
        omega (arith, c.requires.within, ap length c.self.view_is, parts)

pub part_start-requires : goal.part_start-requires
part_start-requires c = let at = goal.at.part_start-requires c in record { within = within at.After-as_slice-ends }

pub offset_bounds-ends-index : goal.offset_bounds-ends-index
offset_bounds-ends-index c =
    let at = goal.at.offset_bounds-ends-index c in
    let low = within at.After-as_slice-ends in
    search rules

pub bounds-ends-index : goal.bounds-ends-index
bounds-ends-index c = within (goal.at.bounds-ends-index c).After-as_slice-ends

pub offset_bounds-deref-part_start : goal.offset_bounds-deref-part_start
offset_bounds-deref-part_start c =
    let at = goal.at.offset_bounds-deref-part_start c in
    let both = bounds at.After-part_start in
    let low : c.part_start.result ≤ length c.deref.result.now = omega (arith, both.0, both.1) in
    search rules

pub slice_bounds-result-count : goal.slice_bounds-result-count
slice_bounds-result-count c = (bounds (goal.at.slice_bounds-result-count c).After-part_start).0

pub slice_bounds-result-start : goal.slice_bounds-result-start
slice_bounds-result-start c =
    let both = bounds (goal.at.slice_bounds-result-start c).After-part_start in
    let low = both.0 in
    let high = both.1 in
    search rules

pub slice_bounds-result-end : goal.slice_bounds-result-end
slice_bounds-result-end c =
    let both = bounds (goal.at.slice_bounds-result-end c).After-part_start in
    let low = both.0 in
    let high = both.1 in
    search rules

pub returns-clause-indices : goal.returns-clause-indices
returns-clause-indices c =
    let at = goal.at.returns-clause-indices c in
    let all = c.self.inside.indices.items in
    let ends = c.self.inside.ends.items in
    let i = c.args.index in
    let from : get_or (0 ∷ ends) i 0 ≡ c.part_start.result =
    ap (λ (es : List ℕ). get_or (0 ∷ es) i 0) (sym c.as_slice-ends.ensures.value) ∙ sym c.part_start.ensures.start in
    let to : get_or ends i 0 ≡ get_or c.as_slice-ends.result.now i 0 =
    ap (λ (es : List ℕ). get_or es i 0) (sym c.as_slice-ends.ensures.value) in
    ap (λ (parts : List (List ℕ)). slice_get parts i) (sym c.self.view_is)
    ∙ part_at 0 all ends i (inside at.After-as_slice-ends)
    ∙ ap (λ (part : List ℕ). Some part) (ap₂ (λ (a b : ℕ). take (b - a) (drop a all)) from to
    ∙ ap (λ (xs : List ℕ). take (get_or c.as_slice-ends.result.now i 0 - c.part_start.result) (drop c.part_start.result xs)) (sym c.deref.ensures.value))
