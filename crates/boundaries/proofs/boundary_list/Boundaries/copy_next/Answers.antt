use Rattle.std.proofs.Common.{arith, rules, ◌≡◌, ◌≤◌, ℕ, List, [], ◌∷◌, length, sym, ap, ap₂, subst, ◌∙◌, w64, to_z, of_z}
use Rattle.std.specs.Prelude.{ℤ, FitsSigned}
use Rattle.std.proofs.lemmas.Int.{to_z-of_z}
use Rattle.arena.specs.Arena.{HasRoomFor}
use Rattle.keys.specs.Key.{IsKey, IsAtMost}
use Rattle.keys.specs.declared.key.TheConstants.{MAX_KEY_LENGTH}
use Rattle.keys.specs.declared.range.Range.{Range}
use Rattle.keys.proofs.callers.KeyOrder.{before_at_most_same}
use Rattle.boundaries.specs.Boundary.{Boundary, AreBoundaries, value_at}
use Rattle.boundaries.specs.Copying.{boundaries_after, IsCopiedTo}
use Rattle.boundaries.specs.Boundary.{first_key}
use Rattle.boundaries.specs.Stored.{lengths, spare_in}
use Rattle.boundaries.specs.Written.{boundaries_after_write}
use Rattle.boundaries.proofs.CopiedOn.{IsNext, has_next, next_has, rises, filled, version_here, copied_next, copied_longer, copied_boundaries}
use Rattle.boundaries.proofs.boundary_list.Boundaries.copy_next.Goals as goal
use Rattle.boundaries.proofs.boundary_list.Boundaries.copy_next.Goals.{After-look_past-version, After-of-2, After-write}

-- the boundary after the one at `from`
next_one : (c : After-look_past-version)
    → IsNext c.args.self.now.boundaries c.requires.boundaries c.args.from.now.items c.args.copy.now.boundaries c.requires.copied
    c.look_past-version.new.next.items
next_one c =
    let bs = c.args.self.now.boundaries in
    has_next bs c.requires.boundaries c.args.from.now.items c.args.copy.now.boundaries c.requires.copied c.requires.more
    c.look_past-version.new.next.items
    (c.look_past-version.ensures.next ∙ ap (λ key. first_key (boundaries_after key bs)) c.deref.ensures.value)

pub new-requires-clause-end : goal.new-requires-clause-end
new-requires-clause-end c =
    let n = next_one (goal.at.new-requires-clause-end c).After-look_past-version in
    let key = next_has c.args.self.now.boundaries c.requires.boundaries c.args.from.now.items c.args.copy.now.boundaries
    c.requires.copied c.look_past-version.new.next.items n (λ b. IsKey b.key) c.requires.boundaries.keys in
    subst (λ (k : List ℕ). length k ≤ MAX_KEY_LENGTH) (sym c.deref-3.ensures.value) key.short

pub new-requires-clause-ordered : goal.new-requires-clause-ordered
new-requires-clause-ordered c =
    let n = next_one (goal.at.new-requires-clause-ordered c).After-look_past-version in
    let next = c.look_past-version.new.next.items in
    let before = rises c.args.self.now.boundaries c.requires.boundaries c.args.from.now.items c.args.copy.now.boundaries
    c.requires.copied next n in
    subst (λ (k : List ℕ). IsAtMost k c.deref-3.result.now) (sym c.deref-2.ensures.value)
    (subst (λ (k : List ℕ). IsAtMost c.args.from.now.items k) (sym c.deref-3.ensures.value)
    (before_at_most_same c.args.from.now.items next before))

-- the range that is written goes from the one key to the other
begins : (c : After-of-2) → c.of-2.result.begin ≡ c.args.from.now.items
begins c = ap (λ (r : Range). r.begin) c.of-2.ensures.range ∙ c.new-2.ensures.begin ∙ c.deref-4.ensures.value

ends : (c : After-of-2) → c.of-2.result.end ≡ c.look_past-version.new.next.items
ends c = ap (λ (r : Range). r.end) c.of-2.ensures.range ∙ c.new-2.ensures.end ∙ c.deref-5.ensures.value

-- its version is that of the boundary at its begin
is_version : (c : After-of-2) → c.look_past-version.result ≡ c.requires.copied.version
is_version c =
    c.look_past-version.ensures.version
    ∙ ap (value_at c.args.self.now.boundaries) c.deref.ensures.value
    ∙ version_here c.args.self.now.boundaries c.requires.boundaries c.args.from.now.items c.args.copy.now.boundaries c.requires.copied

pub write-requires : goal.write-requires
write-requires c =
    let at = (goal.at.write-requires c).After-of-2 in
    let n = next_one (goal.at.write-requires c).After-look_past-version in
    let next = c.look_past-version.new.next.items in
    let from = c.args.from.now.items in
    let fill = filled c.args.self.now.boundaries c.requires.boundaries from c.args.copy.now.boundaries c.requires.copied next n
    c.requires.copy_boundaries c.of-2.result (begins at) (ends at) c.look_past-version.result (is_version at) in
    let begin_length : lengths c.new.result ≡ (length c.of-2.result.begin, length c.of-2.result.end) =
    ap₂ (λ (a b : List ℕ). (length a, length b))
    (c.new.ensures.begin ∙ c.deref-2.ensures.value ∙ sym (begins at))
    (c.new.ensures.end ∙ c.deref-3.ensures.value ∙ sym (ends at)) in
    let room : HasRoomFor (spare_in c.reserve.new.self) (length c.of-2.result.begin ∷ length c.of-2.result.end ∷ []) =
    subst (λ (p : ℕ × ℕ). HasRoomFor (spare_in c.reserve.new.self) (p.0 ∷ p.1 ∷ [])) (c.of.ensures.lengths ∙ begin_length)
    c.in_ok-reserve.ensures.keys in
    record {
      boundaries = subst AreBoundaries (sym c.reserve.ensures.boundaries) c.requires.copy_boundaries;
      filled = fill;
      keys = room;
      nodes = omega (arith, c.in_ok-reserve.ensures.nodes);
    }

-- what is written then
is_written : (c : After-write)
    → c.write.new.self.boundaries ≡ boundaries_after_write c.of-2.result c.look_past-version.result c.args.copy.now.boundaries
is_written c =
    let fits : FitsSigned w64 c.look_past-version.result = search rules in
    c.write.ensures.boundaries
    ∙ ap (λ (bs : List Boundary). boundaries_after_write c.of-2.result (to_z w64 (of_z w64 c.look_past-version.result)) bs)
    c.reserve.ensures.boundaries
    ∙ ap (λ (v : ℤ). boundaries_after_write c.of-2.result v c.args.copy.now.boundaries) (to_z-of_z w64 c.look_past-version.result fits)

pub returns-clause-copied : goal.returns-clause-copied
returns-clause-copied c =
    let at = (goal.at.returns-clause-copied c).After-of-2 in
    let n = next_one (goal.at.returns-clause-copied c).After-look_past-version in
    let bs = c.args.self.now.boundaries in
    let next = c.look_past-version.new.next.items in
    let copied = copied_next bs c.requires.boundaries c.args.from.now.items c.args.copy.now.boundaries c.requires.copied next n
    c.requires.copy_boundaries c.of-2.result (begins at) (ends at) c.look_past-version.result (is_version at)
    c.write.new.self.boundaries (is_written (goal.at.returns-clause-copied c).After-write) in
    subst (λ (k : List ℕ). IsCopiedTo k bs c.write.new.self.boundaries) (sym (ap (λ v. v.items) c.swap.ensures.x_after)) copied

pub returns-clause-copy_boundaries : goal.returns-clause-copy_boundaries
returns-clause-copy_boundaries c =
    let at = (goal.at.returns-clause-copy_boundaries c).After-of-2 in
    let n = next_one (goal.at.returns-clause-copy_boundaries c).After-look_past-version in
    let bs = c.args.self.now.boundaries in
    let next = c.look_past-version.new.next.items in
    copied_boundaries bs c.requires.boundaries c.args.from.now.items c.args.copy.now.boundaries c.requires.copied next n
    c.requires.copy_boundaries c.of-2.result (begins at) (ends at) c.look_past-version.result (is_version at)
    c.write.new.self.boundaries (is_written (goal.at.returns-clause-copy_boundaries c).After-write)

pub returns-clause-longer : goal.returns-clause-longer
returns-clause-longer c =
    let at = (goal.at.returns-clause-longer c).After-of-2 in
    let n = next_one (goal.at.returns-clause-longer c).After-look_past-version in
    let bs = c.args.self.now.boundaries in
    let next = c.look_past-version.new.next.items in
    copied_longer bs c.requires.boundaries c.args.from.now.items c.args.copy.now.boundaries c.requires.copied next n
    c.requires.copy_boundaries c.of-2.result (begins at) (ends at) c.look_past-version.result (is_version at)
    c.write.new.self.boundaries (is_written (goal.at.returns-clause-longer c).After-write)
