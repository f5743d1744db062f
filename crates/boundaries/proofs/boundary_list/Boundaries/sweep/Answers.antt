use Rattle.std.proofs.Common.{arith, rules, ◌≡◌, ◌≢◌, ℕ, true, false, ◌≤◌, ◌==◌, List, [], ◌∷◌, length, refl, sym, ◌∙◌, ap, w64, SFits, Vec, Global, vec_len}
use Rattle.std.proofs.lemmas.Bool.{eqb-false, eqb-true}
use Rattle.std.proofs.lemmas.Int.{to_z-of_z}
use Rattle.boundaries.specs.Boundary.{AreInOrder}
use Rattle.boundaries.specs.Swept.{left_from, passed_to, boundaries_after_sweep}
use Rattle.boundaries.proofs.SweepingOn.{none_swept, more_swept, all_swept, count_swept, swept_keys, first_there}
use Rattle.boundaries.proofs.boundary_list.Boundaries.sweep.Goals as goal
use Rattle.boundaries.proofs.boundary_list.Boundaries.sweep.Goals.{After-resume-before}

-- the boundaries are in order, as the invariant says
in_order : (c : After-resume-before) → AreInOrder c.args.self.now.boundaries
in_order c = c.requires.boundaries.in_order

-- a vector with some bytes
not_empty : (v : Vec ℕ Global) → (vec_len v == 0) ≡ false → v.items ≢ []
not_empty v some none = let k : length v.items ≡ vec_len v = search rules in eqb-false (vec_len v) 0 some (sym k ∙ ap length none)

-- and one without
is_none : (v : Vec ℕ Global) → (vec_len v == 0) ≡ true → v.items ≡ []
is_none v e =
    let k : length v.items ≡ vec_len v = search rules in
    none_if_short v.items (omega (arith, k, eqb-true (vec_len v) 0 e))
  where
    none_if_short : (xs : List ℕ) → length xs ≤ 0 → xs ≡ []
    none_if_short [] le = refl
    none_if_short (x ∷ xs) le = absurd (omega arith)

pub loop-left-init : goal.loop-left-init
loop-left-init c =
    let fits : SFits w64 c.resume-before.result = search rules in
    record {
      swept =
          none_swept _ c.args.cursor.now.items c.args.self.now.boundaries (in_order c) c.args.count _ _
          (to_z-of_z w64 c.resume-before.result fits ∙ c.resume-before.ensures.version) c.resume-before.ensures.cursor;
      capacity = c.resume-before.ensures.capacity;
      spare = λ size. omega arith;
      room = refl;
    }

pub remove_expired-removal-requires : goal.remove_expired-removal-requires
remove_expired-removal-requires c =
    let order = in_order (goal.at.remove_expired-removal-requires c).After-resume-before in
    let h = c.loop-left.invariant in
    let later = not_empty c.loop-left.cursor (sym c.is_empty.ensures ∙ c.if-not-is_empty.true) in
    record {
      keys = swept_keys _ _ _ order _ _ _ _ _ h.swept c.requires.boundaries.keys;
      any_key = omega (arith, h.capacity, c.requires.any_key);
      later = later;
      there = first_there _ _ _ order _ _ _ _ _ h.swept later;
      count = omega (arith, c.loop-left-test.true);
    }

pub loop-left-preserved : goal.loop-left-preserved
loop-left-preserved c =
    let order = in_order (goal.at.loop-left-preserved c).After-resume-before in
    let h = c.loop-left.invariant in
    let later = not_empty c.loop-left.cursor (sym c.is_empty.ensures ∙ c.if-not-is_empty.true) in
    let e = c.remove_expired-removal.ensures in
    let fits : SFits w64 c.remove_expired-removal.result.last = search rules in
    record {
      swept =
          more_swept _ _ _ order _ _ _ _ _ h.swept later c.remove_expired-removal.result.looked_at _ _
          c.remove_expired-removal.new.self.boundaries e.count.1 e.within
          (to_z-of_z w64 c.remove_expired-removal.result.last fits ∙ e.last) e.boundaries e.cursor;
      capacity = omega (arith, h.capacity, e.capacity);
      spare = λ size. omega (arith, h.spare size, e.spare size);
      room = e.room ∙ h.room;
    }

pub returns-else-not-is_empty-clause-boundaries : goal.returns-else-not-is_empty-clause-boundaries
returns-else-not-is_empty-clause-boundaries c =
    let order = in_order (goal.at.returns-else-not-is_empty-clause-boundaries c).After-resume-before in
    let none = is_none c.loop-left.cursor (sym c.is_empty.ensures ∙ c.if-not-is_empty.false) in
    let edge = to_z-of_z w64 c.args.edge c.ranges.edge in
    (all_swept _ _ _ order _ _ _ _ _ c.loop-left.invariant.swept none).0
    ∙ ap (λ e. boundaries_after_sweep e c.args.count (passed_to c.args.cursor.now.items c.args.self.now.boundaries)
    (left_from c.args.cursor.now.items c.args.self.now.boundaries)) edge

pub returns-else-not-is_empty-clause-cursor : goal.returns-else-not-is_empty-clause-cursor
returns-else-not-is_empty-clause-cursor c =
    let order = in_order (goal.at.returns-else-not-is_empty-clause-cursor c).After-resume-before in
    let none = is_none c.loop-left.cursor (sym c.is_empty.ensures ∙ c.if-not-is_empty.false) in
    (all_swept _ _ _ order _ _ _ _ _ c.loop-left.invariant.swept none).1

pub returns-after-loop-left-clause-boundaries : goal.returns-after-loop-left-clause-boundaries
returns-after-loop-left-clause-boundaries c =
    let order = in_order (goal.at.returns-after-loop-left-clause-boundaries c).After-resume-before in
    let edge = to_z-of_z w64 c.args.edge c.ranges.edge in
    (count_swept _ _ _ order _ _ _ _ _ c.loop-left.invariant.swept (omega arith)).0
    ∙ ap (λ e. boundaries_after_sweep e c.args.count (passed_to c.args.cursor.now.items c.args.self.now.boundaries)
    (left_from c.args.cursor.now.items c.args.self.now.boundaries)) edge

pub returns-after-loop-left-clause-cursor : goal.returns-after-loop-left-clause-cursor
returns-after-loop-left-clause-cursor c =
    let order = in_order (goal.at.returns-after-loop-left-clause-cursor c).After-resume-before in
    (count_swept _ _ _ order _ _ _ _ _ c.loop-left.invariant.swept (omega arith)).1
