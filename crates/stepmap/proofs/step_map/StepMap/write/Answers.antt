use Rattle.std.proofs.Common.{◌≡◌, ℕ, ◌+◌, ◌<◌, ◌≤◌, List, length, Some, sym, ◌∙◌, ap, subst, arith, length-drop}
use Rattle.std.specs.Prelude.{slice_get}
use Rattle.std.proofs.lemmas.Int.{ints, to_z-of_z}
use mir.Syntax.{w64}
use Rattle.stepmap.specs.Boundary.{Boundary}
use Rattle.stepmap.specs.StepMap.{Steps, AreSteps, lengths}
use Rattle.stepmap.specs.Writing.{boundaries_after_write, after_write}
use Rattle.stepmap.specs.Filtering.{BoundsSteps}
use Rattle.stepmap.specs.Kept.{steps_of}
use Rattle.boundaries.specs.Stored.{spare_in, each_length}
use Rattle.arena.specs.Arena.{wanted_of}
use Rattle.stepmap.proofs.Changes.{WriteKeeps, write_keeps}
use Rattle.stepmap.proofs.FilterBounds.{determines_written}
use Rattle.stepmap.proofs.NextReady.{some_ready, next_fits, others_fit}
use Rattle.stepmap.proofs.step_map.StepMap.write.Goals as goal
use Rattle.stepmap.proofs.step_map.StepMap.write.Goals.{After-pop_front, After-write}

-- the range is the next that was prepared
is_next : (c : After-pop_front) → slice_get c.self.inside.ready.items 0 ≡ Some (lengths c.args.range)
is_next c = ap (λ (m : Steps). slice_get m.ready 0) c.self.view_is ∙ c.requires.ready

some : (c : After-pop_front) → 0 < length c.self.inside.ready.items
some c = some_ready c.self.inside.ready.items (lengths c.args.range) (is_next c)

pub write-requires : goal.write-requires
write-requires c =
    let at = (goal.at.write-requires c).After-pop_front in
    record {
      boundaries = c.self.invariant.steps.boundaries;
      filled = c.requires.filled;
      keys = λ size lt. next_fits c.self.inside.ready.items
          (lengths c.args.range) size (spare_in c.self.inside.boundaries size) (is_next at) (c.self.invariant.keys size lt);
      nodes = omega (arith, c.self.invariant.boundaries, some at);
    }

new_map : (c : After-write) → Steps
new_map c = steps_of c.write.new.self c.self.inside.edge c.pop_front.new.self.items c.self.inside.cursor.items
    c.self.inside.round c.self.inside.limit

new_is : (c : After-write) → new_map c ≡ after_write c.args.range c.args.version c.args.self.now
unfolding new_map
new_is c =
    ap (λ (xs : List Boundary). record (new_map c) { boundaries = xs }) (c.write.ensures.boundaries
    ∙ ap (λ v. boundaries_after_write c.args.range v c.self.inside.boundaries.boundaries)
    (to_z-of_z w64 c.args.version c.ranges.version))
    ∙ ap (λ (rs : List (ℕ × ℕ)). record (new_map c) {
      boundaries =
          boundaries_after_write c.args.range c.args.version c.self.inside.boundaries.boundaries;
      ready = rs;
    }) c.pop_front.ensures.rest
    ∙ ap (after_write c.args.range c.args.version) c.self.view_is

keeps : (c : After-write) → WriteKeeps c.args.range c.args.version c.args.self.now (new_map c)
unfolding new_map
keeps c =
    write_keeps c.args.range c.requires.filled c.args.version c.args.self.now
    (subst AreSteps c.self.view_is c.self.invariant.steps) c.requires.newest c.requires.late
    (some_ready c.args.self.now.ready (lengths c.args.range) c.requires.ready) (new_map c) (new_is c)

pub invariant_of-self : goal.invariant_of-self
unfolding new_map
invariant_of-self c =
    let at = goal.at.invariant_of-self c in
    let keeps = keeps at.After-write in
    let same : length c.self.inside.boundaries.boundaries ≡ length c.args.self.now.boundaries =
    ap (λ (m : Steps). length m.boundaries) c.self.view_is in
    let fewer : length c.pop_front.new.self.items + 1 ≡ length c.self.inside.ready.items =
    omega (
      arith,
      ap length c.pop_front.ensures.rest,
      length-drop 1 c.self.inside.ready.items,
      some at.After-pop_front,
    ) in
    record {
      steps = keeps.steps;
      determines = determines_written c.self.inside.filter c.args.self.now (new_map at.After-write)
          (subst (BoundsSteps c.self.inside.filter) c.self.view_is c.self.invariant.determines) c.note.new.filter c.args.range
          c.args.version (ap (λ (m : Steps). m.edge) c.self.view_is) keeps.on_range keeps.elsewhere
          (λ key holds. omega (arith, ints, c.note.ensures.on_range key holds)) c.note.ensures.raised;
      boundaries =
          omega (arith, c.self.invariant.boundaries, keeps.count, same, fewer, c.write.ensures.room);
      keys = λ size lt. subst (λ (rs : List (ℕ × ℕ)). wanted_of (each_length rs) size ≤ spare_in c.write.new.self size)
          (sym c.pop_front.ensures.rest)
          (others_fit c.self.inside.ready.items (lengths c.args.range) size (spare_in c.self.inside.boundaries size)
          (spare_in c.write.new.self size) (is_next at.After-pop_front) (c.self.invariant.keys size lt)
          (c.write.ensures.spare size));
      any_key = c.self.invariant.any_key;
      at_cursor = c.self.invariant.at_cursor;
    }

pub returns : goal.returns
unfolding new_map
returns c =
    let at = (goal.at.returns c).After-write in
    let k = keeps at in
    record {
      map = new_is at;
      on_range = k.on_range;
      elsewhere = k.elsewhere;
      newest = k.newest;
      covers = k.covers;
      rooted = k.rooted;
      ends = k.ends;
      rest = k.rest_grows;
      count = k.count;
    }
