use Rattle.std.proofs.Common.{rules, ◌≡◌, ℕ, List, [], length, sym, ap, ◌∙◌}
use Rattle.std.proofs.Common.{deque_len}
use Rattle.std.specs.Prelude.{vec_capacity}
use Rattle.std.proofs.lemmas.Bool.{eqb-true}
use Rattle.std.proofs.lemmas.List.{nil_from_length}
use Rattle.stepmap.specs.Kept.{steps_of}
use Rattle.stepmap.proofs.InCopy.{same_in_copy, kept_in_copy}
use Rattle.stepmap.proofs.step_map.StepMap.trim.Goals as goal
use Rattle.stepmap.proofs.step_map.StepMap.trim.Goals.{After-len}

-- no range is ready
none_ready : (c : After-len) → c.self.inside.ready.items ≡ []
none_ready c =
    let ready = c.self.inside.ready in
    let count : length ready.items ≡ deque_len ready = search rules in
    nil_from_length ready.items (count ∙ eqb-true (deque_len ready) 0 (sym c.is_empty.ensures ∙ c.if-not-is_empty.false))

pub invariant_of-self : goal.invariant_of-self
invariant_of-self c =
    let i = c.self.inside in
    let none = none_ready (goal.at.invariant_of-self c).After-len in
    rw c.new.ensures.items
    (kept_in_copy i.boundaries c.in_ok-self-inside.field-0 i.filter i.edge i.ready.items i.cursor.items i.round i.limit none
    c.in_ok-self-inside.ensures.boundaries (vec_capacity i.cursor) c.self.invariant c.in_ok-self-inside.ensures.within)

pub returns : goal.returns
returns c =
    let i = c.self.inside in
    let later = c.in_ok-self-inside.field-0 in
    let none = none_ready (goal.at.returns c).After-len in
    record {
      same = ap (λ (ready : List (ℕ × ℕ)). steps_of later i.edge ready i.cursor.items i.round i.limit) c.new.ensures.items
          ∙ same_in_copy i.boundaries later i.filter i.edge i.ready.items i.cursor.items i.round i.limit none
          c.in_ok-self-inside.ensures.boundaries
          ∙ c.self.view_is;
    }
