use Rattle.std.proofs.Common.{◌≡◌, ◌-◌, ◌<◌, ◌++◌, ℕ, List, codes, length, arith, ap, ◌∙◌}
use Rattle.std.proofs.lemmas.Result.{on_ok_weaker}
use Rattle.std.specs.Prelude.{vec_len}
use Rattle.replay_tasks.proofs.Ranges.{appended, members_added, not_zero}
use Rattle.replay_tasks.proofs.summary.ranges.add_members.Goals as goal

pub returns : goal.returns
returns c =
    let object = c.args.object.now in
    let members = c.args.members.now in
    let end = c.saturating_sub-end.result in
    let more : 0 < length members = not_zero (length members) _ c.if-is_empty.false c.is_empty.ensures in
    let some : 0 < vec_len object = not_zero (vec_len object) _ c.if-is_empty-2.false c.is_empty-else-is_empty.ensures in
    let place : end ≡ length object.items - 2 = omega (arith, c.saturating_sub-end.ensures, c.len.ensures, object.ok.0) in
    let put = c.in_ok-extend_from_slice.ensures.items ∙ ap (λ (xs : List ℕ). xs ++ members) c.in_ok-push.ensures.items in
    record {
      text =
          on_ok_weaker c.extend_from_slice-2.result
          (λ ended. members_added object.items members c.truncate.new.self.items c.extend_from_slice-2.new.self.items end
          (omega (arith, some, object.ok.0)) more place c.truncate.ensures.items (ended ∙ ap (λ (xs : List ℕ). xs ++ codes "}\n") put))
          (appended c.extend_from_slice-2.result c.extend_from_slice-2.new.self.items c.extend_from_slice.new.self.items (codes "}\n")
          c.extend_from_slice-2.ensures.items);
    }
