use Rattle.std.proofs.Common.{◌≡◌, ◌∙◌, not, ◌||◌, ℕ, List, sym, ap, ap₂}
use Rattle.keys.specs.Key.{is_before}
use Rattle.keys.specs.declared.range.Range.{Range}
use Rattle.serial.specs.Shards.{ends_above}
use Rattle.shards.specs.Cut.{shard_of_ends}
use Rattle.shards.specs.Reach.{ends_below}
use Rattle.shards.proofs.Cutting.{begins_after, is_missed, is_reached}
use Rattle.shards.proofs.shard_ends.ShardEnds.cut.Goals.{After-ends_after, After-is_reached}
use Rattle.shards.proofs.shard_ends.ShardEnds.cut.Goals as goal

-- what the tests say of a range of these keys
above : (c : After-ends_after) (range : Range) → range.begin ≡ c.args.begin.now
    → ends_above (shard_of_ends c.args.self.now).to range.begin ≡ c.ends_after.result
above c range begin =
    ap (ends_above (shard_of_ends c.args.self.now).to) (begin ∙ sym c.new-begin.ensures.key) ∙ sym c.ends_after.ensures.above

before : (c : After-is_reached) (range : Range) → range.begin ≡ c.args.begin.now
    → is_before range.begin (shard_of_ends c.args.self.now).from ≡ c.is_before-is_cut.result
before c range begin =
    ap (λ (key : List ℕ). is_before key (shard_of_ends c.args.self.now).from) (begin ∙ sym c.new-begin.ensures.key)
    ∙ sym c.is_before-is_cut.ensures.before

reached : (c : After-is_reached) (range : Range) → range.begin ≡ c.args.begin.now → range.end ≡ c.args.end.now
    → (not (is_before range.begin (shard_of_ends c.args.self.now).from) || is_before (shard_of_ends c.args.self.now).from range.end)
    ≡ c.is_reached.result
reached c range begin end =
    ap₂ (λ b (key : List ℕ). not b || is_before (shard_of_ends c.args.self.now).from key) (before c range begin)
    (end ∙ sym c.new-end.ensures.key)
    ∙ sym c.is_reached.ensures.reached

pub returns-then-not-ends_after : goal.returns-then-not-ends_after
returns-then-not-ends_after c = record {
  cut = λ range begin end.
      let at = goal.at.returns-then-not-ends_after c in
      begins_after (shard_of_ends c.args.self.now) range
      (above at.After-ends_after range begin ∙ c.if-not-ends_after.true);
}

pub returns-then-not-is_reached : goal.returns-then-not-is_reached
returns-then-not-is_reached c = record {
  cut = λ range begin end.
      let at = goal.at.returns-then-not-is_reached c in
      is_missed (shard_of_ends c.args.self.now) range
      (reached at.After-is_reached range begin end ∙ c.if-not-is_reached.true);
}

pub returns : goal.returns
returns c = record {
  cut = λ range begin end.
      let at = goal.at.returns c in
      record {
        goes = is_reached (shard_of_ends c.args.self.now) range
            (above at.After-ends_after range begin ∙ c.if-not-ends_after.false)
            (reached at.After-is_reached range begin end ∙ c.if-not-is_reached.false);
        begin = sym (before at.After-is_reached range begin);
        end = c.ends_before.ensures.below
            ∙ ap (ends_below (shard_of_ends c.args.self.now).to) (c.new-end.ensures.key ∙ sym end);
      };
}
