use Rattle.std.proofs.Common.{◌≡◌, ℕ, ◌+◌, ◌&&◌, ◌==◌, cond, not, Option, ap, subst, ◌∙◌}
use Rattle.keys.specs.declared.range.Range.{Range}
use Rattle.replay_hot_ranges.specs.Counts.{Ends, has_ends}
use Rattle.std.specs.BTreeMap as tree
use Rattle.replay_hot_ranges.specs.RangeTally.{conflicts_at, conflicts_in, is_last, is_last_in}
use Rattle.replay_hot_ranges.specs.Top.{ends_cmp}
use Rattle.replay_hot_ranges.specs.declared.tally.Count.{Count}
use Rattle.replay_hot_ranges.specs.declared.tally.RangeTally.{RangeTally}
use Rattle.replay_hot_ranges.proofs.Noting.{noted_conflicts, noted_last}
use Rattle.replay_hot_ranges.proofs.tally.RangeTally.note.Goals as goal

pub returns : goal.returns
returns c =
    let old = c.args.self.now in
    let new : RangeTally = record { counts = c.insert.new.self } in
    let txn = c.args.txn in
    let count = c.in_ok-count.count in
    let key : Ends = (c.in_ok-range.range.begin, c.in_ok-range.range.end) in
    let copied : c.copied.result ≡ tree.get ends_cmp old.counts key = c.copied.ensures ∙ c.get.ensures.value in
    let conflicts_are : count.conflict_count ≡ cond (is_last old txn key) (conflicts_at old key) (conflicts_at old key + 1) =
    c.in_ok-count.ensures.conflicts
    ∙ ap (λ (o : Option Count). cond (is_last_in o txn) (conflicts_in o) (conflicts_in o + 1)) copied in
    record {
      conflicts =
          subst (λ (r : Range). (ends : Ends) → conflicts_at new ends
          ≡ cond (has_ends ends r && not (is_last old txn ends)) (conflicts_at old ends + 1) (conflicts_at old ends))
          c.in_ok-range.ensures.equal
          (noted_conflicts old new c.in_ok-range.range txn count c.in_ok-insert.ensures.updates.0 c.in_ok-count.ensures.last
          conflicts_are);
      last =
          subst (λ (r : Range). (ends : Ends) (other : ℕ) → is_last new other ends ≡ cond (has_ends ends r) (txn == other) (is_last old other ends))
          c.in_ok-range.ensures.equal
          (noted_last old new c.in_ok-range.range txn count c.in_ok-insert.ensures.updates.0 c.in_ok-count.ensures.last
          conflicts_are);
    }
