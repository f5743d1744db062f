use Rattle.std.proofs.Common.{◌≡◌, List, ap, sym, subst, ◌∙◌}
use Rattle.std.specs.Prelude.{ℕ, Bool, true, false, slice_index_or}
use Rattle.keys.specs.GapRuns.{AreChosenInOrder}
use Rattle.keys.specs.Singles.{AreRankedFor}
use Rattle.keys.specs.declared.range.Range.{Range}
use Rattle.keyspace.specs.storage.BatchRanges.{is_write_in, writes_in}
use Rattle.keyspace.specs.Writes.{committed_ranges}
use Rattle.stepmap.specs.Uniting.{Unites}
use Rattle.conflict.specs.Union.{AreSpanned, marked_ranges}
use Rattle.conflict.proofs.writes.UnitedWrites.gather.Goals.{After-spans}
use Rattle.conflict.proofs.writes.UnitedWrites.gather.Goals as goal

pub gather-requires-clause-ranked : goal.gather-requires-clause-ranked
gather-requires-clause-ranked c =
    let written = writes_in c.args.batch.now.txns in (
      written,
      subst (λ (ranges : List Range). AreRankedFor written ranges c.ranks.result.now)
          (sym c.ranges-ranges.ensures.ranges) c.ranks.ensures.ranked,
    )

pub gather-requires-clause-in_order : goal.gather-requires-clause-in_order
gather-requires-clause-in_order c =
    let txns = c.args.batch.now.txns in
    record {
      chosen = is_write_in txns;
      in_order = subst (λ ranges. AreChosenInOrder (is_write_in txns) ranges c.write_order.result.now)
          (sym c.ranges-ranges.ensures.ranges) c.write_order.ensures.order;
      all = subst (λ (marks : List Bool). (index : ℕ) → slice_index_or marks index false ≡ true → is_write_in txns index ≡ true)
          (sym c.deref.ensures.value) c.in_ok-mark_written.ensures.writes;
    }

-- the spans are those of ranges that unite what the batch commits
union : (c : After-spans) → (united : List Range) × AreSpanned c.ranges-ranges.result c.spans.result.now united
    × Unites united (committed_ranges c.args.batch.now.txns c.args.entries.now)
union c =
    let txns = c.args.batch.now.txns in
    let united = c.in_ok-gather.ensures.united in
    let picks : marked_ranges c.deref.result.now c.ranges-ranges.result ≡ committed_ranges txns c.args.entries.now =
    ap (λ marks. marked_ranges marks c.ranges-ranges.result) c.deref.ensures.value
    ∙ ap (marked_ranges c.mark_written.new.written.items) c.ranges-ranges.ensures.ranges
    ∙ c.in_ok-mark_written.ensures.written in (
      united.0,
      subst (λ spans. AreSpanned c.ranges-ranges.result spans united.0) (sym c.spans.ensures.spans) united.1,
      subst (Unites united.0) picks united.2,
    )

pub gather_lengths-requires : goal.gather_lengths-requires
gather_lengths-requires c =
    let one = union (goal.at.gather_lengths-requires c).After-spans in
    record { spanned = (one.0, one.1) }

pub returns : goal.returns
returns c =
    let one = union (goal.at.returns c).After-spans in
    record {
      union = record {
        united = one.0;
        spanned = subst (λ ranges. AreSpanned ranges c.gather.new.self one.0) c.ranges-ranges.ensures.ranges
            (subst (λ spans. AreSpanned c.ranges-ranges.result spans one.0) c.spans.ensures.spans one.1);
        unites = one.2;
        ready = c.in_ok-gather_lengths.ensures.lengths one.0 one.1;
      };
    }
