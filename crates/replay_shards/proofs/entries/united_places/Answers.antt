use Rattle.std.proofs.Common.{◌≡◌, ◌<◌, ◌∙◌, ℕ, List, eqb, refl, sym, subst, take, take_all, All}
use Rattle.std.specs.Prelude.{Contains}
use Rattle.std.specs.List.{dedup}
use Rattle.std.specs.List.Sorted.{IsStrictlyIncreasing}
use Rattle.std.proofs.lemmas.List.Filters.{dedup_is, All-dedup}
use Rattle.std.proofs.lemmas.List.Kept.{Contains-dedup_nat, Contains-from_dedup}
use Rattle.std.proofs.lemmas.List.Sorted.{All-permutation, Contains-permutation, IsPermutation-sym}
use Rattle.std.proofs.lemmas.Map.Keys.{IsStrictlyIncreasing-dedup}
use Rattle.std.proofs.lemmas.Option.{slice_get_read}
use Rattle.shards.specs.Combined.{FitsAt}
use Rattle.shards.specs.declared.shard_reply.ShardReply.{ShardReply}
use Rattle.shards.proofs.callers.Combining.{IsUnion, union_more}
use Rattle.replay_shards.specs.declared.noted_reply.NotedReply.{NotedReply}
use Rattle.replay_shards.specs.Answers.{noted_in, noted_each}
use Rattle.replay_shards.proofs.NotedLists.{each_next, of_one}
use Rattle.replay_shards.proofs.entries.united_places.Goals.{After-dedup}
use Rattle.replay_shards.proofs.entries.united_places.Goals as goal

pub put_report-requires-clause-entries : goal.put_report-requires-clause-entries
put_report-requires-clause-entries c =
    let each = c.args.each.now in
    let i = c.loop-own.own-index in
    let own = c.own-item.result in
    (of_one (FitsAt c.args.index) each i own (slice_get_read each _ i own refl c.loop-own-test.true c.own-item.is) c.requires.fit).entry

pub put_report-requires-clause-places : goal.put_report-requires-clause-places
put_report-requires-clause-places c =
    let each = c.args.each.now in
    let i = c.loop-own.own-index in
    let own = c.own-item.result in
    (of_one (FitsAt c.args.index) each i own (slice_get_read each _ i own refl c.loop-own-test.true c.own-item.is) c.requires.fit).places

pub loop-own-preserved : goal.loop-own-preserved
loop-own-preserved c =
    let each = c.args.each.now in
    let i = c.loop-own.own-index in
    let own = c.own-item.result in
    let at = slice_get_read each _ i own refl c.loop-own-test.true c.own-item.is in
    record {
      union = subst (λ (front : List ShardReply). IsUnion c.args.index front c.put_report.new.found.items) (sym (each_next each i own at))
          (union_more c.args.index (noted_each (take i each)) (noted_in own) c.loop-own.places.items c.put_report.new.found.items
          c.loop-own.invariant.union c.in_ok-put_report.ensures.report);
      below = c.in_ok-put_report.ensures.below;
    }

-- what is left is each place once
kept : (c : After-dedup) → c.dedup.new.self.items ≡ dedup eqb c.sort_unstable.new.self.items
kept c = dedup_is eqb c.sort_unstable.new.self.items c.dedup.new.self.items c.dedup.ensures.filtered

pub new-requires : goal.new-requires
new-requires c =
    let sorted = c.sort_unstable.new.self.items in
    let P = λ (read : ℕ). read < 1024 in
    record {
      places = record {
        rising = subst IsStrictlyIncreasing (sym (kept c)) (IsStrictlyIncreasing-dedup sorted c.sort_unstable.ensures.sorted);
        below = subst (All P) (sym (kept c)) (All-dedup eqb P sorted
            (All-permutation P c.loop-own.places.items sorted c.sort_unstable.ensures.permutation c.loop-own.invariant.below));
      };
    }

pub returns-clause-union : goal.returns-clause-union
returns-clause-union c = λ read.
    let at = goal.at.returns-clause-union c in
    let each = c.args.each.now in
    let sorted = c.sort_unstable.new.self.items in
    let items = c.loop-own.places.items in
    let permuted = c.sort_unstable.ensures.permutation in
    let places = c.new.ensures.places ∙ kept at.After-dedup in
    let union = subst (λ (front : List NotedReply). IsUnion c.args.index (noted_each front) items)
    (take_all c.loop-own.own-index each c.loop-own-test.false) c.loop-own.invariant.union read in (
      λ h. union.0 (Contains-permutation sorted items read (IsPermutation-sym items sorted permuted)
          (Contains-from_dedup eqb sorted read (subst (λ (ps : List ℕ). Contains ps read) places h))),
      λ h. subst (λ (ps : List ℕ). Contains ps read) (sym places)
          (Contains-dedup_nat sorted read (Contains-permutation items sorted read permuted (union.1 h))),
    )
