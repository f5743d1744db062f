use Rattle.std.proofs.Common.{◌≡◌, ◌<◌, ◌∙◌, ℕ, List, eqb, refl, sym, subst, take, take_all, All}
use Rattle.std.specs.Prelude.{Contains}
use Rattle.std.specs.List.{dedup}
use Rattle.std.specs.List.Sorted.{IsStrictlyIncreasing}
use Rattle.std.proofs.lemmas.List.Filters.{dedup_is, All-dedup}
use Rattle.std.proofs.lemmas.List.Kept.{Contains-dedup_nat, Contains-from_dedup}
use Rattle.std.proofs.lemmas.List.Sorted.{All-permutation, Contains-permutation, IsPermutation-sym}
use Rattle.std.proofs.lemmas.Map.Keys.{IsStrictlyIncreasing-dedup}
use Rattle.std.proofs.lemmas.Option.{slice_get_read}
use Rattle.shards.specs.declared.shard_reply.ShardReply.{ShardReply}
use Rattle.shards.proofs.Leasts.{take_next}
use Rattle.shards.proofs.Reports.{IsUnion, union_more}
use Rattle.shards.proofs.combined_replies.united_places.Goals.{After-dedup}
use Rattle.shards.proofs.combined_replies.united_places.Goals as goal

pub loop-reply-preserved : goal.loop-reply-preserved
loop-reply-preserved c =
    let each = c.args.each.now in
    let i = c.loop-reply.reply-index in
    let s = c.reply-item.result in
    let at = slice_get_read each _ i s refl c.loop-reply-test.true c.reply-item.is in
    record {
      union = subst (λ (front : List ShardReply). IsUnion c.args.index front c.put_report.new.found.items) (sym (take_next each i s at))
          (union_more c.args.index (take i each) s c.loop-reply.places.items c.put_report.new.found.items c.loop-reply.invariant.union
          c.in_ok-put_report.ensures.report);
      below = c.in_ok-put_report.ensures.below;
    }

-- what is left is each place once
kept : (c : After-dedup) → c.dedup.new.self.items ≡ dedup eqb c.sort_unstable.new.self.items
kept c = dedup_is eqb c.sort_unstable.new.self.items c.dedup.new.self.items c.dedup.ensures.filtered

pub new-requires : goal.new-requires
new-requires c =
    let sorted = c.sort_unstable.new.self.items in
    let P = λ (read : ℕ). read < 1024 in
    record {
      places = record {
        rising = subst IsStrictlyIncreasing (sym (kept c)) (IsStrictlyIncreasing-dedup sorted c.sort_unstable.ensures.sorted);
        below = subst (All P) (sym (kept c)) (All-dedup eqb P sorted
            (All-permutation P c.loop-reply.places.items sorted c.sort_unstable.ensures.permutation c.loop-reply.invariant.below));
      };
    }

pub returns-clause-union : goal.returns-clause-union
returns-clause-union c = λ read.
    let at = goal.at.returns-clause-union c in
    let each = c.args.each.now in
    let sorted = c.sort_unstable.new.self.items in
    let items = c.loop-reply.places.items in
    let permuted = c.sort_unstable.ensures.permutation in
    let places = c.new.ensures.places ∙ kept at.After-dedup in
    let union = subst (λ (front : List ShardReply). IsUnion c.args.index front items)
    (take_all c.loop-reply.reply-index each c.loop-reply-test.false) c.loop-reply.invariant.union read in (
      λ h. union.0 (Contains-permutation sorted items read (IsPermutation-sym items sorted permuted)
          (Contains-from_dedup eqb sorted read (subst (λ (ps : List ℕ). Contains ps read) places h))),
      λ h. subst (λ (ps : List ℕ). Contains ps read) (sym places)
          (Contains-dedup_nat sorted read (Contains-permutation items sorted read permuted (union.1 h))),
    )
