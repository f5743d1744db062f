use Rattle.std.proofs.Common.{◌≡◌, ◌++◌, ◌∷◌, ◌∙◌, [], cond, length, take, drop, ap, sym, subst}
use Rattle.keyspace.specs.declared.txn.Txn.{Txn}
use Rattle.conflict.specs.Written.{AreWrittenGaps, AreRunsOf}
use Rattle.keyspace.specs.Writes.{counted_ranges}
use Rattle.conflict.proofs.RunsOfRanges.{determined_split}
use Rattle.conflict.proofs.Written.{no_more_written}
use Rattle.conflict.proofs.FirstMet.{unmet_entry, met_entry}
use Rattle.conflict.proofs.in_batch.judge_open.Goals as goal

pub returns-in_ok-place_if_marked-clause-judged : goal.returns-in_ok-place_if_marked-clause-judged
returns-in_ok-place_if_marked-clause-judged c = λ keys written t shaped determine determined have.
    let runs = c.args.runs.now in
    let front = c.split_at.ensures.front
    ∙ ap (λ n. take n runs) (c.len.ensures.count ∙ ap (λ (u : Txn). length u.reads) c.txn.view_is ∙ sym shaped.reads) in
    let reads : AreRunsOf keys c.split_at.result.0.now t.reads =
    rw front (determined_split keys runs t.reads t.writes determine).0 in (
      met_entry written t c.args.entry.now c.new.result c.in-Some.place c.requires.open
          (c.in-Some.ensures.first keys written t.reads reads determined have) c.new.ensures.verdict
          (c.new.ensures.places ∙ c.in_ok-place_if_marked.ensures.places
          ∙ ap (λ marked. cond marked (c.in-Some.place ∷ []) []) (sym shaped.marked)),
      no_more_written keys c.args.gaps.now written _ (ap (λ v. counted_ranges v t.writes) c.new.ensures.verdict) determined,
    )

pub returns-in_default-clause-judged : goal.returns-in_default-clause-judged
returns-in_default-clause-judged c = λ keys written t shaped determine determined have.
    let runs = c.args.runs.now in
    let count = c.len.ensures.count ∙ ap (λ (u : Txn). length u.reads) c.txn.view_is ∙ sym shaped.reads in
    let both = determined_split keys runs t.reads t.writes determine in
    let reads : AreRunsOf keys c.split_at.result.0.now t.reads =
    rw (c.split_at.ensures.front ∙ ap (λ n. take n runs) count) both.0 in
    let writes : AreRunsOf keys c.split_at.result.1.now t.writes =
    rw (c.split_at.ensures.back ∙ ap (λ n. drop n runs) count) both.1 in
    let counts : t.writes ≡ counted_ranges c.args.entry.now.verdict t.writes =
    ap (λ v. counted_ranges v t.writes) (sym c.requires.open) in (
      unmet_entry written t c.args.entry.now c.requires.open (c.in_default.ensures.first keys written t.reads reads determined have),
      subst (λ ranges. AreWrittenGaps keys c.mark.new.gaps (written ++ ranges)) counts
          (c.mark.ensures.marked keys written t.writes writes determined),
    )
