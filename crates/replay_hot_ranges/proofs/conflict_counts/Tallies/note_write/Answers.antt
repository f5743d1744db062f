use Rattle.std.proofs.Common.{◌++◌, [], ◌∷◌, subst}
use Rattle.std.proofs.lemmas.Result.{on_ok_weaker}
use Rattle.explanations.specs.Written.{Written}
use Rattle.replay_hot_ranges.specs.RangeTally.{AreTalliesWith}
use Rattle.replay_hot_ranges.proofs.conflict_counts.Tallies.note_write.Goals as goal

pub returns : goal.returns
returns c =
    let read = c.args.read.now in
    let tallies = c.note.new.self in
    record {
      noted =
          on_ok_weaker c.note.result
          (λ put txns conflicts before.
          subst
          (λ (w : Written). AreTalliesWith txns (conflicts ++ record { read = read; written = w.range } ∷ []) tallies)
          c.write.view_is (put txns conflicts before))
          c.note.ensures.noted;
    }
