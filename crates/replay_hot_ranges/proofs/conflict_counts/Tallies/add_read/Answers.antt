use Rattle.std.proofs.Common.{◌≡◌, ◌++◌, [], ◌∷◌, List, sym, ap, subst, ◌∙◌, append-nil}
use Rattle.std.proofs.lemmas.Option.{same_Some}
use Rattle.std.proofs.lemmas.Result.{on_ok_weaker}
use Rattle.keys.specs.declared.range.Range.{Range}
use Rattle.explanations.specs.Explains.{explaining_newest}
use Rattle.explanations.specs.Written.{Written, newest_write}
use Rattle.replay_hot_ranges.specs.Conflicts.{InConflict, in_conflict}
use Rattle.replay_hot_ranges.specs.RangeTally.{AreTalliesWith}
use Rattle.replay_hot_ranges.proofs.Adding.{explained}
use Rattle.replay_hot_ranges.proofs.conflict_counts.Tallies.add_read.Goals as goal

pub returns-in-Some : goal.returns-in-Some
returns-in-Some c =
    let ws = explaining_newest c.args.history.now.kept c.args.txn c.args.read in
    let found = c.in-Some.explanation in
    record {
      added =
          on_ok_weaker c.note_write.result
          (λ put range txns conflicts at before.
          let same : c.get.result ≡ range = same_Some c.get.result range (sym c.get.ensures.range ∙ at) in
          subst (λ (cs : List InConflict). AreTalliesWith txns (conflicts ++ cs) c.note_write.new.self)
          (ap (λ (r : Range). record { read = r; written = found.newest.range } ∷ []) same
          ∙ explained range ws found.newest found.further c.in-Some.ensures.found)
          (put txns conflicts before))
          c.note_write.ensures.noted;
    }

pub returns-in-None : goal.returns-in-None
returns-in-None c = record {
  added = λ range txns conflicts at before.
      subst (λ (cs : List InConflict). AreTalliesWith txns cs c.args.self.now)
      (sym (ap (λ (ws : List Written). conflicts ++ in_conflict range (newest_write ws)) c.in-None.ensures.found ∙ append-nil conflicts)) before;
}
