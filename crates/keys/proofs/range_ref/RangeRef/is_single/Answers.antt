use Rattle.std.proofs.Common.{◌≡◌, [], ◌∷◌, ◌++◌, sym, ◌∙◌, subst}
use Rattle.std.proofs.lemmas.Slice.Eq.{bytes_eq-Decides}
use Rattle.keys.specs.Range.{IsSingle}
use Rattle.keys.proofs.range_ref.RangeRef.is_single.Goals as goal

pub returns : goal.returns
returns c =
    let begin = c.self.inside.begin.now in
    let decides = bytes_eq-Decides c.self.inside.end.now (begin ++ 0 ∷ []) in
    let exact = c.is_single_key.ensures.exact in
    record {
      single = (
        λ h. subst IsSingle c.self.view_is (decides.0 (sym exact ∙ h)),
        λ single. exact ∙ decides.1 (subst IsSingle (sym c.self.view_is) single),
      );
    }
