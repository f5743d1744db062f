use Rattle.std.proofs.Common.{◌≡◌, ◌-◌, ◌++◌, List, length, rules, sym, ap, subst, take, true, ◌∙◌}
use Rattle.std.specs.Prelude.{ℕ}
use Rattle.std.proofs.lemmas.Bool.Decides.{Decides-eqb}
use Rattle.std.proofs.lemmas.Slice.Eq.{ends_is}
use Rattle.replay_output.proofs.Packing.{without_letters}
use Rattle.replay_output.proofs.line.packed.PackedText.remove_end.Goals as goal

pub returns-clause-removed : goal.returns-clause-removed
returns-clause-removed c = λ _.
    let units = c.self.inside.units.items in
    let end = c.args.end.now in
    let kept = c.truncate.new.self.items in
    let on : c.ends_with.result ≡ true = search rules in
    let split : units ≡ take (length units - length end) units ++ end =
    subst (λ (us : List ℕ). us ≡ take (length us - length end) us ++ end) c.deref.ensures.value
    ((ends_is Decides-eqb c.deref.result.now end c.ends_with.result c.ends_with.ensures.value).0 on) in
    let front : kept ≡ take (length units - length end) units = search rules in
    without_letters units kept end c.args.self.now c.self.view_is c.requires.ascii
    (split ∙ ap (λ (us : List ℕ). us ++ end) (sym front))
