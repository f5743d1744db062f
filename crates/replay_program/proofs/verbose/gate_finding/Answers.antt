use Rattle.std.proofs.Common.{ℤ, SFits, w64, rules, subst, sym}
use Rattle.std.proofs.lemmas.Int.{to_z-of_z}
use Rattle.replay_diagnosis.specs.declared.run_findings.RunFinding.TheVariants.{AllHeld}
use Rattle.replay_program.specs.Verbose.{IsGateFinding}
use Rattle.replay_program.proofs.verbose.gate_finding.Goals as goal

pub returns-in-Some : goal.returns-in-Some
returns-in-Some c =
    let v = c.in-Some.version in
    let fits : SFits w64 v = search rules in
    record {
      found = λ all least. subst (λ (n : ℤ). IsGateFinding all (AllHeld n)) (sym (to_z-of_z w64 v fits)) (c.in-Some.ensures.held all least);
    }

pub returns-in-None : goal.returns-in-None
returns-in-None c = record { found = λ all least. c.in-None.ensures.begun all least }
