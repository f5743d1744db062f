-- No text of a finding has a line feed.
use Rattle.std.proofs.Common.{◌≡◌, ℕ, suc, ◌+◌, ◌%◌, ◌<◌, ◌^◌, Bool, true, false, List, [], ◌∷◌, ◌++◌, codes, decimal, refl, ap, ap₂, ◌∙◌, append_assoc, arith, inl, inr}
use Rattle.std.specs.Prelude.{ℤ, pos, negsuc, ◌==◌, ◌||◌, if◌then◌else◌}
use Rattle.std.specs.Fmt.{signed_decimal}
use Rattle.std.specs.Int.{w64}
use Rattle.std.specs.Int.RustNames.{FitsSigned}
use Rattle.std.proofs.lemmas.Fmt.{decimal_by_steps}
use Rattle.std.proofs.lemmas.Bool.{cases_eq, cases_lt, eq-eqb, le-ltb, lt-ltb, ne_eqb}
use Rattle.std.proofs.lemmas.List.Folds.{list_any-append}
use Rattle.replay_diagnosis.specs.declared.position.Position.{Position}
use Rattle.replay_diagnosis.specs.declared.run_findings.Finding.{Finding}
use Rattle.replay_diagnosis.specs.declared.run_findings.Finding.TheVariants as found
use Rattle.replay_diagnosis.specs.declared.run_findings.RunFinding.{RunFinding}
use Rattle.replay_diagnosis.specs.declared.run_findings.RunFinding.TheVariants as run
use Rattle.replay_diagnosis.specs.Remedy.{advice, finding_text, position_text, remedy_line, run_finding_text, run_remedy_line, shown_name, shown_byte, unreadable_text}
use Rattle.replay_diagnosis.specs.Laws.{FindingFits, IsIndentedLine, PositionFits, RunFindingFits, has_line_feed}

abbrev IsWithin : List ℕ → Type 0
IsWithin text = has_line_feed text ≡ false

both : (xs ys : List ℕ) → IsWithin xs → IsWithin ys → IsWithin (xs ++ ys)
both xs ys first second = list_any-append (λ byte. byte == 10) xs ys ∙ ap₂ (λ (a b : Bool). a || b) first second

other_byte : (byte : ℕ) → ¬ (byte ≡ 10) → IsWithin (byte ∷ [])
other_byte byte other = ap (λ (b : Bool). b || false) (ne_eqb byte 10 other)

decimal_within : (n : ℕ) → n < 2 ^ 64 → IsWithin (decimal n)
decimal_within n low =
    decimal_by_steps (λ n digits. IsWithin digits) (λ n lt. other_byte (48 + n) (λ e. omega (arith, e)))
    (λ n digits le before. both digits ((48 + n % 10) ∷ []) before (other_byte (48 + n % 10) (λ e. omega (arith, e)))) n low

signed_within : (z : ℤ) → FitsSigned w64 z → IsWithin (signed_decimal z)
signed_within (pos n) fits = decimal_within n (omega (arith, fits.sfits))
signed_within (negsuc n) fits = decimal_within (suc n) (omega (arith, fits.sfits))

shown_byte_within : (byte : ℕ) → (shown_byte byte == 10) ≡ false
shown_byte_within byte =
    elim (cases_lt byte 32) [
      | inl lt ↦ let a = lt-ltb _ _ lt in rw a refl
      | inr le ↦
          let a = le-ltb _ _ le in
          elim (cases_eq byte 127) [
            | inl same ↦ let b = eq-eqb _ _ same in rw (a, b) refl
            | inr other ↦ let b = ne_eqb _ _ other in rw (a, b) (ne_eqb byte 10 (λ e. omega (arith, le, e)))
          ]
    ]

shown_within : (name : List ℕ) → IsWithin (shown_name name)
shown_within [] = refl
shown_within (byte ∷ name) = ap₂ (λ (a b : Bool). a || b) (shown_byte_within byte) (shown_within name)

three : (xs ys zs : List ℕ) → IsWithin xs → IsWithin ys → IsWithin zs → IsWithin (xs ++ ys ++ zs)
three xs ys zs first second third = both (xs ++ ys) zs (both xs ys first second) third

position_within : (at : Position) → PositionFits at → IsWithin (position_text at)
position_within at fits =
    both (codes "frame " ++ decimal at.frame ++ codes " at byte ") (decimal at.offset)
    (three (codes "frame ") (decimal at.frame) (codes " at byte ") refl (decimal_within at.frame fits.0) refl)
    (decimal_within at.offset fits.1)

either_within : (test : Bool) (xs ys : List ℕ) → IsWithin xs → IsWithin ys → IsWithin (if test then xs else ys)
either_within true xs ys first second = first
either_within false xs ys first second = second

advice_within : (at : Position) → PositionFits at → IsWithin (advice at)
advice_within at fits =
    let keep = codes ": record it again, or keep the frames before it with `head -c " in
    either_within (at.offset == 0) (codes ": name a file of batches") (keep ++ decimal at.offset ++ codes "`") refl
    (three keep (decimal at.offset) (codes "`") refl (decimal_within at.offset fits.1) refl)

unreadable_within : (at : Position) → PositionFits at → IsWithin (unreadable_text at)
unreadable_within at fits =
    either_within (at.offset == 0) (codes " can't be read: it is a directory, or its device fails")
    (codes " can't be read at " ++ position_text at ++ codes ": check its device") refl
    (three (codes " can't be read at ") (position_text at) (codes ": check its device") refl (position_within at fits) refl)

finding_within : (finding : Finding) → FindingFits finding → IsWithin (finding_text finding)
finding_within found.CannotOpen fits = refl
finding_within found.StandardInput fits = refl
finding_within found.Memory fits = refl
finding_within (found.Unreadable at) fits = unreadable_within at fits
finding_within found.Json fits = refl
finding_within (found.Reply at) fits =
    three (codes " contains replies, not batches, from ") (position_text at) (codes " on: give them to `--check`") refl
    (position_within at fits) refl
finding_within (found.Truncated at missing) fits =
    let begin = codes " ends inside " ++ position_text at ++ codes ", " in
    both (begin ++ decimal missing ++ codes " bytes too early") (advice at)
    (three begin (decimal missing) (codes " bytes too early")
    (three (codes " ends inside ") (position_text at) (codes ", ") refl (position_within at fits.0) refl)
    (decimal_within missing fits.1) refl)
    (advice_within at fits.0)
finding_within (found.NotAFrame at fault) fits =
    three (codes " has no frame of a batch as ") (position_text at) (advice at) refl (position_within at fits) (advice_within at fits)

run_finding_within : (finding : RunFinding) → RunFindingFits finding → IsWithin (run_finding_text finding)
run_finding_within (run.AllHeld version) fits =
    three (codes "no batch follows version -1, so all are held: begin the chain with `batches opening --version ")
    (signed_decimal version) (codes "`") refl (signed_within version fits) refl
run_finding_within run.GateFull fits = refl
run_finding_within (run.ArenaFull version limit) fits =
    let begin = codes "version " ++ signed_decimal version ++ codes " was reached with a limit of " in
    three begin (decimal limit) (codes " boundaries: raise `--limit`, or use a smaller `--window`")
    (three (codes "version ") (signed_decimal version) (codes " was reached with a limit of ") refl
    (signed_within version fits.0) refl)
    (decimal_within limit fits.1) refl
run_finding_within run.Output fits = refl

pub remedy_is_line : (name : List ℕ) (finding : Finding) → FindingFits finding → IsIndentedLine (remedy_line name finding)
remedy_is_line name finding fits = (
  shown_name name ++ finding_text finding,
  ap (λ (t : List ℕ). t ++ codes "\n") (append_assoc (codes "  ") (shown_name name) (finding_text finding)),
  both (shown_name name) (finding_text finding) (shown_within name) (finding_within finding fits),
)

pub run_remedy_is_line : (finding : RunFinding) → RunFindingFits finding → IsIndentedLine (run_remedy_line finding)
run_remedy_is_line finding fits = (run_finding_text finding, refl, run_finding_within finding fits)
