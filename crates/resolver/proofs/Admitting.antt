-- How a batch that isn't ahead is admitted, by its previous version.
use Rattle.std.proofs.Common.{◌≡◌, ℕ, true, false, cond, w64, to_z, of_z, SFits, ap, ◌∙◌, refl, arith}
use Rattle.std.specs.Prelude.{ℤ, ◌<ℤ◌, ◌≤ℤ◌, int_lt}
use Rattle.std.proofs.lemmas.Bool.{cond-true, cond-false, cond_both}
use Rattle.std.proofs.lemmas.Int.{ints}
use Rattle.keyspace.specs.declared.batch.Batch.{Batch}
use Rattle.keyspace.specs.Found.{found}
use Rattle.keyspace.specs.Processed.{version_of}
use Rattle.keyspace.specs.Run.{State, answer, hold, process, admit}

int_lt-true : (a b : ℤ) → a <ℤ b → int_lt a b ≡ true
int_lt-true a b h = grind (arith, ints)

int_lt-false : (a b : ℤ) → b ≤ℤ a → int_lt a b ≡ false
int_lt-false a b h = grind (arith, ints)

-- what a test of two versions says
pub less_from_test : (a b : ℤ) → SFits w64 a → SFits w64 b
    → int_lt (to_z w64 (of_z w64 a)) (to_z w64 (of_z w64 b)) ≡ true → a <ℤ b
less_from_test a b f g test = grind (arith, ints)

pub at_most_from_test : (a b : ℤ) → SFits w64 a → SFits w64 b
    → int_lt (to_z w64 (of_z w64 a)) (to_z w64 (of_z w64 b)) ≡ false → b ≤ℤ a
at_most_from_test a b f g test = grind (arith, ints)

module _ (window : ℤ) (proxy : ℕ) (b : Batch) (s : State) where
  abbrev version : ℤ
  version = version_of s.processed

  -- the batch is answered as a repeat
  abbrev pub repeat : State
  repeat = answer proxy (found s.processed proxy b.version) s

  -- the batch isn't held
  abbrev pub admit_now : State
  admit_now = cond (int_lt b.previous version) repeat (process window proxy b s)

  admit-now : b.previous ≤ℤ version → admit window proxy b s ≡ admit_now
  admit-now due =
      cond-false (int_lt version b.previous) (hold proxy b s) admit_now (int_lt-false version b.previous due)

  pub admit-ahead : version <ℤ b.previous → admit window proxy b s ≡ hold proxy b s
  admit-ahead ahead =
      cond-true (int_lt version b.previous) (hold proxy b s) admit_now (int_lt-true version b.previous ahead)

  pub admit-repeat : b.previous <ℤ version → admit window proxy b s ≡ repeat
  admit-repeat below =
      admit-now (omega (arith, ints))
      ∙ cond-true (int_lt b.previous version) repeat (process window proxy b s)
      (int_lt-true b.previous version below)

  pub admit-process : b.previous ≡ version → admit window proxy b s ≡ process window proxy b s
  admit-process next =
      admit-now (omega (arith, ints, next))
      ∙ cond-false (int_lt b.previous version) repeat (process window proxy b s)
      (int_lt-false b.previous version (omega (arith, ints, next)))

  -- and the others stay held
  pub admit-held : b.previous ≤ℤ version → (admit window proxy b s).held ≡ s.held
  admit-held due =
      ap (λ t. t.held) (admit-now due)
      ∙ cond_both (int_lt b.previous version) repeat (process window proxy b s) (λ t. t.held ≡ s.held)
      (λ _. refl) (λ _. refl)
