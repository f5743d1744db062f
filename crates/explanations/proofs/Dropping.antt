-- The last batches of a list, and those that were dropped before them.
use Rattle.std.proofs.Common.{◌≡◌, ◌<◌, true, false, cond, List, [], ◌∷◌, ◌++◌, length, get_or, drop, refl, sym, ap, subst, ◌∙◌, arith, append_assoc}
use Rattle.std.specs.Prelude.{ℤ, pos, ◌≤ℤ◌, int_lt}
use Rattle.std.specs.Int.{int_max}
use Rattle.std.proofs.lemmas.Int.{ints}
use Rattle.std.proofs.lemmas.List.Elements.{All-nil, All-append, All-push, All-weaker}
use Rattle.keyspace.specs.Processed.{Processed}
use Rattle.explanations.specs.History.{DropsUpTo}

at_most_through : (a b c : ℤ) → a ≤ℤ b → b ≤ℤ c → a ≤ℤ c
at_most_through a b c h k = omega (arith, ints)

pub drops_none : (edge : ℤ) (ps : List Processed) → DropsUpTo edge ps ps
drops_none edge ps = record { dropped = []; all = refl; below = All-nil (λ (p : Processed). p.batch.version ≤ℤ edge) }

-- one more is dropped
pub drops_next : (edge : ℤ) (ps : List Processed) (p : Processed) (kept : List Processed) → DropsUpTo edge ps (p ∷ kept)
    → p.batch.version ≤ℤ edge → DropsUpTo edge ps kept
drops_next edge ps p kept drops low = record {
  dropped = drops.dropped ++ p ∷ [];
  all = drops.all ∙ sym (append_assoc drops.dropped (p ∷ []) kept);
  below = All-push (λ (q : Processed). q.batch.version ≤ℤ edge) drops.dropped p drops.below low;
}

-- more are dropped, up to a later edge
pub drops_then : (edge later : ℤ) (ps qs rs : List Processed) → edge ≤ℤ later → DropsUpTo edge ps qs → DropsUpTo later qs rs
    → DropsUpTo later ps rs
drops_then edge later ps qs rs rises first second = record {
  dropped = first.dropped ++ second.dropped;
  all =
      first.all ∙ ap (λ (xs : List Processed). first.dropped ++ xs) second.all
      ∙ sym (append_assoc first.dropped second.dropped rs);
  below =
      All-append (λ (p : Processed). p.batch.version ≤ℤ later) first.dropped second.dropped
      (All-weaker (λ (p : Processed). p.batch.version ≤ℤ edge) (λ (p : Processed). p.batch.version ≤ℤ later)
      (λ p low. at_most_through p.batch.version edge later low rises) first.dropped first.below)
      second.below;
}

-- one more is kept
pub drops_push : (edge : ℤ) (ps kept : List Processed) (p : Processed) → DropsUpTo edge ps kept
    → DropsUpTo edge (ps ++ p ∷ []) (kept ++ p ∷ [])
drops_push edge ps kept p drops = record {
  dropped = drops.dropped;
  all =
      ap (λ (xs : List Processed). xs ++ p ∷ []) drops.all
      ∙ append_assoc drops.dropped kept (p ∷ []);
  below = drops.below;
}

pub front_is : (ps : List Processed) (p : Processed) (rest : List Processed) → 0 < length ps → p ≡ get_or ps 0 p → rest ≡ drop 1 ps
    → ps ≡ p ∷ rest
front_is [] p rest some at is = absurd (omega (arith, some))
front_is (q ∷ ps) p rest some at is =
    ap (λ (r : Processed). r ∷ ps) (sym at) ∙ ap (λ (rs : List Processed). p ∷ rs) (sym is)

-- the greater of three, in another order
pub max_same : (d e : ℤ) → pos 0 ≤ℤ e → int_max d e ≡ int_max e (int_max d (pos 0))
max_same d e natural =
    elim (int_lt e d) as (λ b. int_lt e d ≡ b → cond b d e ≡ int_max e (int_max d (pos 0))) [
      | true ↦ λ above. elim (int_lt (pos 0) d) as (λ b. int_lt (pos 0) d ≡ b
          → d ≡ cond (int_lt (cond b d (pos 0)) e) e (cond b d (pos 0))) [
            | true ↦ λ some. elim (int_lt d e) as (λ b. int_lt d e ≡ b → d ≡ cond b e d) [
              | true ↦ λ below. grind (arith, ints)
              | false ↦ λ below. refl
            ] refl
            | false ↦ λ some. absurd (not_both e d natural above some)
          ] refl
      | false ↦ λ above. elim (int_lt (pos 0) d) as (λ b. int_lt (pos 0) d ≡ b
          → e ≡ cond (int_lt (cond b d (pos 0)) e) e (cond b d (pos 0))) [
            | true ↦ λ some. elim (int_lt d e) as (λ b. int_lt d e ≡ b → e ≡ cond b e d) [
              | true ↦ λ below. refl
              | false ↦ λ below. grind (arith, ints)
            ] refl
            | false ↦ λ some. elim (int_lt (pos 0) e) as (λ b. int_lt (pos 0) e ≡ b → e ≡ cond b e (pos 0)) [
              | true ↦ λ below. refl
              | false ↦ λ below. grind (arith, ints)
            ] refl
          ] refl
    ] refl
  where
    not_both : (e d : ℤ) → pos 0 ≤ℤ e → int_lt e d ≡ true → int_lt (pos 0) d ≡ false → ⊥
    not_both e d natural above none = grind (arith, ints)

pub bound_of : (low other high : ℤ) → low ≤ℤ high → low ≡ other → other ≤ℤ high
bound_of low other high h same = subst (λ (z : ℤ). z ≤ℤ high) same h
