-- Pairs of lanes that were looked through one after another, until a batch was found or none was left.
use Rattle.std.proofs.Common.{◌≡◌, ◌≢◌, ℕ, ◌<◌, ◌≤◌, ◌+◌, ◌⊎◌, List, set, length, get_or, Some, None, inl, inr, sym, ◌∙◌, subst, refl, arith}
use Rattle.keyspace.specs.declared.batch.Batch.{Batch}
use Rattle.resolver.specs.Parts.{ProxyLanesView, EachProxy, TakesFromProxy, FindsNone, FindsOne}
use Rattle.resolver.proofs.Each.{PerProxy, EachProxy-also, EachProxy-then, EachProxy-set}

-- from the first on, and before the end
abbrev pub Between : ℕ → ℕ → ℕ → Type 0
Between first end q = (first ≤ q) × (q < end)

-- a pair of lanes from which nothing was taken
abbrev Untaken : (ℕ → Type 0) → PerProxy
Untaken Looked q l m = (Looked q → TakesFromProxy None l m) × ((Looked q → ⊥) → m ≡ l)

-- a pair of lanes, if one of the pairs of lanes gave a batch
abbrev Taken : (ℕ → Type 0) → ℕ → Batch → PerProxy
Taken Looked proxy batch q l m =
    (q ≡ proxy → TakesFromProxy (Some batch) l m)
    × (Looked q → TakesFromProxy None l m)
    × ((Looked q → ⊥) → q ≢ proxy → m ≡ l)

module _ {old now : List ProxyLanesView} where
  module _ (Looked : ℕ → Type 0) where
    each_untaken : FindsNone Looked old now → EachProxy (Untaken Looked) old now
    each_untaken f = record {
      count = f.looked.count;
      each = λ q l m was is. (f.looked.each q l m was is, f.others.each q l m was is);
    }

    none_of_each : EachProxy (Untaken Looked) old now → FindsNone Looked old now
    none_of_each e = record {
      looked = record { count = e.count; each = λ q l m was is. (e.each q l m was is).0 };
      others = record { count = e.count; each = λ q l m was is. (e.each q l m was is).1 };
    }

    module _ (proxy : ℕ) (batch : Batch) where
      each_taken : FindsOne Looked proxy batch old now → EachProxy (Taken Looked proxy batch) old now
      each_taken f = record {
        count = f.looked.count;
        each = λ q l m was is.
            (f.found.each q l m was is, f.looked.each q l m was is, f.others.each q l m was is);
      }

      one_of_each : proxy < length old → EachProxy (Taken Looked proxy batch) old now
          → FindsOne Looked proxy batch old now
      one_of_each known e = record {
        known = known;
        found = record { count = e.count; each = λ q l m was is. (e.each q l m was is).0 };
        looked = record { count = e.count; each = λ q l m was is. (e.each q l m was is).1 };
        others = record { count = e.count; each = λ q l m was is. (e.each q l m was is).2 };
      }

  -- the same pairs of lanes, said in another way
  module _ (Looked Also : ℕ → Type 0)
      (same : (q : ℕ) → q < length old → (Looked q → Also q) × (Also q → Looked q)) where
    pub FindsNone-as : FindsNone Looked old now → FindsNone Also old now
    FindsNone-as f =
        none_of_each Also
        (EachProxy-also (Untaken Looked) (Untaken Also)
        (λ q l m inside u. (λ a. u.0 ((same q inside).1 a), λ not. u.1 (λ k. not ((same q inside).0 k))))
        (each_untaken Looked f))

    pub FindsOne-as : (proxy : ℕ) (batch : Batch) → FindsOne Looked proxy batch old now
        → FindsOne Also proxy batch old now
    FindsOne-as proxy batch f =
        one_of_each Also proxy batch f.known
        (EachProxy-also (Taken Looked proxy batch) (Taken Also proxy batch)
        (λ q l m inside u.
        (u.0, λ a. u.1 ((same q inside).1 a), λ not apart. u.2 (λ k. not ((same q inside).0 k)) apart))
        (each_taken Looked proxy batch f))

-- a pair of lanes that is not looked at yet is as it was
same_yet : (first i : ℕ) (l m : ProxyLanesView) → Untaken (Between first i) i l m → m ≡ l
same_yet first i l m u = u.1 (λ b. omega (arith, b.1))

-- the next pair of lanes is looked at
module _ {old now : List ProxyLanesView} (first i : ℕ) (x d : ProxyLanesView) (from : first ≤ i)
    (inside : i < length now) where
  pub FindsNone-more : TakesFromProxy None (get_or now i d) x → FindsNone (Between first i) old now
      → FindsNone (Between first (i + 1)) old (set now i x)
  FindsNone-more takes f =
      none_of_each (Between first (i + 1))
      (EachProxy-set (Untaken (Between first i)) (Untaken (Between first (i + 1))) i x d inside
      (λ l u. (
        λ _. subst (λ k. TakesFromProxy None k x) (same_yet first i l (get_or now i d) u) takes,
        λ not. absurd (not (from, omega arith)),
      ))
      (λ q l m apart u.
      (λ b. u.0 (b.0, omega (arith, b.1, apart)), λ not. u.1 (λ b. not (b.0, omega (arith, b.1)))))
      (each_untaken (Between first i) f))

  pub FindsOne-here : (batch : Batch) → TakesFromProxy (Some batch) (get_or now i d) x → FindsNone (Between first i) old now
      → FindsOne (Between first i) i batch old (set now i x)
  FindsOne-here batch takes f =
      one_of_each (Between first i) i batch (omega (arith, f.looked.count))
      (EachProxy-set (Untaken (Between first i)) (Taken (Between first i) i batch) i x d inside
      (λ l u. (
        λ _. subst (λ k. TakesFromProxy (Some batch) k x) (same_yet first i l (get_or now i d) u) takes,
        λ b. absurd (omega (arith, b.1)),
        λ _ apart. absurd (apart refl),
      ))
      (λ q l m apart u. (λ at. absurd (apart at), u.0, λ not _. u.1 not)) (each_untaken (Between first i) f))

-- looked through in either of two goes
abbrev pub Either : (ℕ → Type 0) → (ℕ → Type 0) → ℕ → Type 0
Either First Then q = First q ⊎ Then q

-- some pairs of lanes were looked through, and then others
module _ {old mid now : List ProxyLanesView} (First Then : ℕ → Type 0)
    (apart : (q : ℕ) → First q → Then q → ⊥) where
  pub FindsNone-then : FindsNone First old mid → FindsNone Then mid now → FindsNone (Either First Then) old now
  FindsNone-then f g =
      none_of_each (Either First Then)
      (EachProxy-then (Untaken First) (Untaken Then) (Untaken (Either First Then))
      (λ q l m n inside u v. (
        λ b. elim b [
          | inl one ↦ subst (TakesFromProxy None l) (sym (v.1 (apart q one))) (u.0 one)
          | inr two ↦ subst (λ k. TakesFromProxy None k n) (u.1 (λ one. apart q one two)) (v.0 two)
        ],
        λ not. v.1 (λ two. not (inr two)) ∙ u.1 (λ one. not (inl one)),
      ))
      (each_untaken First f) (each_untaken Then g))

  pub FindsOne-then : (proxy : ℕ) (batch : Batch) → (First proxy → ⊥) → FindsNone First old mid
      → FindsOne Then proxy batch mid now → FindsOne (Either First Then) proxy batch old now
  FindsOne-then proxy batch not_first f g =
      one_of_each (Either First Then) proxy batch (omega (arith, f.looked.count, g.known))
      (EachProxy-then (Untaken First) (Taken Then proxy batch) (Taken (Either First Then) proxy batch)
      (λ q l m n inside u v.
      let none_first : q ≡ proxy → First q → ⊥ = λ at one. not_first (subst First at one) in (
        λ at. subst (λ k. TakesFromProxy (Some batch) k n) (u.1 (none_first at)) (v.0 at),
        λ b. elim b [
          | inl one ↦
              subst (TakesFromProxy None l) (sym (v.2 (apart q one) (λ at. none_first at one))) (u.0 one)
          | inr two ↦ subst (λ k. TakesFromProxy None k n) (u.1 (λ one. apart q one two)) (v.1 two)
        ],
        λ not other. v.2 (λ two. not (inr two)) other ∙ u.1 (λ one. not (inl one)),
      ))
      (each_untaken First f) (each_taken Then proxy batch g))
