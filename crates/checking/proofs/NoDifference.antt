-- Where there is no difference, the replies are the same in order of versions.
use Rattle.std.specs.Prelude.{◌≡◌, ◌↔◌, ℕ, ◌+◌, ℤ, ◌&&◌, Bool, true, false, List, [], ◌∷◌, ◌++◌, length, Option, None, Some}
use Rattle.std.specs.Ordering.{int_eq}
use Rattle.std.specs.Cmp.{signed_Decides}
use Rattle.std.proofs.Common.{refl, sym, ap, ap₂, ◌∙◌, subst, inl, inr, arith, eqb}
use Rattle.std.proofs.lemmas.Bool.{cond-true, cond-false, cases_Bool, and_parts, eqb-true, eq-eqb}
use Rattle.std.proofs.lemmas.Slice.Eq.{bytes_eq-Decides}
use Rattle.keyspace.specs.declared.reply.Reply.{Reply}
use Rattle.keyspace.specs.declared.reply.Entry.{Entry}
use Rattle.keyspace.specs.declared.reply.Verdict.{Verdict}
use Rattle.keyspace.specs.declared.reply.Verdict.TheVariants.{Conflict, TooOld, Committed}
use Rattle.keyspace.proofs.callers.Judging.{entry_same, reply_same}
use Rattle.checking.specs.declared.difference.Difference.{Difference}
use Rattle.keyspace.specs.storage.InOrder.{NoneBefore, Rise, in_order_by}
use Rattle.checking.specs.Difference.{differences, entry_differences, first_of, is_same, is_same_verdict, match_differences, matched_with, with_another, reply_differences, version_of_reply}
use Rattle.keyspace.proofs.callers.Ordered.{in_order-rises}
use Rattle.checking.proofs.Matched.{above, first_of-above}

same_verdict : (v w : Verdict) → is_same_verdict v w ≡ true → v ≡ w
same_verdict Conflict Conflict h = refl
same_verdict TooOld TooOld h = refl
same_verdict Committed Committed h = refl
same_verdict Conflict TooOld h = cc
same_verdict Conflict Committed h = cc
same_verdict TooOld Conflict h = cc
same_verdict TooOld Committed h = cc
same_verdict Committed Conflict h = cc
same_verdict Committed TooOld h = cc

verdict_itself : (v : Verdict) → is_same_verdict v v ≡ true
verdict_itself Conflict = refl
verdict_itself TooOld = refl
verdict_itself Committed = refl

same_entry : (e f : Entry) → is_same e f ≡ true → e ≡ f
same_entry e f h =
    let parts = and_parts (is_same_verdict e.verdict f.verdict) _ h in
    entry_same e f (same_verdict e.verdict f.verdict parts.0) ((bytes_eq-Decides e.places f.places).0 parts.1)

both_true : (a b : Bool) → a ≡ true → b ≡ true → (a && b) ≡ true
both_true a b p q = λ i. p i && q i

entry_itself : (e : Entry) → is_same e e ≡ true
entry_itself e = both_true _ _ (verdict_itself e.verdict) ((bytes_eq-Decides e.places e.places).1 refl)

same_entries : (version : ℤ) (index : ℕ) (es fs : List Entry) → length es ≡ length fs
    → entry_differences version index es fs ≡ [] → es ≡ fs
same_entries version index [] [] long none = refl
same_entries version index [] (f ∷ fs) long none = absurd (omega arith)
same_entries version index (e ∷ es) [] long none = absurd (omega arith)
same_entries version index (e ∷ es) (f ∷ fs) long none =
    elim (cases_Bool (is_same e f)) [
      | inl same ↦
          ap₂ (λ (x : Entry) (xs : List Entry). x ∷ xs) (same_entry e f same)
          (same_entries version (index + 1) es fs (omega arith) (sym (cond-true _ _ _ same) ∙ none))
      | inr other ↦ let clash = sym (cond-false _ _ _ other) ∙ none in cc
    ]

entries_themselves : (version : ℤ) (index : ℕ) (es : List Entry) → entry_differences version index es es ≡ []
entries_themselves version index [] = refl
entries_themselves version index (e ∷ es) =
    cond-true _ _ _ (entry_itself e) ∙ entries_themselves version (index + 1) es

same_reply : (e f : Reply) → e.version ≡ f.version → reply_differences e f ≡ [] → e ≡ f
same_reply e f version none =
    elim (cases_Bool (eqb (length e.entries) (length f.entries))) [
      | inl long ↦
          reply_same e f version (same_entries e.version 0 e.entries f.entries (eqb-true _ _ long) (sym (cond-true _ _ _ long) ∙ none))
      | inr other ↦ let clash = sym (cond-false _ _ _ other) ∙ none in cc
    ]

reply_itself : (e : Reply) → reply_differences e e ≡ []
reply_itself e = cond-true _ _ _ (eq-eqb (length e.entries) _ refl) ∙ entries_themselves e.version 0 e.entries

nil_parts : (xs ys : List Difference) → xs ++ ys ≡ [] → (xs ≡ []) × (ys ≡ [])
nil_parts [] ys none = (refl, none)
nil_parts (x ∷ xs) ys none = cc

-- what is left once one was found
found_bound : (version least : ℤ) (rs : List Reply) (found : Reply × List Reply) → first_of version rs ≡ Some found
    → NoneBefore version_of_reply least rs → NoneBefore version_of_reply least found.1
found_bound version least [] found is none = cc
found_bound version least (r ∷ rs) found is none =
    elim (cases_Bool (int_eq r.version version)) [
      | inl same ↦
          let first : Some (r, rs) ≡ Some found = sym (cond-true _ _ _ same) ∙ is in
          let pair : (r, rs) ≡ found = cc in
          subst (λ (p : Reply × List Reply). NoneBefore version_of_reply least p.1) pair none.1
      | inr other ↦ further (λ next at. found_bound version least rs next at none.1) (first_of version rs) refl
          (sym (cond-false _ _ _ other) ∙ is)
    ]
  where
    further : ((next : Reply × List Reply) → first_of version rs ≡ Some next → NoneBefore version_of_reply least next.1)
        → (o : Option (Reply × List Reply)) → first_of version rs ≡ o → with_another r o ≡ Some found
        → NoneBefore version_of_reply least found.1
    further again None at e = cc
    further again (Some next) at e =
        let pair : (next.0, r ∷ next.1) ≡ found = cc in
        subst (λ (p : Reply × List Reply). NoneBefore version_of_reply least p.1) pair (none.0, again next at)

found_rises : (version : ℤ) (rs : List Reply) (found : Reply × List Reply) → first_of version rs ≡ Some found
    → Rise version_of_reply rs → Rise version_of_reply found.1
found_rises version [] found is rise = cc
found_rises version (r ∷ rs) found is rise =
    elim (cases_Bool (int_eq r.version version)) [
      | inl same ↦
          let first : Some (r, rs) ≡ Some found = sym (cond-true _ _ _ same) ∙ is in
          let pair : (r, rs) ≡ found = cc in
          subst (λ (p : Reply × List Reply). Rise version_of_reply p.1) pair rise.1
      | inr other ↦ further (λ next at. found_rises version rs next at rise.1) (first_of version rs) refl
          (sym (cond-false _ _ _ other) ∙ is)
    ]
  where
    further : ((next : Reply × List Reply) → first_of version rs ≡ Some next → Rise version_of_reply next.1)
        → (o : Option (Reply × List Reply)) → first_of version rs ≡ o → with_another r o ≡ Some found
        → Rise version_of_reply found.1
    further again None at e = cc
    further again (Some next) at e =
        let pair : (next.0, r ∷ next.1) ≡ found = cc in
        subst (λ (p : Reply × List Reply). Rise version_of_reply p.1) pair
        (found_bound version r.version rs next at rise.0, again next at)

same_if_none : (es rs : List Reply) → Rise version_of_reply es → Rise version_of_reply rs → match_differences es rs ≡ [] → es ≡ rs
same_if_none [] [] left right none = refl
same_if_none [] (r ∷ rs) left right none = cc
same_if_none (e ∷ es) [] left right none = cc
same_if_none (e ∷ es) (r ∷ rs) left right none =
    elim (cases_Bool (int_eq r.version e.version)) [
      | inl same ↦
          let found : first_of e.version (r ∷ rs) ≡ Some (r, rs) = cond-true _ _ _ same in
          let parts = nil_parts (reply_differences e r) (match_differences es rs)
          (sym (ap (matched_with e (r ∷ rs) (match_differences es)) found) ∙ none) in
          ap₂ (λ (x : Reply) (xs : List Reply). x ∷ xs)
          (same_reply e r (sym ((signed_Decides r.version e.version).0 same)) parts.0)
          (same_if_none es rs left.1 right.1 parts.1)
      | inr other ↦
          let found : first_of e.version (r ∷ rs) ≡ with_another r (first_of e.version rs) = cond-false _ _ _ other in
          absurd (clash (λ others rise h. same_if_none es others left.1 rise h) other (first_of e.version rs) refl (sym (ap (matched_with e (r ∷ rs) (match_differences es)) found) ∙ none))
    ]
  where
    clash : ((others : List Reply) → Rise version_of_reply others → match_differences es others ≡ [] → es ≡ others)
        → int_eq r.version e.version ≡ false → (o : Option (Reply × List Reply)) → first_of e.version rs ≡ o
        → matched_with e (r ∷ rs) (match_differences es) (with_another r o) ≡ [] → ⊥
    clash again other None at h = cc
    clash again other (Some next) at h =
        let parts = nil_parts (reply_differences e next.0) (match_differences es (r ∷ next.1)) h in
        let same = again (r ∷ next.1)
        (found_bound e.version r.version rs next at right.0, found_rises e.version rs next at right.1) parts.1 in
        let far = (subst (NoneBefore version_of_reply e.version) same left.0).0 in
        let high = above r.version e.version far
        (λ equal. let bad : true ≡ false = sym ((signed_Decides r.version e.version).1 equal) ∙ other in cc) in
        let nothing = first_of-above e.version r.version rs high right.0 in
        let bad : None ≡ Some next = sym nothing ∙ at in
        cc

matched_itself : (es : List Reply) → match_differences es es ≡ []
matched_itself [] = refl
matched_itself (e ∷ es) =
    let found : first_of e.version (e ∷ es) ≡ Some (e, es) = cond-true _ _ _ ((signed_Decides e.version e.version).1 refl) in
    ap (matched_with e (e ∷ es) (match_differences es)) found
    ∙ ap₂ (λ (xs ys : List Difference). xs ++ ys) (reply_itself e) (matched_itself es)

pub no_difference : (expected recorded : List Reply)
    → (differences expected recorded ≡ [])
    ↔ (in_order_by version_of_reply expected ≡ in_order_by version_of_reply recorded)
no_difference expected recorded = (
  same_if_none (in_order_by version_of_reply expected) (in_order_by version_of_reply recorded)
      (in_order-rises version_of_reply expected) (in_order-rises version_of_reply recorded),
  λ same. ap (λ (l : List Reply). match_differences (in_order_by version_of_reply expected) l) (sym same)
      ∙ matched_itself (in_order_by version_of_reply expected),
)
