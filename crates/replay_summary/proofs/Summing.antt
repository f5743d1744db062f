-- The summary of one more answer, and the total of one more summary.
use Rattle.std.specs.Prelude.{◌≡◌, ℕ, ◌+◌, ℤ, Bool, true, false, not, cond, ◌&&◌, List, [], ◌∷◌, ◌++◌, length, map, filter, fold, sum_by, count_by, Option, None, Some}
use Rattle.std.proofs.Common.{refl, sym, ap, subst, ◌∙◌, append-nil, add-zero, length-append}
use Rattle.std.proofs.lemmas.List.{map-append}
use Rattle.std.proofs.lemmas.List.Elements.{filter-append}
use Rattle.std.proofs.lemmas.List.Sums.{fold-append, sum_by_push}
use Rattle.replay_summary.specs.declared.counted.Counted.{Counted}
use Rattle.replay_summary.specs.declared.counted.Outcome.{Outcome}
use Rattle.replay_summary.specs.declared.counted.Outcome.TheVariants.{Replied, Never, Held}
use Rattle.replay_summary.specs.declared.summary.Summary.{Summary}
use Rattle.replay_summary.specs.declared.versions.Versions.{Versions}
use Rattle.replay_summary.specs.Adding.{is_last, part, plus}
use Rattle.replay_summary.specs.Counted.{version_of}
use Rattle.replay_summary.specs.Summary.{
  first_replies,
  has_reply,
  is_first,
  is_repeat,
  is_reply,
  only,
  repeats,
  reply_versions,
  says_held,
  says_never,
  says_reply,
  span,
  span_of_both,
  summary_of,
  total_of,
  transactions_in,
  verdicts,
}
use Rattle.replay_summary.proofs.Last.{NoneAbove, last_seen}
use Rattle.replay_summary.proofs.Rising.{NoneAbove-replies}
use Rattle.replay_summary.proofs.Selecting.{item_if, selected-more}

-- sums over what is selected
module _ {X : Type 0} (f : X → ℕ) where
  sum_by-chosen : (xs : List X) (t : Bool) (x : X) → sum_by f (xs ++ item_if t x) ≡ sum_by f xs + cond t (f x) 0
  sum_by-chosen xs true x = sum_by_push f xs x
  sum_by-chosen xs false x = ap (sum_by f) (append-nil xs) ∙ sym (add-zero (sum_by f xs))

length-chosen : {X : Type 0} (xs : List X) (t : Bool) (x : X) → length (xs ++ item_if t x) ≡ length xs + cond t 1 0
length-chosen xs true x = length-append xs (x ∷ [])
length-chosen xs false x = length-append xs []

-- what a first reply adds, by whether it is one
abbrev first : Bool → Outcome → Bool
first b outcome = says_reply outcome && not b

module _ (cs : List Counted) (c : Counted) where
  first_replies-more : first_replies (cs ++ c ∷ []) ≡ first_replies cs ++ item_if (first (has_reply c.version cs) c.outcome) c
  first_replies-more = selected-more is_first cs c

  repeats-more : repeats (cs ++ c ∷ []) ≡ repeats cs ++ item_if (says_reply c.outcome && has_reply c.version cs) c
  repeats-more = selected-more is_repeat cs c

  sum-more : (f : Counted → ℕ) (n : ℕ) → cond (first (has_reply c.version cs) c.outcome) (f c) 0 ≡ n
      → sum_by f (first_replies (cs ++ c ∷ [])) ≡ sum_by f (first_replies cs) + n
  sum-more f n is =
      ap (sum_by f) first_replies-more ∙ sum_by-chosen f (first_replies cs) _ c ∙ ap (λ k. sum_by f (first_replies cs) + k) is

  versions-more : span (map only (reply_versions (cs ++ c ∷ [])))
      ≡ fold span_of_both (span (map only (reply_versions cs))) (map only (reply_versions (c ∷ [])))
  versions-more =
      ap (λ (l : List Counted). span (map only (map (λ (x : Counted). x.version) l))) (filter-append is_reply cs (c ∷ []))
      ∙ ap (λ (l : List ℤ). span (map only l))
      (map-append (λ (x : Counted). x.version) (filter is_reply cs) (filter is_reply (c ∷ [])))
      ∙ ap span (map-append only (reply_versions cs) (reply_versions (c ∷ [])))
      ∙ fold-append span_of_both None (map only (reply_versions cs)) (map only (reply_versions (c ∷ [])))

spanning-none : (versions : Option Versions) → versions ≡ span_of_both versions None
spanning-none None = refl
spanning-none (Some versions) = refl

-- what one answer adds is its part
batches_part : (b : Bool) (v : ℤ) (o : Outcome) → cond (first b o) 1 0 ≡ (part b v o).batches
batches_part true v (Replied counts) = refl
batches_part false v (Replied counts) = refl
batches_part b v Never = refl
batches_part b v Held = refl

transactions_part : (b : Bool) (v : ℤ) (o : Outcome)
    → cond (first b o) (transactions_in (verdicts o)) 0 ≡ (part b v o).transactions
transactions_part true v (Replied counts) = refl
transactions_part false v (Replied counts) = refl
transactions_part b v Never = refl
transactions_part b v Held = refl

committed_part : (b : Bool) (v : ℤ) (o : Outcome) → cond (first b o) (verdicts o).committed 0 ≡ (part b v o).committed
committed_part true v (Replied counts) = refl
committed_part false v (Replied counts) = refl
committed_part b v Never = refl
committed_part b v Held = refl

conflict_part : (b : Bool) (v : ℤ) (o : Outcome) → cond (first b o) (verdicts o).conflict 0 ≡ (part b v o).conflict
conflict_part true v (Replied counts) = refl
conflict_part false v (Replied counts) = refl
conflict_part b v Never = refl
conflict_part b v Held = refl

too_old_part : (b : Bool) (v : ℤ) (o : Outcome) → cond (first b o) (verdicts o).too_old 0 ≡ (part b v o).too_old
too_old_part true v (Replied counts) = refl
too_old_part false v (Replied counts) = refl
too_old_part b v Never = refl
too_old_part b v Held = refl

repeats_part : (b : Bool) (v : ℤ) (o : Outcome) → cond (says_reply o && b) 1 0 ≡ (part b v o).repeats
repeats_part true v (Replied counts) = refl
repeats_part false v (Replied counts) = refl
repeats_part b v Never = refl
repeats_part b v Held = refl

never_part : (b : Bool) (v : ℤ) (o : Outcome) → cond (says_never o) 1 0 ≡ (part b v o).never
never_part true v (Replied counts) = refl
never_part false v (Replied counts) = refl
never_part b v Never = refl
never_part b v Held = refl

held_part : (b : Bool) (v : ℤ) (o : Outcome) → cond (says_held o) 1 0 ≡ (part b v o).held
held_part true v (Replied counts) = refl
held_part false v (Replied counts) = refl
held_part b v Never = refl
held_part b v Held = refl

versions_part : (before : Option Versions) (b : Bool) (v : ℤ) (o : Outcome)
    → fold span_of_both before (map only (map (λ (x : Counted). x.version) (cond (says_reply o) (record { version = v; outcome = o } ∷ []) [])))
    ≡ span_of_both before (part b v o).versions
versions_part before true v (Replied counts) = refl
versions_part before false v (Replied counts) = refl
versions_part before b v Never = spanning-none before
versions_part before b v Held = spanning-none before

summary_more : (cs : List Counted) (c : Counted) (b : Bool) → b ≡ has_reply c.version cs
    → summary_of (cs ++ c ∷ []) ≡ plus (summary_of cs) (part b c.version c.outcome)
summary_more cs c b is =
    subst (λ (seen : Bool). summary_of (cs ++ c ∷ []) ≡ plus (summary_of cs) (part seen c.version c.outcome)) (sym is) (
    let b = has_reply c.version cs in
    let v = c.version in
    let o = c.outcome in
    let batches = ap length (first_replies-more cs c) ∙ length-chosen (first_replies cs) _ c
    ∙ ap (λ k. length (first_replies cs) + k) (batches_part b v o) in
    let transactions = sum-more cs c (λ x. transactions_in (verdicts x.outcome)) _ (transactions_part b v o) in
    let committed = sum-more cs c (λ x. (verdicts x.outcome).committed) _ (committed_part b v o) in
    let conflict = sum-more cs c (λ x. (verdicts x.outcome).conflict) _ (conflict_part b v o) in
    let too_old = sum-more cs c (λ x. (verdicts x.outcome).too_old) _ (too_old_part b v o) in
    let repeated = ap length (repeats-more cs c) ∙ length-chosen (repeats cs) _ c
    ∙ ap (λ k. length (repeats cs) + k) (repeats_part b v o) in
    let never = sum_by_push (λ (x : Counted). cond (says_never x.outcome) 1 0) cs c
    ∙ ap (λ k. count_by (λ (x : Counted). says_never x.outcome) cs + k) (never_part b v o) in
    let held = sum_by_push (λ (x : Counted). cond (says_held x.outcome) 1 0) cs c
    ∙ ap (λ k. count_by (λ (x : Counted). says_held x.outcome) cs + k) (held_part b v o) in
    let versions = versions-more cs c ∙ versions_part (span (map only (reply_versions cs))) b v o in
    λ i. record {
      batches = batches i;
      transactions = transactions i;
      committed = committed i;
      conflict = conflict i;
      too_old = too_old i;
      repeats = repeated i;
      never = never i;
      held = held i;
      versions = versions i;
    }
    )

-- one more answer, whose version none before it is above
pub summary_next : (cs : List Counted) (c : Counted) → NoneAbove version_of c.version cs
    → summary_of (cs ++ c ∷ [])
    ≡ plus (summary_of cs) (part (is_last c.version (summary_of cs).versions) c.version c.outcome)
summary_next cs c none =
    summary_more cs c _ (last_seen c.version (reply_versions cs) (NoneAbove-replies c.version cs none))

pub total_next : (ss : List Summary) (s : Summary) → total_of (ss ++ s ∷ []) ≡ plus (total_of ss) s
total_next ss s =
    let versions : span (map (λ (x : Summary). x.versions) (ss ++ s ∷ [])) ≡ span_of_both (total_of ss).versions s.versions =
    ap span (map-append (λ (x : Summary). x.versions) ss (s ∷ []))
    ∙ fold-append span_of_both None (map (λ (x : Summary). x.versions) ss) (s.versions ∷ []) in
    λ i. record {
      batches = sum_by_push (λ (x : Summary). x.batches) ss s i;
      transactions = sum_by_push (λ (x : Summary). x.transactions) ss s i;
      committed = sum_by_push (λ (x : Summary). x.committed) ss s i;
      conflict = sum_by_push (λ (x : Summary). x.conflict) ss s i;
      too_old = sum_by_push (λ (x : Summary). x.too_old) ss s i;
      repeats = sum_by_push (λ (x : Summary). x.repeats) ss s i;
      never = sum_by_push (λ (x : Summary). x.never) ss s i;
      held = sum_by_push (λ (x : Summary). x.held) ss s i;
      versions = versions i;
    }
