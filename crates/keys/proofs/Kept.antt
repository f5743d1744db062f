-- The begins of sorted ranges, each kept once, and their ranks among these.
use Rattle.std.proofs.Common.{
  ◌≡◌,
  ◌↔◌,
  ℕ,
  ◌+◌,
  ◌-◌,
  ◌<◌,
  List,
  [],
  ◌∷◌,
  ◌++◌,
  length,
  get_or,
  not,
  take,
  refl,
  sym,
  ◌∙◌,
  ap,
  subst,
  inl,
  inr,
  ◌⊎◌,
  Bool,
  true,
  false,
  arith,
}
use Rattle.std.specs.Prelude.{◌≢◌, All, Contains}
use Rattle.std.proofs.lemmas.Bool.{cases_lt}
use Rattle.std.proofs.lemmas.Cmp.{nat_list_cmp_total}
use Rattle.std.proofs.lemmas.List.{
  get_or-take,
  get_or_append_left,
  get_or_default,
  get_or_push,
  length_push,
  length-take-le,
  map_more,
  take_all,
  take_more,
}
use Rattle.std.proofs.lemmas.List.Elements.{All-contains, All-map, Contains-append_left, Contains-get_or, Contains-push, Contains-push_cases}
use Rattle.std.proofs.lemmas.List.Quantifiers.{all_pairs_push}
use Rattle.std.proofs.lemmas.List.Sorted.{ranks_by, sorted_far}
use Rattle.keys.specs.Key.{is_before, IsBefore, IsAtMost}
use Rattle.keys.proofs.callers.KeyOrder.{before_at_most, before_or_same, not_before_itself}
use Rattle.keys.specs.declared.range.Range.{Range}
use Rattle.keys.specs.declared.gap_runs.begin_sort.HeadedIndex.{HeadedIndex}
use Rattle.keys.specs.GapRuns.{rank, AreRising}
use Rattle.keys.specs.Sorting.{begin_at, begins_of, AreInBeginOrder}
use Rattle.keys.proofs.Ranking.{rank_after, rank_push, rank_kept}

pub not_true : (b : Bool) → b ≡ false → b ≡ true → ⊥
not_true true f t = cc
not_true false f t = cc

-- the last one of rising keys has a rank of one less than their number
rank_of_last : (keys : List (List ℕ)) (last : List ℕ) → AreRising (keys ++ last ∷ [])
    → rank (keys ++ last ∷ []) last ≡ length keys
rank_of_last keys last rising =
    let before = rank_after keys last (λ k d lt. following k d lt) in
    rw (rank_push keys last last, not_before_itself last, before) (omega arith)
  where
    following : All (λ k. IsBefore k last) keys
    following k d lt =
        let this = get_or_append_left keys (last ∷ []) d k lt in
        let that = get_or_push keys last d (length keys) refl in
        subst (λ x. IsBefore x last) this
        (subst (λ x. IsBefore (get_or (keys ++ last ∷ []) k d) x) that
        (rising k (length keys) d lt (rw (length_push keys last) (omega arith))))

-- the key is the last of the keys
abbrev pub EndsWith : List (List ℕ) → List ℕ → Type 0
EndsWith keys key = (before : List (List ℕ)) × (keys ≡ before ++ key ∷ [])

-- the begins of some ranges, each once, in their order
pub record Kept (done keys : List (List ℕ)) : Type 0 where
  pub rising : AreRising keys
  pub same : (key : List ℕ) → Contains done key ↔ Contains keys key
  pub last : (key : List ℕ) → EndsWith done key ↔ EndsWith keys key

-- the begin of the next range is added unless it is that of the range before
abbrev pub IsNext : List (List ℕ) → List ℕ → List (List ℕ) → List (List ℕ) → Type 0
IsNext done key keys next = (EndsWith done key × (next ≡ keys)) ⊎ (¬ EndsWith done key × (next ≡ keys ++ key ∷ []))

-- no keys have a last one
pub none_last : (key : List ℕ) → ¬ EndsWith [] key
none_last key (before, e) = let long = ap length e ∙ length_push before key in absurd (omega arith)

-- keys have one last key
pub one_last : (keys : List (List ℕ)) (a b : List ℕ) → EndsWith keys a → EndsWith keys b → a ≡ b
one_last keys a b (before, e) (others, f) =
    let long = sym (length_push before a) ∙ ap length (sym e ∙ f) ∙ length_push others b in
    sym (get_or_push before a a (length before) refl) ∙ ap (λ ks. get_or ks (length before) a) (sym e ∙ f)
    ∙ get_or_push others b a (length before) (omega arith)

-- the last of the keys is one that is put after the others
pub last_of_push : (keys : List (List ℕ)) (key k : List ℕ) → EndsWith (keys ++ key ∷ []) k ↔ (key ≡ k)
last_of_push keys key k = (
  λ ends. one_last (keys ++ key ∷ []) key k (keys, refl) ends,
  λ e. (keys, ap (λ x. keys ++ x ∷ []) e),
)

-- unless the last key is this one, rising keys up to it are before it
all_before : (keys : List (List ℕ)) (key : List ℕ) → AreRising keys → All (λ k. IsAtMost k key) keys
    → ¬ EndsWith keys key → All (λ k. IsBefore k key) keys
all_before keys key rising up differs k d lt =
    elim (cases_lt (k + 1) (length keys)) [
      | inl more ↦
          before_at_most (get_or keys k d) (get_or keys (k + 1) d) key (rising k (k + 1) d (omega arith) more)
          (up (k + 1) d more)
      | inr le ↦ elim (before_or_same (get_or keys k d) key (up k d lt)) [
        | inl before ↦ before
        | inr same ↦
            absurd (differs (
              take k keys,
              sym (take_all (k + 1) keys (omega arith)) ∙ take_more keys k d lt
                  ∙ ap (λ x. take k keys ++ x ∷ []) same,
            ))
      ]
    ]

-- before any range no key is kept
pub kept_none : Kept [] []
kept_none = record {
  rising = λ i j d lt le. absurd (omega arith);
  same = λ key. (λ c. c, λ c. c);
  last = λ key. (λ e. e, λ e. e);
}

-- a range whose begin is the last one already adds nothing
kept_again : (done keys : List (List ℕ)) (key : List ℕ) → Kept done keys → EndsWith keys key
    → Kept (done ++ key ∷ []) keys
kept_again done keys key kept (before, parts) = record {
  rising = kept.rising;
  same = λ k. (
    λ c. elim (Contains-push_cases done key k c) [
      | inl earlier ↦ (kept.same k).0 earlier
      | inr e ↦ subst (Contains keys) e has
    ],
    λ c. Contains-append_left done (key ∷ []) k ((kept.same k).1 c),
  );
  last = λ k. (
    λ ends. subst (EndsWith keys) ((last_of_push done key k).0 ends) (before, parts),
    λ ends. (last_of_push done key k).1 (one_last keys key k (before, parts) ends),
  );
}
  where
    has : Contains keys key
    has = subst (λ ks. Contains ks key) (sym parts) (Contains-push before key)

-- a key after all the others is added
kept_more : (done keys : List (List ℕ)) (key : List ℕ) → Kept done keys → All (λ k. IsBefore k key) keys
    → Kept (done ++ key ∷ []) (keys ++ key ∷ [])
kept_more done keys key kept all = record {
  rising = all_pairs_push IsBefore keys key kept.rising all;
  same = λ k. (
    λ c. elim (Contains-push_cases done key k c) [
      | inl before ↦ Contains-append_left keys (key ∷ []) k ((kept.same k).0 before)
      | inr e ↦ subst (Contains (keys ++ key ∷ [])) e (Contains-push keys key)
    ],
    λ c. elim (Contains-push_cases keys key k c) [
      | inl before ↦ Contains-append_left done (key ∷ []) k ((kept.same k).1 before)
      | inr e ↦ subst (Contains (done ++ key ∷ [])) e (Contains-push done key)
    ],
  );
  last = λ k. (
    λ ends. (last_of_push keys key k).1 ((last_of_push done key k).0 ends),
    λ ends. (last_of_push done key k).1 ((last_of_push keys key k).0 ends),
  );
}

-- what is known once the next begin is kept: its rank, and that the ranks of the former keys stay
pub record KeptNext (done : List (List ℕ)) (key : List ℕ) (keys next : List (List ℕ)) : Type 0 where
  pub kept : Kept (done ++ key ∷ []) next
  pub stay : (k : List ℕ) → Contains done k → rank next k ≡ rank keys k
  pub last : rank next key ≡ length next - 1

-- the last key's rank, if the others are named by an equation
pub rank_at_end : (keys before : List (List ℕ)) (key : List ℕ) → AreRising keys → keys ≡ before ++ key ∷ []
    → rank keys key ≡ length keys - 1
rank_at_end keys before key rising e =
    rw e
    (rank_of_last before key (subst AreRising e rising)
    ∙ (let long = length_push before key in omega arith))

-- the keys after one more range, whose begin no former one is after
pub kept_next : (done : List (List ℕ)) (key : List ℕ) (keys next : List (List ℕ)) → Kept done keys
    → All (λ k. IsAtMost k key) done → IsNext done key keys next → KeptNext done key keys next
kept_next done key keys next kept up (inl (ends, e)) =
    let last = (kept.last key).0 ends in
    rw e (record {
      kept = kept_again done keys key kept last;
      stay = λ k c. refl;
      last = rank_at_end keys last.0 key kept.rising last.1;
    })
kept_next done key keys next kept up (inr (differs, e)) =
    rw e (record {
      kept = more;
      stay = λ k c. rank_kept keys key k (All-contains (λ k. IsAtMost k key) done k up c);
      last = rank_at_end (keys ++ key ∷ []) keys key more.rising refl;
    })
  where
    keys_up : All (λ k. IsAtMost k key) keys
    keys_up k d lt =
        All-contains (λ k. IsAtMost k key) done (get_or keys k d) up
        ((kept.same (get_or keys k d)).1 (Contains-get_or keys k d lt))

    more : Kept (done ++ key ∷ []) (keys ++ key ∷ [])
    more =
        kept_more done keys key kept
        (all_before keys key kept.rising keys_up (λ ends. differs ((kept.last key).1 ends)))

-- no begin of the ranges before is after that of the next one
pub up_to_next : (ranges : List Range) (headed : List HeadedIndex) (i : ℕ) (d : HeadedIndex) → i < length headed
    → AreInBeginOrder ranges headed
    → All (λ k. IsAtMost k (begin_at ranges (get_or headed i d).index)) (begins_of ranges (take i headed))
up_to_next ranges headed i d lt sorted =
    All-map (λ k. IsAtMost k (begin_at ranges (get_or headed i d).index)) (λ (x : HeadedIndex). begin_at ranges x.index)
    (take i headed) (λ k e below.
    let short : k < i = rw (length-take-le i headed (omega arith)) at below in
    let same = get_or-take i headed k e short in
    let there = get_or_default headed k d e (omega arith) in
    let f = λ (x : HeadedIndex). begin_at ranges x.index in
    let far = sorted_far (λ x y. is_before (f x) (f y)) (ranks_by nat_list_cmp_total f) headed sorted k i d
    (omega arith) lt in
    subst (λ x. IsAtMost (f x) (f (get_or headed i d))) (sym (same ∙ sym there)) (ap not far))

-- the last begin of the ranges before one is that of the range right before it
pub last_before : (ranges : List Range) (headed : List HeadedIndex) (i : ℕ) (d : HeadedIndex) (key : List ℕ) → i ≢ 0
    → i < length headed
    → EndsWith (begins_of ranges (take i headed)) key ↔ (begin_at ranges (get_or headed (i - 1) d).index ≡ key)
last_before ranges headed i d key some within =
    let f = λ (x : HeadedIndex). begin_at ranges x.index in
    let one : i ≡ i - 1 + 1 = omega (arith, some) in
    subst (λ n. EndsWith (begins_of ranges (take n headed)) key ↔ (f (get_or headed (i - 1) d) ≡ key)) (sym one)
    (rw (map_more f headed (i - 1) d (omega arith))
    (last_of_push (begins_of ranges (take (i - 1) headed)) (f (get_or headed (i - 1) d)) key))
