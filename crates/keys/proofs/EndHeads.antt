-- The head of an end tells which ranges begin below that end.
use Rattle.std.proofs.Common.{◌≡◌, ◌≢◌, ℕ, zero, suc, ◌-◌, ◌^◌, ◌<◌, ◌≤◌, true, false, cond, ltb, List, [], ◌∷◌, length, take, drop, refl, sym, ap, subst, ◌∙◌, inl, inr, ◌⊎◌, arith, length-take}
use Rattle.std.specs.Prelude.{Contains}
use Rattle.std.proofs.lemmas.Bool.{cases_order, eq-eqb, le-ltb, lt-ltb, ne_eqb}
use Rattle.std.proofs.lemmas.List.{take_all}
use Rattle.std.proofs.lemmas.List.Elements.{All-drop}
use Rattle.keys.specs.Head.{head_of}
use Rattle.keys.specs.Key.{IsBytes, is_before, IsBefore, IsAtMost}
use Rattle.keys.specs.declared.range.Range.{Range}
use Rattle.keys.specs.declared.gap_runs.begin_sort.HeadedIndex.{HeadedIndex}
use Rattle.keys.specs.Sorting.{begin_at, AreHeadedAfter}
use Rattle.keys.specs.Numbering.{begins_below_end, HeadsDetermine, IsEndHead}
use Rattle.keys.proofs.callers.KeyHeads.{before_by_first, after_by_first, before_after_first, after_common, head_below, head_less}
use Rattle.keys.proofs.callers.KeyOrder.{before_at_most_same, not_before_if}
use Rattle.keys.proofs.Heads.{begin_bytes}

abbrev IsByte : ℕ → Type 0
IsByte byte = byte < 256

-- An end that comes after a key, and doesn't begin with that key's first bytes, comes after each key that does.
leaves : (n : ℕ) (a end c : List ℕ) → n ≤ length a → n ≤ length c → take n a ≡ take n c → IsBefore a end
    → take n end ≢ take n a → IsBefore c end
leaves zero a end c in_a in_c same before differs = absurd (differs refl)
leaves (suc n) [] end c in_a in_c same before differs = absurd (omega arith)
leaves (suc n) (x ∷ a) end [] in_a in_c same before differs = absurd (omega arith)
leaves (suc n) (x ∷ a) [] (z ∷ c) in_a in_c same before differs = cc
leaves (suc n) (x ∷ a) (y ∷ end) (z ∷ c) in_a in_c same before differs =
    let first : x ≡ z = cc in
    let others : take n a ≡ take n c = cc in
    elim (cases_order x y) [
      | inl e ↦
          let following : IsBefore a end =
          sym (before_after_first x a end) ∙ subst (λ w. IsBefore (x ∷ a) (w ∷ end)) (sym e) before in
          let apart : take n end ≢ take n a =
          λ more. differs (ap (λ bytes. y ∷ bytes) more ∙ ap (λ w. w ∷ take n a) (sym e)) in
          let rest = leaves n a end c (omega arith) (omega arith) others following apart in
          subst (λ w. IsBefore (w ∷ c) (y ∷ end)) (sym e ∙ first) (before_after_first y c end ∙ rest)
      | inr apart ↦ elim apart [
        | inl below ↦ subst (λ w. IsBefore (w ∷ c) (y ∷ end)) first (before_by_first x y c end below)
        | inr above ↦
            let no : false ≡ true = sym (after_by_first x y a end above) ∙ before in
            cc
      ]
    ]

module _ (ranges : List Range) (prefix end : List ℕ) (head : ℕ) (h : HeadedIndex)
    (bytes : IsBytes end) where
  abbrev n : ℕ
  n = length prefix

  abbrev begin : List ℕ
  begin = begin_at ranges h.index

  -- an end that begins with the prefix too
  by_heads : n ≤ length begin → take n prefix ≡ take n begin → h.head ≡ head_of (drop n begin)
      → take n end ≡ prefix → head ≡ head_of (drop n end) → HeadsDetermine ranges end head h
  by_heads long equal taken starts is =
      let in_end : n ≤ length end = omega (arith, ap length starts, length-take n end) in
      let same : take n begin ≡ take n end = sym equal ∙ (take_all n prefix (omega arith) ∙ sym starts) in
      let begin_rest = All-drop IsByte n begin (begin_bytes ranges h.index) in
      let end_rest = All-drop IsByte n end bytes in
      record {
        less = λ below. after_common n begin end long in_end same
            ∙ head_less (drop n begin) (drop n end) begin_rest end_rest (omega (arith, taken, is));
        greater = λ above. before_at_most_same end begin (after_common n end begin in_end long (sym same)
            ∙ head_less (drop n end) (drop n begin) end_rest begin_rest (omega (arith, taken, is)));
      }

  -- one that doesn't
  by_prefix : (own : List ℕ) → n ≤ length own → take n prefix ≡ take n own → IsBefore own end
      → n ≤ length begin → take n prefix ≡ take n begin → h.head ≡ head_of (drop n begin)
      → take n end ≢ prefix → head ≡ 2 ^ 64 - 1 → HeadsDetermine ranges end head h
  by_prefix own own_long own_equal before long equal taken differs is =
      let below = head_below (drop n begin) (All-drop IsByte n begin (begin_bytes ranges h.index)) in
      record {
        less = λ _. leaves n own end begin own_long long (sym own_equal ∙ equal) before
            (λ e. differs (e ∙ (sym own_equal ∙ take_all n prefix (omega arith))));
        greater = λ above. absurd (omega (arith, below, taken, is));
      }

-- the head of the end of one of the ranges shows it of each
pub ends_determine : (ranges : List Range) (prefix end : List ℕ) (head : ℕ) (headed : List HeadedIndex) (own : HeadedIndex) → IsBytes end
    → AreHeadedAfter ranges prefix headed → Contains headed own → IsBefore (begin_at ranges own.index) end
    → IsEndHead prefix end head → (h : HeadedIndex) → Contains headed h → HeadsDetermine ranges end head h
ends_determine ranges prefix end head headed own bytes are listed before is h has =
    let equal = are.equal h has in
    let taken = are.heads h has in
    let mine = are.equal own listed in
    elim is [
      | inl (starts, of_end) ↦ by_heads ranges prefix end head h bytes equal.in_second equal.same taken starts of_end
      | inr (differs, greatest) ↦
          by_prefix ranges prefix end head h bytes (begin_at ranges own.index) mine.in_second mine.same before
          equal.in_second equal.same taken differs greatest
    ]

differ : (m n : ℕ) → (m < n) ⊎ (n < m) → m ≡ n → ⊥
differ m n (inl below) e = omega arith
differ m n (inr above) e = omega arith

-- if the head determines it, it is so
pub determined_same : (ranges : List Range) (end : List ℕ) (head : ℕ) (h : HeadedIndex) → HeadsDetermine ranges end head h
    → begins_below_end ranges end head h ≡ is_before (begin_at ranges h.index) end
determined_same ranges end head h determine =
    let determined = is_before (begin_at ranges h.index) end in
    let less = ltb h.head head in
    elim (cases_order h.head head) [
      | inl e ↦ ap (λ b. cond b determined less) (eq-eqb h.head head e)
      | inr apart ↦
          let by_head : begins_below_end ranges end head h ≡ less =
          ap (λ b. cond b determined less) (ne_eqb h.head head (λ e. differ h.head head apart e)) in
          elim apart [
            | inl below ↦ by_head ∙ (lt-ltb h.head head below ∙ sym (determine.less below))
            | inr above ↦ by_head ∙ (le-ltb h.head head (omega arith)
                ∙ sym (not_before_if end (begin_at ranges h.index) (determine.greater above)))
          ]
    ]
