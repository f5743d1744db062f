-- An index of writers with one write more, with one transaction more, and once it is in order.
use Rattle.std.proofs.Common.{◌≡◌, ℕ, ◌+◌, ◌<◌, ◌≤◌, true, false, ⊎_elim, List, [], ◌∷◌, ◌++◌, length, take, refl, sym, ap, subst, ◌∙◌, arith, append-nil, append_assoc}
use Rattle.std.specs.Prelude.{All, Contains, Some, slice_get}
use Rattle.std.specs.List.Sorted.{IsPermutation, IsSorted}
use Rattle.std.proofs.lemmas.Bool.{cases_order}
use Rattle.std.proofs.lemmas.List.Elements.{All-nil, All-cons, All-append, All-weaker, Contains-append_left, Contains-append_right, Contains-push}
use Rattle.std.proofs.lemmas.List.Sorted.{All-permutation, Contains-permutation}
use Rattle.keys.specs.Hash.{IsHashOf}
use Rattle.keys.specs.declared.range.Range.{Range}
use Rattle.keys.proofs.callers.Lists.{part_more}
use Rattle.keyspace.specs.Writes.{counted_ranges}
use Rattle.keyspace.specs.declared.txn.Txn.{Txn}
use Rattle.keyspace.specs.declared.reply.Entry.{Entry}
use Rattle.explanations.specs.declared.writer_index.Writer.{Writer}
use Rattle.explanations.specs.declared.writer_index.WriterIndex.{WriterIndex}
use Rattle.explanations.specs.Writers.{AddsWrites, IsIndexOf, IsWrittenBy, HasWritersTo, writer_cmp}

written_left : (ws more : List Writer) (j : ℕ) (range : Range) → IsWrittenBy ws j range → IsWrittenBy (ws ++ more) j range
written_left ws more j range written = (written.0, Contains-append_left ws more _ written.1)

pub adds_none : (index : WriterIndex) (j : ℕ) → AddsWrites index index j []
adds_none index j = record {
  added = [];
  writers = sym (append-nil index.writers.items);
  own = All-nil (λ (w : Writer). w.txn ≡ j);
  singles = λ none. (none, All-nil (IsWrittenBy [] j));
}

-- a single key
pub adds_single : (old new : WriterIndex) (j hash : ℕ) (range : Range) → IsHashOf range (Some hash)
    → new.writers.items ≡ old.writers.items ++ record { hash = hash; txn = j } ∷ [] → new.has_ranges ≡ old.has_ranges
    → AddsWrites old new j (range ∷ [])
adds_single old new j hash range of pushed same =
    let w : Writer = record { hash = hash; txn = j } in
    let added = w ∷ [] in
    let own : IsWrittenBy added j range =
    (of.0, subst (λ (h : ℕ). Contains added (record { hash = h; txn = j })) of.1 (Contains-push [] w)) in
    record {
      added = added;
      writers = pushed;
      own = All-cons (λ (v : Writer). v.txn ≡ j) w [] refl (All-nil (λ (v : Writer). v.txn ≡ j));
      singles = λ none. (sym same ∙ none, All-cons (IsWrittenBy added j) range [] own (All-nil (IsWrittenBy added j)));
    }

-- a range that isn't a single key
pub adds_other : (old new : WriterIndex) (j : ℕ) (range : Range) → new.writers.items ≡ old.writers.items → new.has_ranges ≡ true
    → AddsWrites old new j (range ∷ [])
adds_other old new j range kept has = record {
  added = [];
  writers = kept ∙ sym (append-nil old.writers.items);
  own = All-nil (λ (v : Writer). v.txn ≡ j);
  singles = λ none. absurd cc;
}

-- further ranges
pub adds_then : (old mid new : WriterIndex) (j : ℕ) (ranges others : List Range) → AddsWrites old mid j ranges → AddsWrites mid new j others
    → AddsWrites old new j (ranges ++ others)
adds_then old mid new j ranges others first second =
    let added = first.added ++ second.added in
    record {
      added = added;
      writers =
          second.writers ∙ ap (λ (ws : List Writer). ws ++ second.added) first.writers
          ∙ append_assoc old.writers.items first.added second.added;
      own = All-append (λ (v : Writer). v.txn ≡ j) first.added second.added first.own second.own;
      singles = λ none.
          let later = second.singles none in
          let earlier = first.singles later.0 in (
            earlier.0,
            All-append (IsWrittenBy added j) ranges others
                (All-weaker (IsWrittenBy first.added j) (IsWrittenBy added j) (λ r. written_left first.added second.added j r) ranges earlier.1)
                (All-weaker (IsWrittenBy second.added j) (IsWrittenBy added j)
                (λ r written. (written.0, Contains-append_right first.added second.added _ written.1)) others later.1),
          );
    }

-- in a loop: those up to an index, and the one at it
pub adds_next : (old mid new : WriterIndex) (j i : ℕ) (ranges : List Range) (range : Range) → AddsWrites old mid j (take i ranges)
    → AddsWrites mid new j (range ∷ []) → slice_get ranges i ≡ Some range → AddsWrites old new j (take (i + 1) ranges)
adds_next old mid new j i ranges range before own at =
    let here : 0 + i ≡ i = omega arith in
    subst (AddsWrites old new j) (sym (part_more ranges 0 i range (ap (slice_get ranges) here ∙ at)))
    (adds_then old mid new j (take i ranges) (range ∷ []) before own)

-- what is known of an index while it is made: of the transactions below index n
pub record IsIndexTo (index : WriterIndex) (n : ℕ) (ts : List Txn) (es : List Entry) : Type 0 where
  pub within : All (λ (w : Writer). w.txn < length ts) index.writers.items
  pub complete : index.has_ranges ≡ false → HasWritersTo index.writers.items n ts es

-- the entry of one more
writers_more : (ws more : List Writer) (n : ℕ) (ts : List Txn) (es : List Entry) (t : Txn) (e : Entry) → HasWritersTo ws n ts es
    → slice_get ts n ≡ Some t → slice_get es n ≡ Some e → All (IsWrittenBy more n) (counted_ranges e.verdict t.writes)
    → HasWritersTo (ws ++ more) (n + 1) ts es
writers_more ws more n ts es t e before at_t at_e own j u f below at_u at_f =
    ⊎_elim
    (λ (same : j ≡ n).
    let here_t : slice_get ts n ≡ Some u = subst (λ (k : ℕ). slice_get ts k ≡ Some u) same at_u in
    let here_e : slice_get es n ≡ Some f = subst (λ (k : ℕ). slice_get es k ≡ Some f) same at_f in
    let is_t : t ≡ u = cc in
    let is_e : e ≡ f = cc in
    let all : All (IsWrittenBy more n) (counted_ranges f.verdict u.writes) =
    subst (λ (x : Entry). All (IsWrittenBy more n) (counted_ranges x.verdict u.writes)) is_e
    (subst (λ (x : Txn). All (IsWrittenBy more n) (counted_ranges e.verdict x.writes)) is_t own) in
    subst (λ (k : ℕ). All (IsWrittenBy (ws ++ more) k) (counted_ranges f.verdict u.writes)) (sym same)
    (All-weaker (IsWrittenBy more n) (IsWrittenBy (ws ++ more) n)
    (λ range written. (written.0, Contains-append_right ws more _ written.1)) (counted_ranges f.verdict u.writes) all))
    (λ other.
    ⊎_elim
    (λ (lower : j < n).
    All-weaker (IsWrittenBy ws j) (IsWrittenBy (ws ++ more) j) (λ range. written_left ws more j range) (counted_ranges f.verdict u.writes)
    (before j u f lower at_u at_f))
    (λ (higher : n < j). absurd (omega (arith, higher, below)))
    other)
    (cases_order j n)

-- one transaction more
pub index_more : (old new : WriterIndex) (n : ℕ) (ts : List Txn) (es : List Entry) (t : Txn) (e : Entry) → IsIndexTo old n ts es
    → AddsWrites old new n (counted_ranges e.verdict t.writes) → n < length ts → slice_get ts n ≡ Some t → slice_get es n ≡ Some e
    → IsIndexTo new (n + 1) ts es
index_more old new n ts es t e before adds inside at_t at_e = record {
  within =
      subst (All (λ (w : Writer). w.txn < length ts)) (sym adds.writers)
      (All-append (λ (w : Writer). w.txn < length ts) old.writers.items adds.added before.within
      (All-weaker (λ (w : Writer). w.txn ≡ n) (λ (w : Writer). w.txn < length ts) (λ w same. omega (arith, same, inside)) adds.added adds.own));
  complete = λ none.
      let own = adds.singles none in
      subst (λ (ws : List Writer). HasWritersTo ws (n + 1) ts es) (sym adds.writers)
      (writers_more old.writers.items adds.added n ts es t e (before.complete own.0) at_t at_e own.1);
}

-- in order, after the last transaction
pub index_sorted : (old new : WriterIndex) (n : ℕ) (ts : List Txn) (es : List Entry) → IsIndexTo old n ts es → length ts ≤ n
    → IsPermutation old.writers.items new.writers.items → IsSorted writer_cmp new.writers.items → new.has_ranges ≡ old.has_ranges
    → IsIndexOf new ts es
index_sorted old new n ts es before past moved sorted same = record {
  sorted = sorted;
  within = All-permutation (λ (w : Writer). w.txn < length ts) old.writers.items new.writers.items moved before.within;
  complete = λ none j t e below at_t at_e.
      All-weaker (IsWrittenBy old.writers.items j) (IsWrittenBy new.writers.items j)
      (λ range written. (written.0, Contains-permutation old.writers.items new.writers.items _ moved written.1)) (counted_ranges e.verdict t.writes)
      (before.complete (sym same ∙ none) j t e (omega (arith, below, past)) at_t at_e);
}
