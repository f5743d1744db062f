-- The next transaction that may have written a key: what a binary search in the index of a batch finds.
use Rattle.std.proofs.Common.{◌≡◌, ℕ, ◌<◌, ◌≤◌, ◌⊎◌, ⊎_elim, false, length, get_or, List, None, Some, refl, sym, subst, arith}
use Rattle.std.specs.Prelude.{Contains}
use Rattle.std.specs.declared.cmp.Ordering.TheVariants.{Less, Equal, Greater}
use Rattle.std.specs.List.Sorted.{IsPartitionPoint, IsNonDecreasingBy}
use Rattle.std.specs.Ordering.{ordering_index}
use Rattle.std.proofs.lemmas.Bool.{cases_lt}
use Rattle.std.proofs.lemmas.List.Elements.{All-weaker}
use Rattle.std.proofs.lemmas.List.Sorted.{searchable_from_sorted}
use Rattle.keys.specs.Hash.{hash_of, IsHashOf}
use Rattle.keys.specs.Range.{ranges_meet}
use Rattle.keys.specs.declared.range.Range.{Range}
use Rattle.keys.proofs.callers.SingleRanges.{apart_by_hashes}
use Rattle.keyspace.specs.Writes.{counted_ranges}
use Rattle.keyspace.specs.declared.txn.Txn.{Txn}
use Rattle.keyspace.specs.declared.reply.Entry.{Entry}
use Rattle.explanations.specs.declared.writer_index.Writer.{Writer}
use Rattle.explanations.specs.declared.writer_index.WriterIndex.{WriterIndex}
use Rattle.explanations.specs.Writers.{NoneWrote, IsNextWriter, IsWrittenBy, IsIndexOf, writer_cmp}
use Rattle.explanations.proofs.Ordered.{writers_total, precedes_if_less, same_if_equal, follows_if_greater, rises}

pub nobody_between : (ts : List Txn) (es : List Entry) (range : Range) (from : ℕ) → NoneWrote ts es range from from
nobody_between ts es range from j t e low high at_t at_e = absurd (omega (arith, low, high))

module _ (ts : List Txn) (es : List Entry) (index : WriterIndex) (is : IsIndexOf index ts es) (singles : index.has_ranges ≡ false)
    (range : Range) (hash from : ℕ) (of : IsHashOf range (Some hash)) where
  abbrev writers : List Writer
  writers = index.writers.items

  abbrev writer : ℕ → Writer
  writer txn = record { hash = hash; txn = txn }

  apart : (j : ℕ) (other : Range) → (Contains writers (writer j) → ⊥) → IsWrittenBy writers j other → ranges_meet range other ≡ false
  apart j other none written =
      apart_by_hashes range other hash (hash_of other.begin) of (written.0, refl)
      (λ (same : hash ≡ hash_of other.begin).
      none (subst (λ (h : ℕ). Contains writers (record { hash = h; txn = j })) (sym same) written.1))

  none_wrote : (to : ℕ) → to ≤ length ts → ((j : ℕ) → from ≤ j → j < to → Contains writers (writer j) → ⊥)
      → NoneWrote ts es range from to
  none_wrote to within none j t e low high at_t at_e =
      All-weaker (IsWrittenBy writers j) (λ (other : Range). ranges_meet range other ≡ false) (λ other written. apart j other (none j low high) written)
      (counted_ranges e.verdict t.writes) (is.complete singles j t e (omega (arith, within, high)) at_t at_e)

  pub found_itself : (i : ℕ) → i < length writers → ((d : Writer) → writer_cmp (get_or writers i d) (writer from) ≡ Equal)
      → IsNextWriter ts es range from (Some from)
  found_itself i within equal =
      let w = get_or writers i (writer from) in
      let same = same_if_equal w (writer from) (equal (writer from)) in
      let low : w.txn < length ts = is.within i (writer from) within in
      (omega arith, omega (arith, same.1, low), nobody_between ts es range from)

  module _ (i : ℕ) (position : IsNonDecreasingBy (λ (w : Writer). ordering_index (writer_cmp w (writer from))) writers
      → IsPartitionPoint (λ w. writer_cmp w (writer from) ≡ Less) (λ w. writer_cmp w (writer from) ≡ Greater) writers i) where
    parted : IsPartitionPoint (λ w. writer_cmp w (writer from) ≡ Less) (λ w. writer_cmp w (writer from) ≡ Greater) writers i
    parted = position (searchable_from_sorted writers_total (λ (w : Writer). w) writers (writer from) is.sorted)

    -- each writer of the key at or after `from` comes at or after the index
    not_before : (j : ℕ) → from ≤ j → (has : Contains writers (writer j)) → i ≤ has.0
    not_before j low has =
        ⊎_elim
        (λ (before : has.0 < i).
        let less = subst (λ (w : Writer). writer_cmp w (writer from) ≡ Less) has.2 (parted.0 has.0 (writer j) (omega arith) before) in
        ⊎_elim (λ (below : hash < hash). absurd (omega (arith, below)))
        (λ (same : (hash ≡ hash) × (j < from)). absurd (omega (arith, same.1, low)))
        (precedes_if_less (writer j) (writer from) less))
        (λ (after : i ≤ has.0). after)
        (cases_lt has.0 i)

    pub found_end : length writers ≤ i → IsNextWriter ts es range from None
    found_end past =
        none_wrote (length ts) (omega arith) (λ j low high has. omega (arith, past, not_before j low has, has.1))

    module _ (w : Writer) (within : i < length writers) (at : (d : Writer) → get_or writers i d ≡ w) where
      follows : (hash < w.hash) ⊎ ((w.hash ≡ hash) × (from < w.txn))
      follows =
          follows_if_greater w (writer from)
          (subst (λ (x : Writer). writer_cmp x (writer from) ≡ Greater) (at w) (parted.1 i w (omega arith) within))

      -- a writer of the key at or after `from` comes at or after this one
      not_below : (j : ℕ) → from ≤ j → Contains writers (writer j) → (w.hash < hash) ⊎ ((hash ≡ w.hash) × (w.txn ≤ j))
      not_below j low has =
          subst (λ (x : Writer). (x.hash < hash) ⊎ ((hash ≡ x.hash) × (x.txn ≤ j))) (at (writer j))
          (subst (λ (x : Writer). ((get_or writers i (writer j)).hash < x.hash)
          ⊎ ((x.hash ≡ (get_or writers i (writer j)).hash) × ((get_or writers i (writer j)).txn ≤ x.txn))) has.2
          (rises writers i has.0 (writer j) is.sorted (not_before j low has) has.1))

      pub found_next : w.hash ≡ hash → IsNextWriter ts es range from (Some w.txn)
      found_next same =
          let low : w.txn < length ts = subst (λ (x : Writer). x.txn < length ts) (at w) (is.within i w within) in
          let rises_to : from ≤ w.txn =
          ⊎_elim (λ (above : hash < w.hash). absurd (omega (arith, above, same)))
          (λ (later : (w.hash ≡ hash) × (from < w.txn)). omega (arith, later.1)) follows in (
            rises_to,
            low,
            none_wrote w.txn (omega (arith, low)) (λ j after before has.
                ⊎_elim (λ (below : w.hash < hash). absurd (omega (arith, below, same)))
                (λ (later : (hash ≡ w.hash) × (w.txn ≤ j)). absurd (omega (arith, later.1, before))) (not_below j after has)),
          )

      pub found_other : (w.hash ≡ hash → ⊥) → IsNextWriter ts es range from None
      found_other differ =
          none_wrote (length ts) (omega arith) (λ j after before has.
          ⊎_elim (λ (below : w.hash < hash).
          ⊎_elim (λ (above : hash < w.hash). absurd (omega (arith, below, above)))
          (λ (later : (w.hash ≡ hash) × (from < w.txn)). differ later.0) follows)
          (λ (later : (hash ≡ w.hash) × (w.txn ≤ j)). differ (sym later.0)) (not_below j after has))
