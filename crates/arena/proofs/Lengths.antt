-- The entries of a chunk, as its lengths and its headers show them.
use Rattle.std.proofs.Common.{◌≡◌, ◌≢◌, ℕ, zero, suc, ◌==◌, if◌then◌else◌, Bool, true, false, List, [], ◌∷◌, ◌++◌, length, set, slice_get, Some, option_map, unwrap_or, refl, ap, ◌∙◌, arith}
use Rattle.std.proofs.lemmas.Bool.{eqb-false, eqb-true}
use Rattle.arena.specs.Entry.{Entry, Free, Live, held, IsFree}
use Rattle.arena.specs.Chunk.{Head, entry_of, entries_of}

module _ {H : Type 0} where
  pub length-entries_of : (ls : List ℕ) (hs : List H) → length hs ≡ length ls
      → length (entries_of ls hs) ≡ length ls
  length-entries_of [] hs paired = refl
  length-entries_of (n ∷ ls) [] paired = absurd (omega arith)
  length-entries_of (n ∷ ls) (h ∷ hs) paired = ap suc (length-entries_of ls hs (omega arith))

  abbrev entry_by : Bool → ℕ → H → Entry (Head H)
  entry_by free n header = if free then Free else Live (record { header = header; length = n })

  -- a length that is not the mark of a free slot makes it live
  entry_by-live : (free : Bool) (n : ℕ) (header : H) → ((n == 65535) ≡ free) → n ≢ 65535
      → entry_by free n header ≡ Live (record { header = header; length = n })
  entry_by-live true n header is other = absurd (other (eqb-true n 65535 is))
  entry_by-live false n header is other = refl

  entry_of-live : (n : ℕ) (header : H) → n ≢ 65535
      → entry_of n header ≡ Live (record { header = header; length = n })
  entry_of-live n header other = entry_by-live (n == 65535) n header refl other

  -- what a live entry shows about its length and header
  pub record IsEntry (n : ℕ) (header : H) (head : Head H) : Type 0 where
    pub live : n ≢ 65535
    pub length_is : n ≡ head.length
    pub header_is : header ≡ head.header

  entry_by-is : (free : Bool) (n : ℕ) (header : H) (head : Head H) → ((n == 65535) ≡ free)
      → entry_by free n header ≡ Live head → IsEntry n header head
  entry_by-is true n header head is live = cc
  entry_by-is false n header head is live =
      let same : Some (record { header = header; length = n }) ≡ Some head = ap held live in
      record {
        live = eqb-false n 65535 is;
        length_is = ap (λ o. unwrap_or (option_map (λ h. h.length) o) n) same;
        header_is = ap (λ o. unwrap_or (option_map (λ h. h.header) o) header) same;
      }

  -- a live entry is where a length and a header are
  pub found : (ls : List ℕ) (hs : List H) (i : ℕ) (head : Head H) → slice_get (entries_of ls hs) i ≡ Some (Live head)
      → (slice_get ls i ≡ Some head.length) × (slice_get hs i ≡ Some head.header) × (head.length ≢ 65535)
  found [] hs i head is = cc
  found (n ∷ ls) [] i head is = cc
  found (n ∷ ls) (h ∷ hs) zero head is =
      let live : entry_of n h ≡ Live head = cc in
      let entry = entry_by-is (n == 65535) n h head refl live in
      (ap Some entry.length_is, ap Some entry.header_is, rw (← entry.length_is) entry.live)
  found (n ∷ ls) (h ∷ hs) (suc i) head is = found ls hs i head is

  -- a length that is not the mark of a free slot is a live entry
  pub live_found : (ls : List ℕ) (hs : List H) (i n : ℕ) → length hs ≡ length ls → slice_get ls i ≡ Some n → n ≢ 65535
      → (head : Head H) × (slice_get (entries_of ls hs) i ≡ Some (Live head))
  live_found [] hs i n paired is other = cc
  live_found (l ∷ ls) [] i n paired is other = absurd (omega arith)
  live_found (l ∷ ls) (h ∷ hs) zero n paired is other =
      let same : l ≡ n = cc in
      (record { header = h; length = l }, ap Some (entry_of-live l h (rw same other)))
  live_found (l ∷ ls) (h ∷ hs) (suc i) n paired is other = live_found ls hs i n (omega arith) is other

  -- the mark of a free slot is a free entry
  pub free_found : (ls : List ℕ) (hs : List H) (i : ℕ) → length hs ≡ length ls → slice_get ls i ≡ Some 65535
      → IsFree (entries_of ls hs) i
  free_found [] hs i paired is = cc
  free_found (l ∷ ls) [] i paired is = absurd (omega arith)
  free_found (l ∷ ls) (h ∷ hs) zero paired is = let same : l ≡ 65535 = cc in rw same
  free_found (l ∷ ls) (h ∷ hs) (suc i) paired is = free_found ls hs i (omega arith) is

  -- one more that is free
  entries_of-made : (ls : List ℕ) (hs : List H) (header : H) → length hs ≡ length ls
      → entries_of (ls ++ 65535 ∷ []) (hs ++ header ∷ []) ≡ entries_of ls hs ++ Free ∷ []
  entries_of-made [] [] header paired = refl
  entries_of-made [] (h ∷ hs) header paired = absurd (omega arith)
  entries_of-made (n ∷ ls) [] header paired = absurd (omega arith)
  entries_of-made (n ∷ ls) (h ∷ hs) header paired =
      ap (λ es. entry_of n h ∷ es) (entries_of-made ls hs header (omega arith))

  -- lengths and headers that have one more
  pub entries_of-pushed : (ls more_ls : List ℕ) (hs more_hs : List H) (header : H) → length hs ≡ length ls
      → more_ls ≡ ls ++ 65535 ∷ [] → more_hs ≡ hs ++ header ∷ []
      → entries_of more_ls more_hs ≡ entries_of ls hs ++ Free ∷ []
  entries_of-pushed ls more_ls hs more_hs header paired lengths_are headers_are =
      rw (lengths_are, headers_are) (entries_of-made ls hs header paired)

  -- a length and a header written in one place
  entries_of-set : (ls : List ℕ) (hs : List H) (i n : ℕ) (header : H)
      → entries_of (set ls i n) (set hs i header) ≡ set (entries_of ls hs) i (entry_of n header)
  entries_of-set [] hs i n header = refl
  entries_of-set (l ∷ ls) [] zero n header = refl
  entries_of-set (l ∷ ls) [] (suc i) n header = refl
  entries_of-set (l ∷ ls) (h ∷ hs) zero n header = refl
  entries_of-set (l ∷ ls) (h ∷ hs) (suc i) n header = ap (λ es. entry_of l h ∷ es) (entries_of-set ls hs i n header)

  pub entries_of-filled : (ls : List ℕ) (hs : List H) (i n : ℕ) (header : H) → n ≢ 65535
      → entries_of (set ls i n) (set hs i header)
      ≡ set (entries_of ls hs) i (Live (record { header = header; length = n }))
  entries_of-filled ls hs i n header other =
      entries_of-set ls hs i n header ∙ ap (set (entries_of ls hs) i) (entry_of-live n header other)

  -- the mark of a free slot written over a length
  pub entries_of-freed : (ls : List ℕ) (hs : List H) (i : ℕ)
      → entries_of (set ls i 65535) hs ≡ set (entries_of ls hs) i Free
  entries_of-freed [] hs i = refl
  entries_of-freed (l ∷ ls) [] zero = refl
  entries_of-freed (l ∷ ls) [] (suc i) = refl
  entries_of-freed (l ∷ ls) (h ∷ hs) zero = refl
  entries_of-freed (l ∷ ls) (h ∷ hs) (suc i) = ap (λ es. entry_of l h ∷ es) (entries_of-freed ls hs i)

  -- another header of a live slot
  pub entries_of-lent : (ls : List ℕ) (hs : List H) (i : ℕ) (head : Head H) (header : H)
      → slice_get (entries_of ls hs) i ≡ Some (Live head)
      → entries_of ls (set hs i header)
      ≡ set (entries_of ls hs) i (Live (record { header = header; length = head.length }))
  entries_of-lent [] hs i head header is = refl
  entries_of-lent (l ∷ ls) [] i head header is = cc
  entries_of-lent (l ∷ ls) (h ∷ hs) zero head header is =
      let at = found (l ∷ ls) (h ∷ hs) zero head is in
      let same : l ≡ head.length = cc in
      ap (λ e. e ∷ entries_of ls hs) (rw same (entry_of-live head.length header at.2))
  entries_of-lent (l ∷ ls) (h ∷ hs) (suc i) head header is =
      ap (λ es. entry_of l h ∷ es) (entries_of-lent ls hs i head header is)
