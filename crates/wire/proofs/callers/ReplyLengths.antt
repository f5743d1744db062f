-- Lemmas for callers: how many places a report has, and how long the text of an entry is.
use Rattle.std.proofs.Common.{◌≡◌, ℕ, ◌+◌, ◌*◌, ◌≤◌, Bool, true, false, cond, List, [], ◌∷◌, ◌++◌, length, take, refl, arith}
use Rattle.std.proofs.lemmas.List.{length-append}
use Rattle.byteorder.specs.Endian.{big_bytes}
use Rattle.byteorder.specs.Numbers.{length-bytes_high_first}
use Rattle.keys.specs.declared.range.Range.{Range}
use Rattle.keyspace.specs.declared.reply.Verdict.{Verdict}
use Rattle.keyspace.specs.declared.reply.Verdict.TheVariants.{Conflict, TooOld, Committed}
use Rattle.keyspace.specs.Judge.{places_from, hits_or_first}
use Rattle.wire.specs.Fields.{EntryFields}
use Rattle.wire.specs.Spelling.{entry_text, verdict_text, places_text}
use Rattle.wire.proofs.PlaceLists.{places_length}

-- a report has no more places than there are ranges
pub places_few : (i : ℕ) (test : Range → Bool) (ranges : List Range)
    → length (places_from i test ranges) ≤ length ranges
places_few i test [] = omega arith
places_few i test (r ∷ rs) =
    let more = places_few (i + 1) test rs in
    elim (test r) as (λ b. length (cond b (i ∷ places_from (i + 1) test rs) (places_from (i + 1) test rs))
    ≤ length (r ∷ rs)) [ true ↦ omega (arith, more) | false ↦ omega (arith, more) ]

take_one_few : (xs : List ℕ) → length (take 1 xs) ≤ length xs
take_one_few [] = omega arith
take_one_few (x ∷ xs) = omega arith

pub hits_or_first_few : (hits met : List ℕ) (n : ℕ) → length hits ≤ n → length met ≤ n
    → length (hits_or_first hits met) ≤ n
hits_or_first_few [] met n h m = omega (arith, take_one_few met)
hits_or_first_few (x ∷ xs) met n h m = h

-- a byte for the verdict, two for the count, and two for each place
verdict_length : (v : Verdict) → length (verdict_text v) ≡ 1
verdict_length Conflict = refl
verdict_length TooOld = refl
verdict_length Committed = refl

pub entry_length : (e : EntryFields) → length (entry_text e) ≡ 3 + 2 * length e.places
unfolding entry_text
entry_length e =
    let count = big_bytes 2 (length e.places) in
    omega (
      arith,
      length-append (verdict_text e.verdict) (count ++ places_text e.places),
      length-append count (places_text e.places),
      length-bytes_high_first 2 (length e.places),
      verdict_length e.verdict,
      places_length e.places,
    )
