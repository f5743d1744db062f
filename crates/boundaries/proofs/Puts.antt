-- Keys that are placed in slots that were spare: what was known of keys stays known.
use Rattle.std.proofs.Common.{◌≡◌, ◌≢◌, ℕ, ◌+◌, ◌≤◌, ◌==◌, if◌then◌else◌, cond, List, [], ◌∷◌, length, Option, None, Some, is_some, false, option_map, refl, sym, ◌∙◌, ap, subst, arith}
use Rattle.std.specs.Prelude.{IsSome, Ok}
use Rattle.std.specs.FinMap as finite
use Rattle.std.specs.Cmp.{nat_cmp_total}
use Rattle.arena.specs.Arena.{Record, IsLive, record_at, key_at, spare_of, size_of, slots_of as slots_for, wanted_of}
use Rattle.arena.specs.declared.error.ArenaError.{ArenaError}
use Rattle.boundaries.specs.Bound.{Keys}
use Rattle.boundaries.specs.Heads.{KeyBytes, KeyHeads, HasPrefix, IsHeadBeside, IsTargetHead}
use Rattle.boundaries.specs.Store.{KeysStay, PutsKeys}
use Rattle.boundaries.proofs.HeadChanges.{target_beside}
use Rattle.boundaries.proofs.SpareKeys.{taken_by_place}

abbrev Key : Type 0
Key = Record (Unit {0})

-- a slot without a record isn't live
pub none_is_not_live : {X : Type 0} (o : Option X) → o ≡ None → IsSome o → ⊥
none_is_not_live o none live = let e : is_some o ≡ false = ap is_some none in cc

-- what has a key is live
pub live_by_key : (keys : Keys) (slot : ℕ) (text : List ℕ) → key_at keys slot ≡ Some text → IsLive keys slot
live_by_key keys slot text = of_record (record_at keys slot)
  where
    of_record : (r : Option Key) → option_map (λ x. x.key) r ≡ Some text → IsSome r
    of_record None e = absurd (cc)
    of_record (Some r) e = refl

-- one key is placed
pub record IsKeyPlaced (old new : Keys) (slot : ℕ) (key : List ℕ) : Type 0 where
  pub was_free : record_at old slot ≡ None
  pub is : key_at new slot ≡ Some key
  pub others : (other : ℕ) → other ≢ slot → record_at new other ≡ record_at old other
  pub counted : finite.len new.records ≡ finite.len old.records + 1
  pub spare : (size : ℕ) → spare_of old size ≤ spare_of new size + wanted_of (length key ∷ []) size

-- what the arena says of it
pub key_placed : (old new : Keys) (slot : ℕ) (key : List ℕ) → record_at old slot ≡ None
    → new.records ≡ finite.insert old.records slot (record { header = tt; key = key })
    → record_at new slot ≡ Some (record { header = tt; key = key })
    → ((other : ℕ) → other ≢ slot → record_at new other ≡ record_at old other)
    → (let size = size_of (length key) in spare_of new size + 1
    ≡ (if spare_of old size == 0 then slots_for size else spare_of old size))
    → ((size : ℕ) → size ≢ size_of (length key) → spare_of new size ≡ spare_of old size) → IsKeyPlaced old new slot key
key_placed old new slot key free placed is others spare other_sizes = record {
  was_free = free;
  is = ap (option_map (λ r. r.key)) is;
  others = others;
  counted = ap finite.len placed ∙ finite.len-insert nat_cmp_total old.records slot (record { header = tt; key = key })
      ∙ ap (λ o. cond (is_some o) (finite.len old.records) (finite.len old.records + 1)) free;
  spare = taken_by_place old new key {E = ArenaError} (Ok slot) slot refl spare other_sizes;
}

-- the key of the start alone
pub puts_one : {old new : Keys} {start : List ℕ} {first : ℕ} (end : List ℕ) → IsKeyPlaced old new first start
    → PutsKeys old new start end first None
puts_one end a = record {
  free = a.was_free;
  start_is = a.is;
  free_end = λ slot e. absurd (cc);
  others = λ slot apart none. a.others slot apart;
  counted = a.counted;
  spare = λ size. omega (arith, a.spare size);
}

-- both keys
pub puts_both : {old mid new : Keys} {start end : List ℕ} {first second : ℕ} → IsKeyPlaced old mid first start
    → IsKeyPlaced mid new second end → PutsKeys old new start end first (Some second)
puts_both {old} {mid} {new} {start} {end} {first} {second} a b =
    let apart : second ≢ first = λ same. none_is_not_live (record_at mid first) (ap (record_at mid) (sym same) ∙ b.was_free)
    (live_by_key mid first start a.is) in
    record {
      free = a.was_free;
      start_is = ap (option_map (λ r. r.key)) (b.others first (λ same. apart (sym same))) ∙ a.is;
      free_end = λ slot e. let same : second ≡ slot = cc in subst (λ s. (record_at old s ≡ None) × (s ≢ first) × (key_at new s ≡ Some end))
          same (sym (a.others second apart) ∙ b.was_free, apart, b.is);
      others = λ slot other not_second. b.others slot (λ same. not_second (ap (λ s. Some s) (sym same))) ∙ a.others slot other;
      counted = omega (arith, a.counted, b.counted);
      spare = λ size. omega (arith, a.spare size, b.spare size);
    }

-- Keys that were there stay.
pub puts_stay : {old new : Keys} {start end : List ℕ} {first : ℕ} {second : Option ℕ} → PutsKeys old new start end first second
    → KeysStay old new
puts_stay {old} {new} {start} {end} {first} {second} p slot live =
    p.others slot (λ same. none_is_not_live (record_at old slot) (ap (record_at old) same ∙ p.free) live)
    (λ is. none_is_not_live (record_at old slot) (p.free_end slot is).0 live)

-- What is known of a key stays known.
pub stays_known : (old new : Keys) → KeysStay old new → (slot : ℕ) (text : List ℕ) → key_at old slot ≡ Some text
    → key_at new slot ≡ Some text
stays_known old new stay slot text is = ap (option_map (λ r. r.key)) (stay slot (live_by_key old slot text is)) ∙ is

-- what is known of the head of a key stays known, where keys do
module _ (a b : KeyBytes) (same : (key : ℕ) (text : List ℕ) → a key ≡ Some text → b key ≡ Some text) (key_heads : KeyHeads) where
  prefix_stays : (target : List ℕ) → HasPrefix a key_heads target → HasPrefix b key_heads target
  prefix_stays target h = record {
    key = h.key;
    text = h.text;
    there = h.there;
    known = same h.key h.text h.known;
    long = h.long;
    same = h.same;
  }

  -- The head of what a bound looks for is that of a key that has the same bytes.
  pub target_is_beside : (target : List ℕ) (head key : ℕ) → IsTargetHead a key_heads target head → b key ≡ Some target
      → IsHeadBeside b key_heads key head
  target_is_beside target head key is there =
      let found : IsTargetHead b key_heads target head =
      record { has_prefix = prefix_stays target is.has_prefix; head_is = is.head_is; are_bytes = is.are_bytes } in
      target_beside b key_heads key head (record { text = target; known = there; are_bytes = is.are_bytes })
      (λ text known. let e : target ≡ text = cc (there, known) in subst (λ t. IsTargetHead b key_heads t head) e found)
