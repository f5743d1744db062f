-- What names of read ranges ask for.
use Rattle.std.proofs.Common.{◌≡◌, ℕ, ◌+◌, ◌-◌, ◌<◌, ◌≤◌, ℤ, List, [], ◌∷◌, ◌++◌, length, map, get_or, take, drop, refl, sym, ap, ◌∙◌, arith, append_assoc, length-drop}
use Rattle.std.specs.Prelude.{Option, Some, None, option_to_list, option_and_then, option_map, slice_get, slice_range, unwrap_or}
use Rattle.std.proofs.lemmas.List.{map-append, map_push, length-map, take_all}
use Rattle.std.proofs.lemmas.Option.{slice_get-map, none-some, same_Some, option_and_then_some}
use Rattle.keys.specs.declared.range.Range.{Range}
use Rattle.keys.proofs.callers.Lists.{range_more, some_at}
use Rattle.keyspace.specs.declared.txn.Txn.{Txn}
use Rattle.keyspace.specs.storage.BatchRanges.{ranges_in}
use Rattle.conflict.specs.declared.lookup.ReadName.{ReadName}
use Rattle.conflict.specs.Lookup.{asked_at, query_named, queries_named, AreNamed}

-- if each name asks for something, that is what they ask for
pub queries_of : (txns : List Txn) (names : List ReadName) (queries : List (Range × ℤ))
    → map (query_named txns) names ≡ map Some queries → queries_named txns names ≡ queries
queries_of txns [] [] is = refl
queries_of txns [] (q ∷ queries) is = absurd (omega (arith, ap length is))
queries_of txns (name ∷ names) [] is = absurd (omega (arith, ap length is))
queries_of txns (name ∷ names) (q ∷ queries) is =
    let first : query_named txns name ≡ Some q = ap (λ (os : List (Option (Range × ℤ))). get_or os 0 None) is in
    ap (λ o. option_to_list o ++ queries_named txns names) first
    ∙ ap (λ qs. q ∷ qs) (queries_of txns names queries (ap (drop 1) is))

pub are_named : (txns : List Txn) (names : List ReadName) (queries : List (Range × ℤ))
    → map (query_named txns) names ≡ map Some queries → AreNamed txns names
are_named txns names queries is = is ∙ ap (map Some) (sym (queries_of txns names queries is))

-- names of more are appended
pub named_more : (txns : List Txn) (names before : List ReadName) (queries more : List (Range × ℤ))
    → map (query_named txns) names ≡ map (query_named txns) before ++ map Some more
    → map (query_named txns) before ≡ map Some queries
    → map (query_named txns) names ≡ map Some (queries ++ more)
named_more txns names before queries more appended is =
    appended ∙ ap (λ os. os ++ map Some more) is ∙ sym (map-append Some queries more)

-- the first of a list, and those from an index on
pub range_first : {X : Type 0} (xs : List X) (n : ℕ) → slice_range xs 0 n ≡ take n xs
range_first xs n = ap (λ k. take k xs) (omega arith)

pub range_rest : {X : Type 0} (xs : List X) (from : ℕ) → slice_range xs from (length xs) ≡ drop from xs
range_rest xs from = take_all (length xs - from) (drop from xs) (omega (arith, length-drop from xs))

-- the name of one read range more is appended
pub read_named : (txns : List Txn) (t : Txn) (from read : ℕ) (names before : List ReadName) (name : ReadName)
    → slice_get txns name.txn ≡ Some t → from ≤ read → read < length t.reads
    → ((range : Range) → slice_get t.reads read ≡ Some range → slice_get (ranges_in txns) name.range ≡ Some range)
    → map (query_named txns) names
    ≡ map (query_named txns) before ++ map Some (asked_at t.snapshot (slice_range t.reads from read))
    → map (query_named txns) (names ++ name ∷ [])
    ≡ map (query_named txns) before ++ map Some (asked_at t.snapshot (slice_range t.reads from (read + 1)))
read_named txns t from read names before name at rises inside stands done =
    let range = some_at t.reads read inside in
    let ranges = slice_range t.reads from read in
    let query : Range × ℤ = (range.0, t.snapshot) in
    let Query = query_named txns in
    let is : Query name ≡ Some query =
    ap (option_and_then (λ (u : Txn). option_map (λ range. (range, u.snapshot)) (slice_get (ranges_in txns) name.range))) at
    ∙ ap (option_map (λ range. (range, t.snapshot))) (stands range.0 range.1) in
    let asked : asked_at t.snapshot (slice_range t.reads from (read + 1)) ≡ asked_at t.snapshot ranges ++ query ∷ [] =
    ap (asked_at t.snapshot) (range_more t.reads from read range.0 rises range.1)
    ∙ map-append (λ range. (range, t.snapshot)) ranges (range.0 ∷ []) in
    map_push Query names name ∙ ap (λ o. map Query names ++ o ∷ []) is
    ∙ ap (λ os. os ++ Some query ∷ []) done
    ∙ append_assoc (map Query before) (map Some (asked_at t.snapshot ranges)) (Some query ∷ [])
    ∙ ap (λ os. map Query before ++ os)
    (sym (ap (map Some) asked ∙ map-append Some (asked_at t.snapshot ranges) (query ∷ [])))

-- a range with its version
paired : (o : Option Range) (version : ℤ) (q : Range × ℤ) → option_map (λ range. (range, version)) o ≡ Some q
    → (o ≡ Some q.0) × (version ≡ q.1)
paired None version q is = absurd (none-some q is)
paired (Some range) version q is =
    let same = same_Some (range, version) q is in
    (ap (λ (p : Range × ℤ). Some p.0) same, ap (λ (p : Range × ℤ). p.1) same)

-- the range that a name asks for, and the transaction
pub name_found : (txns : List Txn) (name : ReadName) (q : Range × ℤ) → query_named txns name ≡ Some q
    → (slice_get (ranges_in txns) name.range ≡ Some q.0)
    × ((t : Txn) × (slice_get txns name.txn ≡ Some t) × (t.snapshot ≡ q.1))
name_found txns name q is =
    option_and_then_some (λ (t : Txn). option_map (λ range. (range, t.snapshot)) (slice_get (ranges_in txns) name.range))
    (slice_get txns name.txn) q is
    (λ t at both. let parts = paired (slice_get (ranges_in txns) name.range) t.snapshot q both in (parts.0, (t, at, parts.1)))

-- names and what they ask for
module _ (txns : List Txn) (names : List ReadName) (named : AreNamed txns names) where
  -- there are as many
  pub name_count : length names ≡ length (queries_named txns names)
  name_count =
      sym (length-map names (query_named txns)) ∙ ap length named ∙ length-map (queries_named txns names) Some

  -- what the name at an index asks for
  pub named_at : (index : ℕ) (name : ReadName) (q : Range × ℤ) → slice_get names index ≡ Some name
      → slice_get (queries_named txns names) index ≡ Some q → query_named txns name ≡ Some q
  named_at index name q is at =
      let both : option_map (query_named txns) (slice_get names index) ≡ option_map Some (slice_get (queries_named txns names) index) =
      sym (slice_get-map (query_named txns) names index) ∙ ap (λ os. slice_get os index) named
      ∙ slice_get-map Some (queries_named txns names) index in
      let same : Some (query_named txns name) ≡ Some (Some q) =
      sym (ap (option_map (query_named txns)) is) ∙ both ∙ ap (option_map Some) at in
      ap (λ o. unwrap_or o None) same
