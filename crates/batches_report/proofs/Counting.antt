-- One transaction more, and one name more.
use Rattle.std.proofs.Common.{◌≡◌, ℕ, ◌+◌, ◌<◌, ℤ, Bool, true, false, cond, List, [], ◌∷◌, ◌++◌, length, take, get_or, map, count_by, Option, Some, String, BTreeMap, append_assoc, refl, sym, ap, ◌∙◌, arith, unwrap_or, if◌then◌else◌}
use Rattle.std.specs.Prelude.{filter, slice_get, string_bytes}
use Rattle.std.specs.BTreeMap.{get_by_text}
use Rattle.std.specs.Cmp.Lexicographic.{bytes_decides, nat_list_eq_equiv}
use Rattle.std.specs.List.{zip}
use Rattle.std.specs.Map.{update}
use Rattle.std.specs.Str.{bytes_eq}
use Rattle.std.proofs.lemmas.List.{map-append, map_push, take_more, take_all}
use Rattle.std.proofs.lemmas.List.Elements.{filter-append}
use Rattle.std.proofs.lemmas.List.Sums.{sum_by_push}
use Rattle.std.proofs.lemmas.Option.{get_or_from_slice_get, slice_get_within}
use Rattle.std.proofs.lemmas.Slice.Zip.{get_or-zip, length-zip}
use Rattle.keyspace.specs.declared.txn.Txn.{Txn}
use Rattle.keyspace.specs.declared.reply.Entry.{Entry}
use Rattle.batches_report.specs.Ages.{age_of, ages_of}
use Rattle.batches_report.specs.Heat.{reads_in_conflict}
use Rattle.batches_report.specs.JudgedTxns.{JudgedTxn, is_too_old, judged_with}

pub ages-append : (js more : List JudgedTxn) → ages_of (js ++ more) ≡ ages_of js ++ ages_of more
ages-append js more =
    ap (map age_of) (filter-append (λ (j : JudgedTxn). is_too_old j.entry) js more)
    ∙ map-append age_of (filter (λ (j : JudgedTxn). is_too_old j.entry) js) (filter (λ (j : JudgedTxn). is_too_old j.entry) more)

pub heat_last : (name : List ℕ) (js : List JudgedTxn) (j : JudgedTxn)
    → count_by (reads_in_conflict name) (js ++ j ∷ []) ≡ count_by (reads_in_conflict name) js + cond (reads_in_conflict name j) 1 0
heat_last name js j = sum_by_push (λ (x : JudgedTxn). cond (reads_in_conflict name x) 1 0) js j

-- the pairs at the indices up to i
pub pairs_more : (version : ℤ) (ts : List Txn) (es : List Entry) (i : ℕ) (t : Txn) (e : Entry)
    → slice_get ts i ≡ Some t → slice_get es i ≡ Some e
    → map (judged_with version) (take (i + 1) (zip ts es)) ≡ map (judged_with version) (take i (zip ts es)) ++ judged_with version (t, e) ∷ []
pairs_more version ts es i t e txn entry =
    let in_ts = slice_get_within ts i t txn in
    let in_es = slice_get_within es i e entry in
    let len = length-zip ts es in
    let within : i < length (zip ts es) = omega arith in
    let first = get_or_from_slice_get ts i t t txn in
    let second = get_or_from_slice_get es i e e entry in
    ap (map (judged_with version))
    (take_more (zip ts es) i (t, e) within
    ∙ ap (λ p. take i (zip ts es) ++ p ∷ []) (get_or-zip ts es i (t, e) in_ts in_es ∙ (λ k. (first k, second k))))
    ∙ map_push (judged_with version) (take i (zip ts es)) (t, e)

-- the transactions up to the index i
pub batch_more : (version v : ℤ) (ts : List Txn) (es : List Entry) (i : ℕ) (t : Txn) (e : Entry) (js : List JudgedTxn) → v ≡ version
    → slice_get ts i ≡ Some t → slice_get es i ≡ Some e
    → (js ++ map (judged_with version) (take i (zip ts es))) ++ judged_with v (t, e) ∷ []
    ≡ js ++ map (judged_with version) (take (i + 1) (zip ts es))
batch_more version v ts es i t e js same txn entry =
    let before = map (judged_with version) (take i (zip ts es)) in
    ap (λ (x : ℤ). (js ++ before) ++ judged_with x (t, e) ∷ []) same
    ∙ append_assoc js before (judged_with version (t, e) ∷ [])
    ∙ ap (λ (more : List JudgedTxn). js ++ more) (sym (pairs_more version ts es i t e txn entry))

-- all pairs
pub pairs_all : (ts : List Txn) (es : List Entry) (n : ℕ) → length ts ≡ n → length es ≡ n → take n (zip ts es) ≡ zip ts es
pairs_all ts es n txns entries =
    let len = length-zip ts es in
    take_all n (zip ts es) (omega arith)

module _ {Y : Type 0} where
  -- one of the names more
  pub named_more : (name : List ℕ) (names : List (String Y)) (i : ℕ) (s : String Y) → i < length names → s ≡ get_or names i s
      → count_by (bytes_eq name) (map string_bytes (take (i + 1) names))
      ≡ count_by (bytes_eq name) (map string_bytes (take i names)) + cond (bytes_eq name (string_bytes s)) 1 0
  named_more name names i s within is =
      ap (λ xs. count_by (bytes_eq name) (map string_bytes xs))
      (take_more names i s within ∙ ap (λ x. take i names ++ x ∷ []) (sym is))
      ∙ ap (count_by (bytes_eq name)) (map_push string_bytes (take i names) s)
      ∙ sum_by_push (λ (x : List ℕ). cond (bytes_eq name x) 1 0) (map string_bytes (take i names)) (string_bytes s)

  -- a name is set to one more
  pub one_more : (old new : BTreeMap (String Y) ℕ) (name : List ℕ) (n : ℕ) → n ≡ unwrap_or (get_by_text old name) 0 + 1
      → ((other : List ℕ) → get_by_text new other ≡ update bytes_eq (get_by_text old) name (Some n) other)
      → (other : List ℕ) → unwrap_or (get_by_text new other) 0 ≡ unwrap_or (get_by_text old other) 0 + cond (bytes_eq other name) 1 0
  one_more old new name n is sets other = ap (λ o. unwrap_or o 0) (sets other) ∙ go (bytes_eq name other) refl
    where
      go : (b : Bool) → bytes_eq name other ≡ b → unwrap_or (cond (bytes_eq name other) (Some n) (get_by_text old other)) 0
          ≡ unwrap_or (get_by_text old other) 0 + cond (bytes_eq other name) 1 0
      go true same = rw (nat_list_eq_equiv.symm other name, same) (is ∙ ap (λ u. unwrap_or (get_by_text old u) 0 + 1) ((bytes_decides name other).0 same))
      go false differs = rw (nat_list_eq_equiv.symm other name, differs) (omega arith)
