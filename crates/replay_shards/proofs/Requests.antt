-- Transactions that request a report.
use Rattle.std.proofs.Common.{◌≡◌, ◌∙◌, ℕ, zero, suc, ◌+◌, Bool, true, false, ◌||◌, List, [], ◌∷◌, take, refl, ap, arith}
use Rattle.std.specs.Prelude.{Some, slice_get}
use Rattle.std.specs.List.{list_any}
use Rattle.keyspace.specs.declared.txn.Txn.{Txn}
use Rattle.keys.proofs.callers.Booleans.{or_left, or_right}
use Rattle.replay_shards.specs.Notes.{requests_report}

pub some_requests : (txns : List Txn) (i : ℕ) (t : Txn) → slice_get txns i ≡ Some t → t.marked ≡ true
    → list_any requests_report txns ≡ true
some_requests [] i t at marked = absurd (let no : ⊥ = cc in no)
some_requests (u ∷ txns) zero t at marked =
    let same : u ≡ t = cc in
    or_left (requests_report u) (list_any requests_report txns) (ap requests_report same ∙ marked)
some_requests (u ∷ txns) (suc i) t at marked =
    or_right (requests_report u) (list_any requests_report txns) (some_requests txns i t at marked)

both_false : (a b : Bool) → a ≡ false → b ≡ false → (a || b) ≡ false
both_false a b h k = ap (λ x. x || b) h ∙ k

parts : (a b : Bool) → (a || b) ≡ false → (a ≡ false) × (b ≡ false)
parts true b h = absurd (let no : true ≡ false = h in cc)
parts false b h = (refl, h)

pub none_requests : (txns : List Txn) (i : ℕ) (t : Txn) → slice_get txns i ≡ Some t → t.marked ≡ false
    → list_any requests_report (take i txns) ≡ false → list_any requests_report (take (i + 1) txns) ≡ false
none_requests [] i t at marked none = absurd (let no : ⊥ = cc in no)
none_requests (u ∷ txns) zero t at marked none =
    let same : u ≡ t = cc in
    both_false (requests_report u) false (ap requests_report same ∙ marked) refl
none_requests (u ∷ txns) (suc i) t at marked none =
    let more : suc i + 1 ≡ suc (i + 1) = omega arith in
    let both = parts (requests_report u) (list_any requests_report (take i txns)) none in
    ap (λ n. list_any requests_report (take n (u ∷ txns))) more
    ∙ both_false (requests_report u) (list_any requests_report (take (i + 1) txns)) both.0 (none_requests txns i t at marked both.1)
