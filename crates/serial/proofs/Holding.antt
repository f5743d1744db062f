-- Current reads, by tests.
use Rattle.std.proofs.Common.{
  ◌≡◌,
  ℕ,
  ◌+◌,
  Bool,
  false,
  not,
  ◌&&◌,
  ◌||◌,
  List,
  ◌++◌,
  length,
  ℤ,
  int_le,
  sym,
  ◌∙◌,
  ap,
  append-nil,
  length-append,
  arith,
}
use Rattle.std.specs.List.{list_any}
use Rattle.std.proofs.lemmas.List.Elements.{filter-append}
use Rattle.std.proofs.lemmas.List.Folds.{list_any-append}
use Rattle.keys.specs.declared.range.Range.{Range}
use Rattle.keyspace.specs.Writes.{Write, at_version}
use Rattle.serial.specs.Commits.{holds, writes_holding, up_to}
use Rattle.serial.specs.Stores.{in_ranges}
use Rattle.serial.proofs.Filters.{filter_same, filter_fewer, none_lost, filter_none, none_passes, list_any-map}

-- the write holds the key and is above the snapshot
abbrev pub is_above : ℤ → List ℕ → Write → Bool
is_above snapshot key w = holds w.range key && not (int_le w.version snapshot)

-- one of the writes is so
abbrev pub written_above : ℤ → List ℕ → List Write → Bool
written_above snapshot key ws = list_any (is_above snapshot key) ws

-- a write of two lists is above the snapshot exactly if one of the first is, or one of the second
pub written_above-append : (snapshot : ℤ) (key : List ℕ) (ws others : List Write)
    → written_above snapshot key (ws ++ others)
    ≡ (written_above snapshot key ws || written_above snapshot key others)
written_above-append snapshot key ws others = list_any-append (is_above snapshot key) ws others

-- the writes at one version hold the key exactly if their ranges do
pub any_at_version : (version : ℤ) (key : List ℕ) (ranges : List Range)
    → list_any (λ w. holds w.range key) (at_version version ranges) ≡ in_ranges ranges key
any_at_version version key ranges =
    list_any-map (λ w. holds w.range key) (λ range. record { range = range; version = version }) ranges

-- if no write that holds the key is above the snapshot, and no range holds it, reads of the key are current
pub current_from_tests : (snapshot version : ℤ) (key : List ℕ) (ws : List Write) (ranges : List Range)
    → written_above snapshot key ws ≡ false → in_ranges ranges key ≡ false
    → writes_holding key (ws ++ at_version version ranges) ≡ writes_holding key (up_to snapshot ws)
current_from_tests snapshot version key ws ranges low none =
    filter-append (λ w. holds w.range key) ws (at_version version ranges)
    ∙ ap (λ others. writes_holding key ws ++ others) (filter_none (λ w. holds w.range key) (at_version version ranges)
    (any_at_version version key ranges ∙ none))
    ∙ append-nil (writes_holding key ws)
    ∙ filter_same (λ w. holds w.range key) (λ w. int_le w.version snapshot) ws low

-- if reads of the key are current, as many writes hold it before the transaction as at its snapshot
same_count : (snapshot version : ℤ) (key : List ℕ) (ws : List Write) (ranges : List Range)
    → writes_holding key (ws ++ at_version version ranges) ≡ writes_holding key (up_to snapshot ws)
    → length (writes_holding key ws) + length (writes_holding key (at_version version ranges))
    ≡ length (writes_holding key (up_to snapshot ws))
same_count snapshot version key ws ranges h =
    sym (length-append (writes_holding key ws) (writes_holding key (at_version version ranges)))
    ∙ ap length (sym (filter-append (λ w. holds w.range key) ws (at_version version ranges)) ∙ h)

-- if reads of the key are current, no write that holds it is above the snapshot
pub low_from_current : (snapshot version : ℤ) (key : List ℕ) (ws : List Write) (ranges : List Range)
    → writes_holding key (ws ++ at_version version ranges) ≡ writes_holding key (up_to snapshot ws)
    → written_above snapshot key ws ≡ false
low_from_current snapshot version key ws ranges h =
    let count = same_count snapshot version key ws ranges h in
    none_lost (λ w. holds w.range key) (λ w. int_le w.version snapshot) ws (omega (arith, count))

-- and none of the ranges holds it
pub none_from_current : (snapshot version : ℤ) (key : List ℕ) (ws : List Write) (ranges : List Range)
    → writes_holding key (ws ++ at_version version ranges) ≡ writes_holding key (up_to snapshot ws)
    → in_ranges ranges key ≡ false
none_from_current snapshot version key ws ranges h =
    let count = same_count snapshot version key ws ranges h in
    let fewer = filter_fewer (λ w. holds w.range key) (λ w. int_le w.version snapshot) ws in
    sym (any_at_version version key ranges)
    ∙ none_passes (λ w. holds w.range key) (at_version version ranges) (omega (arith, count, fewer))
