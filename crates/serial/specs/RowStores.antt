-- What the transactions of the worked examples do, and what is shown of a list of processed batches.
use Rattle.std.specs.Prelude.{◌≡◌, ℕ, zero, suc, true, if◌then◌else◌, List, [], ◌∷◌, map, Option, Some, None, slice_get, IsSomeAnd, refl}
use Rattle.keys.specs.declared.range.Range.{Range}
use Rattle.keyspace.specs.declared.txn.Txn.{Txn}
use Rattle.keyspace.specs.declared.reply.Verdict.{Verdict}
use Rattle.keys.specs.Key.{IsBytes}
use Rattle.keyspace.specs.Processed.{Processed}
use Rattle.keyspace.specs.Rows.{Limits, is_range, letter}
use Rattle.serial.specs.Commits.{holds}
use Rattle.serial.specs.Stores.{in_ranges, Store, Plan, Plans, stores_after}
use Rattle.serial.specs.Serial.{put, plan_of}

-- each key has itself as its value
abbrev pub first_store : Store
first_store key bytes = Some key

-- a value, or the empty byte string if there is none
abbrev pub value_or_empty : Option (List ℕ) → List ℕ
value_or_empty None = []
value_or_empty (Some value) = value

-- a value of one byte
abbrev pub byte : ℕ → Option (List ℕ)
byte n = Some (n ∷ [])

-- Functions of the read ranges.

-- the value at the first key of the first range; empty if there is no range or no key in it
abbrev pub first_read : List Range → Store → List ℕ
first_read [] store = []
first_read (range ∷ ranges) store =
    if holds range range.begin then value_or_empty (store range.begin range.begin_is_key.bytes) else []

-- at the keys of its write ranges, a value made of i, j and what it reads
abbrev pub effect_of : Option Txn → ℕ → ℕ → Store → Store
effect_of None i j store key bytes = store key bytes
effect_of (Some t) i j store key bytes =
    if in_ranges t.writes key then Some (i ∷ j ∷ first_read t.reads store) else store key bytes

abbrev pub txns_of : Option Processed → List Txn
txns_of None = []
txns_of (Some p) = p.batch.txns

abbrev pub txn_at : List Processed → ℕ → ℕ → Option Txn
txn_at ps i j = slice_get (txns_of (slice_get ps i)) j

abbrev pub effects_of : List Processed → ℕ → ℕ → Store → Store
effects_of ps i j = effect_of (txn_at ps i j) i j

abbrev pub plan_of_some : Option Txn → (Store → Store) → Plan
plan_of_some None effect read changed = changed
plan_of_some (Some t) effect read changed = plan_of t effect read changed

-- transaction j of batch i puts, at the keys of its write ranges, a value made of i, j and what it reads
abbrev pub plans_of : List Processed → Plans
plans_of ps i j = plan_of_some (txn_at ps i j) (effects_of ps i j)

-- Plans of other kinds. Each changes the keys of the given ranges.

abbrev pub no_change : Plan
no_change read changed = changed

-- the value at each of the keys, from the store that was read, the one that is changed and the key
abbrev pub write_by : List Range → (Store → Store → Store) → Plan
write_by ranges value read changed = put ranges (value read changed) changed

-- puts this value, and looks at nothing
abbrev pub set : List Range → List ℕ → Plan
set ranges value = write_by ranges (λ read changed key bytes. Some value)

-- one plan per batch
abbrev pub plans_by : List Plan → Plans
plans_by [] i j = no_change
plans_by (plan ∷ plans) zero j = plan
plans_by (plan ∷ plans) (suc i) j = plans_by plans i j

-- What is shown.

-- batch i and its transaction j are there, and this holds of them
abbrev pub HasTxn : List Processed → ℕ → ℕ → (Processed → Txn → Type 0) → Type 0
HasTxn ps i j P = IsSomeAnd (slice_get ps i) (λ p. IsSomeAnd (slice_get p.batch.txns j) (λ t. P p t))

pub record Shown : Type 0 where
  -- the verdicts of each batch, with the indices of their reports
  pub verdicts : List (List (Verdict × List ℕ))
  -- what the store has at six keys after the last batch, as the transactions were run
  pub as_run : List (Option (List ℕ))
  -- and as they are run one at a time
  pub serially : List (Option (List ℕ))

module _ (limits : Limits) where
  -- the key of one letter is a byte string
  abbrev pub letter_bytes : (n : ℕ) → is_range (letter n) (letter n) ≡ true → IsBytes (letter n)
  letter_bytes n h = (limits.range (letter n) (letter n) h).0.bytes

  -- the store's value there
  abbrev pub at_letter : (n : ℕ) → is_range (letter n) (letter n) ≡ true → Store → Option (List ℕ)
  at_letter n h store = store (letter n) (letter_bytes n h)

  abbrev pub at_a : Store → Option (List ℕ)
  at_a = at_letter 97 refl

  abbrev pub at_x : Store → Option (List ℕ)
  at_x = at_letter 120 refl

  -- the values at a, b, c, d, m, x
  abbrev pub at_six : Store → List (Option (List ℕ))
  at_six store =
      at_a store ∷ at_letter 98 refl store ∷ at_letter 99 refl store ∷ at_letter 100 refl store
      ∷ at_letter 109 refl store ∷ at_x store ∷ []

  abbrev pub shown : Plans → List Processed → Shown
  shown plans ps = record {
    verdicts = map (λ p. map (λ e. (e.verdict, e.places)) p.reply.entries) ps;
    as_run = at_six (stores_after first_store plans ps).as_run;
    serially = at_six (stores_after first_store plans ps).serially;
  }
