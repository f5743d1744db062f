-- Worked examples: logs, and what the reference resolver answers to them. Each field has the name of a rule's example.
use Rattle.std.specs.Prelude.{
  ◌≡◌,
  ℕ,
  ◌≤◌,
  Bool,
  true,
  false,
  ◌&&◌,
  not,
  List,
  [],
  ◌∷◌,
  length,
  map,
  refl,
  nat_lt,
  nat_le,
  ℤ,
  pos,
  negsuc,
  ◌≤ℤ◌,
  ◌<ℤ◌,
  int_lt,
  int_le,
}
use Rattle.std.specs.List.{list_all}
use Rattle.keyspace.specs.declared.TheConstants.{WINDOW}
use Rattle.keys.specs.declared.key.TheConstants.{MAX_KEY_LENGTH}
use Rattle.keyspace.specs.declared.txn.TheConstants.{MAX_RANGES}
use Rattle.keyspace.specs.declared.batch.TheConstants.{MAX_TXNS}
use Rattle.keys.specs.declared.range.Range.{Range}
use Rattle.keyspace.specs.declared.txn.Txn.{Txn}
use Rattle.keyspace.specs.declared.batch.Batch.{Batch}
use Rattle.keyspace.specs.declared.reply.Verdict.{Verdict}
use Rattle.keyspace.specs.declared.reply.Verdict.TheVariants.{Conflict, TooOld, Committed}
use Rattle.keyspace.specs.declared.answer.Answer.{Answer}
use Rattle.keyspace.specs.declared.answer.Answer.TheVariants as reported
use Rattle.keys.specs.Key.{IsKey, is_before, IsAtMost}
use Rattle.keyspace.specs.Run.{Step, Take, Finish, answers}

-- The types keep their limits. Here the limits are tests that compute.

abbrev pub is_key : List ℕ → Bool
is_key key = list_all (λ byte. nat_lt byte 256) key && nat_le (length key) MAX_KEY_LENGTH

abbrev pub is_range : List ℕ → List ℕ → Bool
is_range begin end = is_key begin && is_key end && not (is_before end begin)

abbrev pub is_txn : List Range → List Range → Bool
is_txn reads writes = nat_le (length reads) MAX_RANGES && nat_le (length writes) MAX_RANGES

abbrev pub is_batch : ℤ → ℕ → ℤ → List Txn → Bool
is_batch previous version received txns =
    int_le (negsuc 0) previous && int_lt previous (pos version) && int_le (negsuc 0) received
    && int_lt received (pos version) && nat_le (length txns) MAX_TXNS

-- what passes the tests keeps the limits
pub record Limits : Type 0 where
  pub range : (begin end : List ℕ) → is_range begin end ≡ true → IsKey begin × IsKey end × IsAtMost begin end
  pub natural : (n : ℕ) → pos 0 ≤ℤ pos n
  pub txn : (reads writes : List Range) → is_txn reads writes ≡ true
      → (length reads ≤ MAX_RANGES) × (length writes ≤ MAX_RANGES)
  pub batch : (previous : ℤ) (version : ℕ) (received : ℤ) (txns : List Txn)
      → is_batch previous version received txns ≡ true
      → (negsuc 0 ≤ℤ previous) × (previous <ℤ pos version) × (negsuc 0 ≤ℤ received)
      × (received <ℤ pos version)
      × (length txns ≤ MAX_TXNS)

-- what is answered, without the proofs of its limits
pub data PlainAnswer : Type 0 where
  Replied : (version : ℕ) (entries : List (Verdict × List ℕ)) → PlainAnswer
  Never : (version : ℕ) → PlainAnswer
  Held : (version : ℕ) → PlainAnswer

abbrev pub number_of : ℤ → ℕ
number_of (pos n) = n
number_of (negsuc n) = 0

abbrev pub plain_answer : Answer → PlainAnswer
plain_answer (reported.Reply r) = Replied (number_of r.version) (map (λ e. (e.verdict, e.places)) r.entries)
plain_answer (reported.Never version) = Never (number_of version)
plain_answer (reported.Held version) = Held (number_of version)

abbrev pub plain_answers : List Step → ℕ → List PlainAnswer
plain_answers log proxy = map plain_answer (answers WINDOW log proxy)

abbrev pub committed_entry : Verdict × List ℕ
committed_entry = (Committed, [])

abbrev pub too_old_entry : Verdict × List ℕ
too_old_entry = (TooOld, [])

-- in conflict, with the places of the report
abbrev pub conflict_entry : List ℕ → Verdict × List ℕ
conflict_entry places = (Conflict, places)

-- the key of one letter
abbrev pub letter : ℕ → List ℕ
letter n = n ∷ []

module _ (limits : Limits) where
  abbrev pub range : (begin end : List ℕ) → is_range begin end ≡ true → Range
  range begin end h = record {
    begin = begin;
    end = end;
    begin_is_key = (limits.range begin end h).0;
    end_is_key = (limits.range begin end h).1;
    ordered = (limits.range begin end h).2;
  }

  abbrev pub txn : (snapshot : ℕ) (marked : Bool) (reads writes : List Range) → is_txn reads writes ≡ true
      → Txn
  txn snapshot marked reads writes h = record {
    snapshot = pos snapshot;
    marked = marked;
    reads = reads;
    writes = writes;
    natural = limits.natural snapshot;
    few_reads = (limits.txn reads writes h).0;
    few_writes = (limits.txn reads writes h).1;
  }

  abbrev pub batch : (previous : ℤ) (version : ℕ) (received : ℤ) (txns : List Txn)
      → is_batch previous version received txns ≡ true → Batch
  batch previous version received txns h = record {
    previous = previous;
    version = pos version;
    received = received;
    txns = txns;
    natural = limits.natural version;
    previous_from = (limits.batch previous version received txns h).0;
    rises = (limits.batch previous version received txns h).1;
    received_from = (limits.batch previous version received txns h).2;
    received_before = (limits.batch previous version received txns h).3;
    few = (limits.batch previous version received txns h).4;
  }

  -- a batch of proxy 0, which has received nothing yet
  abbrev pub sent : (previous version : ℕ) (txns : List Txn)
      → is_batch (pos previous) version (negsuc 0) txns ≡ true → Step
  sent previous version txns h = Take 0 (batch (pos previous) version (negsuc 0) txns h)

  -- an empty batch of a proxy
  abbrev pub empty_from : (proxy previous version : ℕ)
      → is_batch (pos previous) version (negsuc 0) [] ≡ true → Step
  empty_from proxy previous version h = Take proxy (batch (pos previous) version (negsuc 0) [] h)

  -- the empty batch of version 0 opens the chain
  abbrev pub opening : Step
  opening = Take 0 (batch (negsuc 0) 0 (negsuc 0) [] refl)

  abbrev pub after_opening : List Step → List PlainAnswer
  after_opening log = plain_answers (opening ∷ log) 0

  -- [a, b), [b, c), [c, d), [e, f), [x, y)
  abbrev pub ab : Range
  ab = range (letter 97) (letter 98) refl

  abbrev pub bc : Range
  bc = range (letter 98) (letter 99) refl

  abbrev pub cd : Range
  cd = range (letter 99) (letter 100) refl

  abbrev pub ef : Range
  ef = range (letter 101) (letter 102) refl

  abbrev pub xy : Range
  xy = range (letter 120) (letter 121) refl

  -- the single key k, and the empty range [m, m)
  abbrev pub single : Range
  single = range (letter 107) (107 ∷ 0 ∷ []) refl

  abbrev pub nothing : Range
  nothing = range (letter 109) (letter 109) refl

  -- it writes [a, b) and reads nothing
  abbrev pub write_ab : Txn
  write_ab = txn 0 false [] (ab ∷ []) refl

  -- it reads [a, b) at this snapshot
  abbrev pub read_ab : ℕ → Txn
  read_ab snapshot = txn snapshot false (ab ∷ []) [] refl

  abbrev pub read_and_write_ab : Txn
  read_and_write_ab = txn 0 false (ab ∷ []) (ab ∷ []) refl

  -- the first batch writes [a, b), the second reads it at this snapshot; the second's edge is 0
  abbrev pub write_then_read : ℕ → List Step
  write_then_read snapshot =
      sent 0 100 (write_ab ∷ []) refl ∷ sent 100 200 (read_ab snapshot ∷ []) refl ∷ []

  -- the same, where the second's edge is 100
  abbrev pub write_then_read_at_edge : ℕ → List Step
  write_then_read_at_edge snapshot =
      sent 0 100 (write_ab ∷ []) refl ∷ sent 100 5000100 (read_ab snapshot ∷ []) refl ∷ []

  -- two ranges are written before, one in the batch; a marked transaction reads all three at this snapshot
  abbrev pub reads_of_three : ℕ → List Step
  reads_of_three snapshot =
      sent 0 100 (txn 0 false [] (ab ∷ ef ∷ []) refl ∷ []) refl
      ∷ sent 100 200 (txn 100 false [] (cd ∷ []) refl ∷ txn snapshot true (ab ∷ cd ∷ ef ∷ []) [] refl
      ∷ []) refl ∷ []

  abbrev pub left_in_turn : List Step
  left_in_turn =
      opening ∷ empty_from 0 150 160 refl ∷ empty_from 1 100 200 refl ∷ empty_from 1 50 55 refl
      ∷ empty_from 0 0 100 refl ∷ []

  abbrev pub repeated_by_another : List Step
  repeated_by_another = opening ∷ empty_from 1 0 100 refl ∷ empty_from 0 0 100 refl ∷ []

  pub record WorkedRows : Type 0 where
    pub empty_batch : after_opening [] ≡ Replied 0 [] ∷ []
    pub snapshot_at_write : after_opening (write_then_read 100)
        ≡ Replied 0 [] ∷ Replied 100 (committed_entry ∷ []) ∷ Replied 200 (committed_entry ∷ []) ∷ []
    pub snapshot_before_write : after_opening (write_then_read 99)
        ≡ Replied 0 [] ∷ Replied 100 (committed_entry ∷ []) ∷ Replied 200 (conflict_entry [] ∷ []) ∷ []
    pub snapshot_at_edge : after_opening (write_then_read_at_edge 100)
        ≡ Replied 0 [] ∷ Replied 100 (committed_entry ∷ []) ∷ Replied 5000100 (committed_entry ∷ []) ∷ []
    pub snapshot_below_edge : after_opening (write_then_read_at_edge 99)
        ≡ Replied 0 [] ∷ Replied 100 (committed_entry ∷ []) ∷ Replied 5000100 (too_old_entry ∷ []) ∷ []
    pub write_only_far_ahead : after_opening (sent 0 9000000 (write_ab ∷ []) refl ∷ [])
        ≡ Replied 0 [] ∷ Replied 9000000 (committed_entry ∷ []) ∷ []
    pub same_batch_ignores_snapshot : after_opening
        (sent 0 100 (txn 0 false [] (single ∷ []) refl ∷ txn 100 true (single ∷ []) [] refl ∷ []) refl ∷ [])
        ≡ Replied 0 [] ∷ Replied 100 (committed_entry ∷ conflict_entry (0 ∷ []) ∷ []) ∷ []
    pub conflict_writes_do_not_count : after_opening
        (sent 0 100 (write_ab ∷ txn 0 false (ab ∷ []) (xy ∷ []) refl ∷ txn 0 false (xy ∷ []) [] refl
        ∷ []) refl ∷ [])
        ≡ Replied 0 [] ∷ Replied 100 (committed_entry ∷ conflict_entry [] ∷ committed_entry ∷ []) ∷ []
    pub touching_ranges_do_not_meet : after_opening
        (sent 0 100 (txn 0 false [] (bc ∷ []) refl ∷ []) refl ∷ sent 100 200 (read_ab 0 ∷ []) refl ∷ [])
        ≡ Replied 0 [] ∷ Replied 100 (committed_entry ∷ []) ∷ Replied 200 (committed_entry ∷ []) ∷ []
    pub empty_read_range : after_opening
        (sent 0 100 (txn 0 false [] (range (letter 97) (letter 122) refl ∷ []) refl ∷ []) refl
        ∷ sent 100 200 (txn 0 false (nothing ∷ []) [] refl ∷ []) refl
        ∷ sent 200 5000100 (txn 99 false (nothing ∷ []) [] refl ∷ []) refl ∷ [])
        ≡ Replied 0 [] ∷ Replied 100 (committed_entry ∷ []) ∷ Replied 200 (committed_entry ∷ [])
        ∷ Replied 5000100 (too_old_entry ∷ []) ∷ []
    pub report_history_hits : after_opening (reads_of_three 50)
        ≡ Replied 0 [] ∷ Replied 100 (committed_entry ∷ []) ∷ Replied 200 (committed_entry ∷ conflict_entry (0 ∷ 2 ∷ []) ∷ [])
        ∷ []
    pub report_batch_place : after_opening (reads_of_three 100)
        ≡ Replied 0 [] ∷ Replied 100 (committed_entry ∷ []) ∷ Replied 200 (committed_entry ∷ conflict_entry (1 ∷ []) ∷ []) ∷ []
    pub batch_place_skips_empty_range : after_opening
        (sent 0 100 (txn 0 false [] (range (letter 97) (letter 99) refl ∷ range (letter 101) (letter 103) refl
        ∷ []) refl
        ∷ txn 0 true (range (letter 99) (letter 101) refl ∷ range (letter 98) (letter 98) refl
        ∷ range (letter 102) (letter 104) refl ∷ []) [] refl ∷ []) refl ∷ [])
        ≡ Replied 0 [] ∷ Replied 100 (committed_entry ∷ conflict_entry (2 ∷ []) ∷ []) ∷ []
    pub repeat_answered_again : after_opening
        (sent 0 100 (read_and_write_ab ∷ []) refl ∷ sent 0 100 (read_and_write_ab ∷ []) refl ∷ [])
        ≡ Replied 0 [] ∷ Replied 100 (committed_entry ∷ []) ∷ Replied 100 (committed_entry ∷ []) ∷ []
    -- the second batch says that the reply of the first was received
    pub repeat_after_given_up : after_opening
        (sent 0 100 (write_ab ∷ []) refl ∷ Take 0 (batch (pos 100) 200 (pos 100) [] refl)
        ∷ sent 0 100 (write_ab ∷ []) refl ∷ [])
        ≡ Replied 0 [] ∷ Replied 100 (committed_entry ∷ []) ∷ Replied 200 [] ∷ Never 100 ∷ []
    pub repeat_by_another_proxy : plain_answers repeated_by_another 0 ≡ Replied 0 [] ∷ Never 100 ∷ []
    pub repeat_by_another_proxy_to_proxy_1 : plain_answers repeated_by_another 1 ≡ Replied 100 [] ∷ []
    pub held_repeat_answered_twice : after_opening
        (empty_from 0 100 200 refl ∷ empty_from 0 100 200 refl ∷ empty_from 0 0 100 refl ∷ [])
        ≡ Replied 0 [] ∷ Replied 100 [] ∷ Replied 200 [] ∷ Replied 200 [] ∷ []
    pub held_overtaken : after_opening
        (empty_from 0 150 300 refl ∷ empty_from 0 100 200 refl ∷ empty_from 0 0 100 refl ∷ [])
        ≡ Replied 0 [] ∷ Replied 100 [] ∷ Replied 200 [] ∷ Never 300 ∷ []
    pub least_previous_leaves_first : plain_answers left_in_turn 0
        ≡ Replied 0 [] ∷ Replied 100 [] ∷ Never 160 ∷ []
    pub least_previous_leaves_first_to_proxy_1 : plain_answers left_in_turn 1 ≡ Never 55 ∷ Replied 200 [] ∷ []
    pub off_chain_and_held : after_opening
        (empty_from 0 0 100 refl ∷ empty_from 0 100 200 refl ∷ empty_from 0 150 300 refl
        ∷ empty_from 0 900 1000 refl ∷ Finish ∷ [])
        ≡ Replied 0 [] ∷ Replied 100 [] ∷ Replied 200 [] ∷ Never 300 ∷ Held 1000 ∷ []
