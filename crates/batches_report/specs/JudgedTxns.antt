-- Transactions, each with the verdict on it. This project's own.
use Rattle.std.specs.Prelude.{◌≡◌, ℕ, ℤ, Bool, true, false, not, List, length, map, flat_map, ◌==◌}
use Rattle.std.specs.List.{zip}
use Rattle.keyspace.specs.declared.txn.Txn.{Txn}
use Rattle.keyspace.specs.declared.batch.Batch.{Batch}
use Rattle.keyspace.specs.declared.reply.Verdict.{Verdict}
use Rattle.keyspace.specs.declared.reply.Verdict.TheVariants.{Conflict, TooOld, Committed}
use Rattle.keyspace.specs.declared.reply.Entry.{Entry}
use Rattle.keyspace.specs.declared.reply.Reply.{Reply}
use Rattle.batches_report.specs.Answered.{Answered}

-- a transaction, the entry of the reply to it, and the version of its batch
pub record JudgedTxn : Type 0 where
  pub version : ℤ
  pub txn : Txn
  pub entry : Entry

abbrev pub judged_with : ℤ → Txn × Entry → JudgedTxn
judged_with version pair = record { version = version; txn = pair.0; entry = pair.1 }

-- the transactions of a batch, in its order
abbrev pub txns_of : Batch → Reply → List JudgedTxn
txns_of b r = map (judged_with b.version) (zip b.txns r.entries)

-- the transactions of the batches that have replies
abbrev pub txns_in : List Answered → List JudgedTxn
txns_in answered = flat_map (λ a. txns_of a.batch a.reply) answered

-- the reply has one entry per transaction
abbrev pub Fits : Answered → Type 0
Fits a = length a.reply.entries ≡ length a.batch.txns

abbrev pub says_conflict : Verdict → Bool
says_conflict Conflict = true
says_conflict TooOld = false
says_conflict Committed = false

abbrev pub says_too_old : Verdict → Bool
says_too_old Conflict = false
says_too_old TooOld = true
says_too_old Committed = false

abbrev pub is_conflict : Entry → Bool
is_conflict e = says_conflict e.verdict

abbrev pub is_too_old : Entry → Bool
is_too_old e = says_too_old e.verdict

-- the reply says which reads conflict
abbrev pub is_reported : Entry → Bool
is_reported e = not (length e.places == 0)
