-- The entries of a batch, judged by the history and then by the batch.
use Rattle.std.proofs.Common.{◌≡◌, ℕ, suc, List, [], ◌∷◌, ◌++◌, length, take, drop, sym, ap, ◌∙◌, arith, refl}
use Rattle.std.proofs.Math.Seq.{take-append_seam}
use Rattle.keys.specs.declared.range.Range.{Range}
use Rattle.keyspace.specs.declared.txn.Txn.{Txn}
use Rattle.keyspace.specs.declared.reply.Entry.{Entry}
use Rattle.keyspace.specs.Writes.{counted_ranges}
use Rattle.conflict.specs.InBatch.{in_batch, in_batches}

-- the batch leaves an entry a transaction
pub length-in_batches : (written : List Range) (ts : List Txn) (es : List Entry) → length es ≡ length ts
    → length (in_batches written ts es) ≡ length ts
length-in_batches written [] es same = refl
length-in_batches written (t ∷ ts) [] same = cc
length-in_batches written (t ∷ ts) (e ∷ es) same =
    ap suc (length-in_batches (written ++ counted_ranges (in_batch written t e).verdict t.writes) ts es (suc_same same))
  where
    suc_same : {m n : ℕ} → suc m ≡ suc n → m ≡ n
    suc_same h = omega (arith, h)

-- a vector that was changed in place as a slice
pub changed_entire : {X : Type 0} (after before : List X) (n : ℕ) → length after ≡ n
    → take n (after ++ drop (length after) before) ≡ after
changed_entire after before n long =
    ap (λ m. take m (after ++ drop (length after) before)) (sym long)
    ∙ take-append_seam after (drop (length after) before)
