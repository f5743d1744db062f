-- Texts to which one piece after the other is appended.
use Rattle.std.proofs.Common.{◌≡◌, ℕ, cond, List, ◌++◌, sym, ap, ◌∙◌, append_assoc}
use Rattle.std.specs.Prelude.{ℤ, OnOk, Result, Ok, Err, is_ok}
use Rattle.keyspace.specs.declared.txn.Txn.{Txn}
use Rattle.keyspace.specs.declared.batch.Batch.{Batch}
use Rattle.keyspace.specs.declared.reply.Verdict.{Verdict}
use Rattle.keyspace.specs.declared.reply.Verdict.TheVariants.{TooOld}
use Rattle.keyspace.specs.Judged.{edge}
use Rattle.keyspace.specs.Processed.{Processed}
use Rattle.replay_explanations.specs.declared.form.ExplanationForm.{ExplanationForm}
use Rattle.replay_explanations.specs.Lines.{too_old_text, txn_lines}

-- two pieces
pub joined : (start now next xs ys : List ℕ) → now ≡ start ++ xs → next ≡ now ++ ys → next ≡ start ++ (xs ++ ys)
joined start now next xs ys first second =
    second ∙ ap (λ (zs : List ℕ). zs ++ ys) first ∙ append_assoc start xs ys

pub six_pieces : (o p q r s t u a b c d e f : List ℕ) → p ≡ o ++ a → q ≡ p ++ b → r ≡ q ++ c → s ≡ r ++ d → t ≡ s ++ e
    → u ≡ t ++ f → u ≡ o ++ (a ++ b ++ c ++ d ++ e ++ f)
six_pieces o p q r s t u a b c d e f first second third fourth fifth sixth =
    joined o t u (a ++ b ++ c ++ d ++ e) f
    (joined o s t (a ++ b ++ c ++ d) e
    (joined o r s (a ++ b ++ c) d (joined o q r (a ++ b) c (joined o p q a b first second) third) fourth) fifth) sixth

-- the same pieces after another one
pub six_after : (o a b c d e f : List ℕ) → o ++ (a ++ b ++ c ++ d ++ e ++ f) ≡ o ++ a ++ b ++ c ++ d ++ e ++ f
six_after o a b c d e f = simp append_assoc

-- a piece that is another one
pub as_piece : (now next xs ys : List ℕ) → next ≡ now ++ xs → xs ≡ ys → next ≡ now ++ ys
as_piece now next xs ys put same = put ∙ ap (λ (zs : List ℕ). now ++ zs) same

-- a piece that was appended, if it could be
pub if_appended : {A E : Type 0} (r : Result A E) (next more same : List ℕ) → next ≡ cond (is_ok r) more same → OnOk r (next ≡ more)
if_appended (Ok x) next more same is = is
if_appended (Err e) next more same is = tt

-- the text of a transaction that is too old
pub too_old : (form : ExplanationForm) (window : ℤ) (kept : List Processed) (b : Batch) (j : ℕ) (t : Txn) (verdict : Verdict)
    (snapshot oldest : ℤ) → verdict ≡ TooOld → snapshot ≡ t.snapshot → oldest ≡ edge window b
    → too_old_text form j snapshot oldest ≡ txn_lines form window kept b j t verdict
too_old form window kept b j t verdict snapshot oldest is snapshot_is oldest_is =
    ap (λ (z : ℤ). too_old_text form j z oldest) snapshot_is
    ∙ ap (λ (z : ℤ). too_old_text form j t.snapshot z) oldest_is
    ∙ ap (λ (v : Verdict). txn_lines form window kept b j t v) (sym is)
