-- The line of a read range by the writes that explain it, and a text with the lines of one more transaction.
use Rattle.std.proofs.Common.{◌≡◌, ℕ, zero, suc, ◌+◌, ◌-◌, ◌^◌, min, List, [], ◌∷◌, ◌++◌, length, take, Option, Some, slice_get, sym, ap, ◌∙◌, arith, append-nil, append_assoc, length-append}
use Rattle.std.specs.Prelude.{ℤ}
use Rattle.keys.specs.declared.range.Range.{Range}
use Rattle.keyspace.specs.declared.txn.Txn.{Txn}
use Rattle.keyspace.specs.declared.batch.Batch.{Batch}
use Rattle.keyspace.specs.declared.reply.Entry.{Entry}
use Rattle.keyspace.specs.Processed.{Processed}
use Rattle.explanations.specs.Written.{Written, newest_write}
use Rattle.explanations.proofs.callers.Newest.{newest_write-last}
use Rattle.explanations.specs.Found.{IsExplained}
use Rattle.replay_explanations.specs.declared.form.ExplanationForm.{ExplanationForm}
use Rattle.replay_explanations.specs.Lines.{conflict_text, lines_from, read_line, txn_lines}

count_of : (all others most further : ℕ) → all ≡ others + 1 → further ≡ min others most → min (all - 1) most ≡ further
count_of all others most further entire count =
    let same : all - 1 ≡ others = omega arith in
    ap (λ (n : ℕ). min n most) same ∙ sym count

-- the line names the newest of them, and the number of the others
pub explained : (form : ExplanationForm) (version : ℤ) (j i : ℕ) (range : Range) (ws : List Written) (w : Written) (further : ℕ)
    → IsExplained ws (2 ^ 64 - 1) w further
    → conflict_text form version j i range (Some w) further ≡ read_line form version j i (Some range) ws
explained form version j i range ws w further found =
    let entire : length ws ≡ length found.others + 1 =
    ap (λ (xs : List Written). length xs) found.last ∙ length-append found.others (w ∷ []) in
    sym (ap (λ (o : Option Written). conflict_text form version j i range o (min (length ws - 1) (2 ^ 64 - 1)))
    (ap newest_write found.last ∙ newest_write-last found.others w)
    ∙ ap (conflict_text form version j i range (Some w))
    (count_of (length ws) (length found.others) (2 ^ 64 - 1) further entire found.count))

more_from : (form : ExplanationForm) (window : ℤ) (ps : List Processed) (b : Batch) (first last : ℕ) (ts : List Txn) (es : List Entry) (n : ℕ) (t : Txn) (e : Entry)
    → last ≡ first + n → slice_get ts n ≡ Some t → slice_get es n ≡ Some e
    → lines_from form window ps b first (take (suc n) ts) (take (suc n) es)
    ≡ lines_from form window ps b first (take n ts) (take n es) ++ txn_lines form window ps b last t e.verdict
more_from form window ps b first last [] es n t e same at_t at_e = absurd cc
more_from form window ps b first last (s ∷ ts) [] n t e same at_t at_e = absurd cc
more_from form window ps b first last (s ∷ ts) (f ∷ es) zero t e same at_t at_e =
    let same_t : s ≡ t = cc in
    let same_e : f ≡ e = cc in
    let same_txn : first ≡ last = omega arith in
    append-nil (txn_lines form window ps b first s f.verdict)
    ∙ ap (λ (j : ℕ). txn_lines form window ps b j s f.verdict) same_txn
    ∙ ap (λ (x : Entry). txn_lines form window ps b last s x.verdict) same_e
    ∙ ap (λ (x : Txn). txn_lines form window ps b last x e.verdict) same_t
more_from form window ps b first last (s ∷ ts) (f ∷ es) (suc n) t e same at_t at_e =
    let own = txn_lines form window ps b first s f.verdict in
    ap (λ (xs : List ℕ). own ++ xs) (more_from form window ps b (first + 1) last ts es n t e (omega arith) at_t at_e)
    ∙ sym (append_assoc own (lines_from form window ps b (first + 1) (take n ts) (take n es))
    (txn_lines form window ps b last t e.verdict))

-- a text with the lines of one more transaction
pub lines_next : (form : ExplanationForm) (window : ℤ) (ps : List Processed) (b : Batch) (ts : List Txn) (es : List Entry) (n : ℕ) (t : Txn) (e : Entry)
    (start now next : List ℕ) → slice_get ts n ≡ Some t → slice_get es n ≡ Some e
    → now ≡ start ++ lines_from form window ps b 0 (take n ts) (take n es)
    → next ≡ now ++ txn_lines form window ps b n t e.verdict
    → next ≡ start ++ lines_from form window ps b 0 (take (n + 1) ts) (take (n + 1) es)
lines_next form window ps b ts es n t e start now next at_t at_e before more =
    let one : n + 1 ≡ suc n = omega arith in
    let lines = lines_from form window ps b 0 (take n ts) (take n es) in
    more ∙ ap (λ (xs : List ℕ). xs ++ txn_lines form window ps b n t e.verdict) before
    ∙ append_assoc start lines (txn_lines form window ps b n t e.verdict)
    ∙ ap (λ (xs : List ℕ). start ++ xs)
    (sym (more_from form window ps b 0 n ts es n t e (omega arith) at_t at_e)
    ∙ ap (λ (k : ℕ). lines_from form window ps b 0 (take k ts) (take k es)) (sym one))
