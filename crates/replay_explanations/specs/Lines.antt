-- The lines under an answer, which explain why transactions were rejected. This project's own.
use Rattle.std.specs.Prelude.{ℕ, zero, suc, ◌+◌, ◌-◌, ◌^◌, ◌==◌, ◌&&◌, ℤ, if◌then◌else◌, min, List, [], ◌∷◌, ◌++◌, codes, flat_map, length, Option, None, Some, slice_get}
use Rattle.std.specs.Fmt.{decimal, signed_decimal}
use Rattle.std.specs.Ordering.{int_eq}
use Rattle.keys.specs.declared.range.Range.{Range}
use Rattle.keyspace.specs.declared.txn.Txn.{Txn}
use Rattle.keyspace.specs.declared.batch.Batch.{Batch}
use Rattle.keyspace.specs.declared.reply.Entry.{Entry}
use Rattle.keyspace.specs.declared.reply.Verdict.{Verdict}
use Rattle.keyspace.specs.declared.reply.Verdict.TheVariants.{Conflict, TooOld, Committed}
use Rattle.keyspace.specs.Judged.{edge}
use Rattle.keyspace.specs.Processed.{Processed}
use Rattle.explanations.specs.Written.{Written, newest_write}
use Rattle.explanations.specs.Explains.{explaining_writes}
use Rattle.json_lines.specs.KeyForm.{quoted_key}
use Rattle.replay_explanations.specs.declared.form.ExplanationForm.{ExplanationForm}
use Rattle.replay_explanations.specs.declared.form.ExplanationForm.TheVariants.{Words, Json}
use Rattle.replay_explanations.specs.Json.{conflict_json, member_json, too_old_json}

-- a range: its begin and its end
abbrev pub range_form : Range → List ℕ
range_form range = codes "[" ++ quoted_key range.begin ++ codes "," ++ quoted_key range.end ++ codes ")"

-- whether the write is one of the reader's own batch, which has this version
abbrev pub origin : ℤ → Written → List ℕ
origin version w = if int_eq w.version version then codes " (same batch)" else codes " (history)"

-- how many further writes there are, if any
abbrev pub further_text : ℕ → List ℕ
further_text n = if n == 0 then [] else codes ", and " ++ decimal n ++ codes " more"

-- a write, with its origin
abbrev pub write_form : ℤ → Written → List ℕ
write_form version w =
    range_form w.range ++ codes " of proxy " ++ decimal w.proxy ++ codes ", version " ++ signed_decimal w.version
    ++ codes ", txn " ++ decimal w.txn ++ origin version w

-- the line of read range i of the transaction at index j, given the newest write that explains it and the number of other writes
abbrev pub conflict_line : ℤ → ℕ → ℕ → Range → Option Written → ℕ → List ℕ
conflict_line version j i range None others = []
conflict_line version j i range (Some w) others =
    codes "  txn " ++ decimal j ++ codes " read " ++ decimal i ++ codes " " ++ range_form range
    ++ codes " conflicts with write " ++ write_form version w ++ further_text others ++ codes "\n"

-- the same in either form
abbrev pub conflict_text : ExplanationForm → ℤ → ℕ → ℕ → Range → Option Written → ℕ → List ℕ
conflict_text Words version j i range w others = conflict_line version j i range w others
conflict_text Json version j i range w others = conflict_json version j i range w others

-- the line of a read range, given the writes that explain it, oldest first; there is none if no write does
abbrev pub read_line : ExplanationForm → ℤ → ℕ → ℕ → Option Range → List Written → List ℕ
read_line form version j i None ws = []
read_line form version j i (Some range) ws = conflict_text form version j i range (newest_write ws) (min (length ws - 1) (2 ^ 64 - 1))

-- the n indices from `first` on
abbrev pub indices_from : ℕ → ℕ → List ℕ
indices_from first zero = []
indices_from first (suc n) = first ∷ indices_from (first + 1) n

-- the line of read range i of the transaction at index j of the batch that was processed last; there is none if no write explains it
abbrev pub line_at : ExplanationForm → List Processed → Batch → ℕ → Txn → ℕ → List ℕ
line_at form ps b j t i = read_line form b.version j i (slice_get t.reads i) (explaining_writes ps b j i)

-- the lines of the conflicting transaction at index j of that batch, in the order of its read ranges, also without a report
abbrev pub conflict_lines : ExplanationForm → List Processed → Batch → ℕ → Txn → List ℕ
conflict_lines form ps b j t = flat_map (λ i. line_at form ps b j t i) (indices_from 0 (length t.reads))

-- the line of the transaction at index j, which is too old
abbrev pub too_old_line : ℕ → ℤ → ℤ → List ℕ
too_old_line j snapshot oldest =
    codes "  txn " ++ decimal j ++ codes " too old: snapshot " ++ signed_decimal snapshot
    ++ codes ", oldest readable version " ++ signed_decimal oldest ++ codes "\n"

-- the same in either form
abbrev pub too_old_text : ExplanationForm → ℕ → ℤ → ℤ → List ℕ
too_old_text Words j snapshot oldest = too_old_line j snapshot oldest
too_old_text Json j snapshot oldest = too_old_json j snapshot oldest

-- the lines of a transaction, by its verdict
abbrev pub txn_lines : ExplanationForm → ℤ → List Processed → Batch → ℕ → Txn → Verdict → List ℕ
txn_lines form window ps b j t Committed = []
txn_lines form window ps b j t TooOld = too_old_text form j t.snapshot (edge window b)
txn_lines form window ps b j t Conflict = conflict_lines form ps b j t

-- the lines of transactions with their entries; the first of them has this index
abbrev pub lines_from : ExplanationForm → ℤ → List Processed → Batch → ℕ → List Txn → List Entry → List ℕ
lines_from form window ps b j (t ∷ ts) (e ∷ es) =
    txn_lines form window ps b j t e.verdict ++ lines_from form window ps b (j + 1) ts es
lines_from form window ps b j [] es = []
lines_from form window ps b j (t ∷ ts) [] = []

-- the lines as they are, or the objects as a member
abbrev pub entire : ExplanationForm → List ℕ → List ℕ
entire Words lines = lines
entire Json objects = member_json objects

-- the text of the batch that was processed last of these
abbrev pub explanation : ExplanationForm → ℤ → List Processed → Processed → List ℕ
explanation form window ps p = entire form (lines_from form window ps p.batch 0 p.batch.txns p.reply.entries)

-- the lines of the batch of this proxy and version, if it was processed after these; each batch is explained by those up to it
abbrev pub explanation_from : ExplanationForm → ℤ → List Processed → List Processed → ℕ → ℤ → List ℕ
explanation_from form window before [] proxy version = []
explanation_from form window before (p ∷ ps) proxy version =
    if (p.proxy == proxy) && int_eq p.batch.version version then explanation form window (before ++ p ∷ []) p
    else explanation_from form window (before ++ p ∷ []) ps proxy version

-- the lines of the batch of this proxy and version, if it was processed
abbrev pub explanation_at : ExplanationForm → ℤ → List Processed → ℕ → ℤ → List ℕ
explanation_at form window ps proxy version = explanation_from form window [] ps proxy version
