-- How long the frame of a reply is.
use Rattle.std.proofs.Common.{◌≡◌, ℕ, ◌+◌, ◌*◌, ◌≤◌, ℤ, List, [], ◌∷◌, ◌++◌, length, map, refl, ap, arith}
use Rattle.std.specs.List.{flat_map, sum_by}
use Rattle.std.specs.Int.{w64, cast_unsigned}
use Rattle.std.proofs.lemmas.List.{length-append}
use Rattle.std.proofs.lemmas.List.Sums.{sum_by-cons}
use Rattle.byteorder.specs.Endian.{big_bytes}
use Rattle.byteorder.specs.Numbers.{length-bytes_high_first}
use Rattle.keyspace.specs.declared.batch.Batch.{Batch}
use Rattle.keyspace.specs.declared.reply.Entry.{Entry}
use Rattle.keyspace.specs.declared.reply.Reply.{Reply}
use Rattle.keyspace.specs.Writes.{Write}
use Rattle.keyspace.specs.Judged.{Judged}
use Rattle.wire.specs.Fields.{entry_fields, reply_fields}
use Rattle.wire.specs.Spelling.{entry_text, reply_body, signed_text, SpellsReply}
use Rattle.wire.proofs.callers.ReplyLengths.{entry_length}
use Rattle.archcaraway_c.specs.Bound.{most_reply_length}
use Rattle.archcaraway_c.proofs.Few.{judged_few}

entries_length : (es : List Entry)
    → length (flat_map entry_text (map entry_fields es)) ≡ sum_by (λ e. 3 + 2 * length e.places) es
entries_length [] = refl
entries_length (e ∷ es) =
    omega (
      arith,
      length-append (entry_text (entry_fields e)) (flat_map entry_text (map entry_fields es)),
      entry_length (entry_fields e),
      entries_length es,
      sum_by-cons (λ (x : Entry). 3 + 2 * length x.places) e es,
    )

body_length : (r : Reply)
    → length (reply_body (reply_fields r)) ≡ 11 + sum_by (λ e. 3 + 2 * length e.places) r.entries
unfolding reply_body
body_length r =
    let entries = flat_map entry_text (map entry_fields r.entries) in
    let count = big_bytes 2 (length (map entry_fields r.entries)) in
    omega (
      arith,
      length-append (signed_text r.version) (count ++ entries),
      length-append count entries,
      length-bytes_high_first 2 (length (map entry_fields r.entries)),
      length-bytes_high_first 8 (cast_unsigned w64 r.version),
      entries_length r.entries,
    )

-- the frame of the right reply isn't longer than the batch allows
pub reply_within : (window : ℤ) (ws : List Write) (b : Batch) (r : Reply) (bytes : List ℕ)
    → Judged window ws b r → SpellsReply bytes r → length bytes ≤ most_reply_length b
reply_within window ws b r bytes judged spelled =
    let body = reply_body (reply_fields r) in
    omega (
      arith,
      ap length spelled.text,
      length-append (big_bytes 4 (length body)) body,
      length-bytes_high_first 4 (length body),
      body_length r,
      judged_few window ws b r judged,
    )
