use Rattle.std.proofs.Common.{append_assoc, rules, SFits, w64}
use Rattle.std.proofs.lemmas.Int.{to_z-of_z}
use Rattle.std.proofs.lemmas.List.{length-map}
use Rattle.wire.specs.Spelling.{txn_text}
use Rattle.wire.proofs.put.put_txn.Goals as goal

pub returns-clause-text : goal.returns-clause-text
unfolding txn_text
returns-clause-text c =
    let fits : SFits w64 c.txn.inside.snapshot = search rules in
    rw (
      ← c.txn.view_is,
      c.in_ok-put_ranges-2.ensures.text,
      c.in_ok-put_ranges.ensures.text,
      c.in_ok-put_u16-2.ensures.text,
      c.in_ok-put_u16.ensures.text,
      c.in_ok-put_marks.ensures.text,
      c.in_ok-put_i64.ensures.text,
      to_z-of_z w64 c.txn.inside.snapshot fits,
      c.len.ensures.count,
      c.len-2.ensures.count,
    ) (simp (append_assoc, length-map))
