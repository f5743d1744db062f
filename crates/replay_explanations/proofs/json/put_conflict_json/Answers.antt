use Rattle.std.proofs.Common.{◌++◌, codes, decimal, w64, ap, ◌∙◌, append_assoc}
use Rattle.std.proofs.lemmas.Int.{to_z-of_z}
use Rattle.std.proofs.lemmas.Result.{on_ok_weaker}
use Rattle.replay_explanations.specs.Json.{origin_json, range_json, write_json}
use Rattle.replay_explanations.proofs.Appends.{as_piece, joined}
use Rattle.replay_explanations.proofs.json.put_conflict_json.Goals as goal

pub returns : goal.returns
returns c =
    let newest = c.args.explanation.now.newest in
    let begin = codes ",{\"txn\":" ++ decimal c.args.txn in
    let read = begin ++ codes ",\"read\":" ++ decimal c.args.read in
    let range = read ++ codes ",\"range\":" ++ range_json c.args.range.now in
    let write = range ++ write_json newest in
    let further = write ++ codes ",\"further\":" ++ decimal c.args.explanation.now.further in
    let origin = origin_json c.args.version newest in
    let begun = c.in_ok-put_begin.ensures.text ∙ append_assoc c.args.out.now.items (codes ",{\"txn\":") (decimal c.args.txn) in
    let to_read =
    joined _ _ _ (begin ++ codes ",\"read\":") (decimal c.args.read)
    (joined _ _ _ begin (codes ",\"read\":") begun c.in_ok-extend_from_slice.ensures.items) c.in_ok-put_number.ensures.text in
    let to_range =
    joined _ _ _ (read ++ codes ",\"range\":") (range_json c.args.range.now)
    (joined _ _ _ read (codes ",\"range\":") to_read c.in_ok-extend_from_slice-2.ensures.items)
    c.in_ok-put_range_json.ensures.text in
    let to_write = joined _ _ _ range (write_json newest) to_range c.in_ok-put_write.ensures.text in
    let to_further =
    joined _ _ _ (write ++ codes ",\"further\":") (decimal c.args.explanation.now.further)
    (joined _ _ _ write (codes ",\"further\":") to_write c.in_ok-extend_from_slice-3.ensures.items)
    c.in_ok-put_number-2.ensures.text in
    record {
      text =
          on_ok_weaker c.put_origin.result
          (λ end.
          joined _ _ _ further origin to_further
          (as_piece _ _ _ origin end (ap (λ z. origin_json z newest) (to_z-of_z w64 c.args.version c.ranges.version))))
          c.put_origin.ensures.text;
    }
