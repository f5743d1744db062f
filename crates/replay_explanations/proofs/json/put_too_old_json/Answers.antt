use Rattle.std.proofs.Common.{◌++◌, codes, decimal, w64, ap, ◌∙◌, append_assoc}
use Rattle.std.specs.Fmt.{signed_decimal}
use Rattle.std.proofs.lemmas.Int.{to_z-of_z}
use Rattle.std.proofs.lemmas.Result.{on_ok_weaker}
use Rattle.replay_explanations.proofs.Appends.{as_piece, if_appended, six_pieces}
use Rattle.replay_explanations.proofs.json.put_too_old_json.Goals as goal

pub returns : goal.returns
returns c =
    let snapshot = as_piece _ _ _ (signed_decimal c.args.snapshot) c.in_ok-put_version.ensures.text
    (ap signed_decimal (to_z-of_z w64 c.args.snapshot c.ranges.snapshot)) in
    let oldest = as_piece _ _ _ (signed_decimal c.args.oldest) c.in_ok-put_version-2.ensures.text
    (ap signed_decimal (to_z-of_z w64 c.args.oldest c.ranges.oldest)) in
    record {
      text =
          on_ok_weaker c.extend_from_slice-3.result
          (λ end.
          six_pieces _ _ _ _ _ _ _ (codes ",{\"txn\":" ++ decimal c.args.txn) (codes ",\"too_old\":{\"snapshot\":")
          (signed_decimal c.args.snapshot) (codes ",\"oldest\":") (signed_decimal c.args.oldest) (codes "}}")
          (c.in_ok-put_begin.ensures.text ∙ append_assoc c.args.out.now.items (codes ",{\"txn\":") (decimal c.args.txn))
          c.in_ok-extend_from_slice.ensures.items snapshot c.in_ok-extend_from_slice-2.ensures.items oldest end)
          (if_appended c.extend_from_slice-3.result _ _ _ c.extend_from_slice-3.ensures.items);
    }
