use Rattle.std.proofs.Common.{◌≡◌, codes, decimal, w64, to_z, of_z, SFits, rules, ap, ◌∙◌}
use Rattle.std.specs.Fmt.{signed_decimal}
use Rattle.std.proofs.lemmas.Int.{to_z-of_z}
use Rattle.std.proofs.lemmas.Result.{on_ok_weaker}
use Rattle.explanations.specs.Written.{Written}
use Rattle.replay_explanations.proofs.Appends.{as_piece, six_pieces}
use Rattle.replay_explanations.proofs.json.put_source.Goals as goal

pub returns : goal.returns
returns c =
    let write = c.args.write.now in
    let is = c.write.view_is in
    let fits : SFits w64 c.write.inside.version = search rules in
    let version_is : to_z w64 (of_z w64 c.write.inside.version) ≡ write.version =
    to_z-of_z w64 c.write.inside.version fits ∙ ap (λ (w : Written). w.version) is in
    let proxy = as_piece _ _ _ (decimal write.proxy) c.in_ok-put_number.ensures.text (ap (λ (w : Written). decimal w.proxy) is) in
    let version = as_piece _ _ _ (signed_decimal write.version) c.in_ok-put_version.ensures.text (ap signed_decimal version_is) in
    record {
      text =
          on_ok_weaker c.put_number-2.result
          (λ end.
          six_pieces _ _ _ _ _ _ _ (codes ",\"proxy\":") (decimal write.proxy) (codes ",\"version\":") (signed_decimal write.version)
          (codes ",\"txn\":") (decimal write.txn) c.in_ok-extend_from_slice.ensures.items proxy c.in_ok-extend_from_slice-2.ensures.items
          version c.in_ok-extend_from_slice-3.ensures.items
          (as_piece _ _ _ (decimal write.txn) end (ap (λ (w : Written). decimal w.txn) is)))
          c.put_number-2.ensures.text;
    }
