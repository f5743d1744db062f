use Rattle.std.proofs.Common.{◌++◌, codes, decimal, w64, ap}
use Rattle.std.specs.Fmt.{signed_decimal}
use Rattle.std.proofs.lemmas.Int.{to_z-of_z}
use Rattle.std.proofs.lemmas.Result.{on_ok_weaker}
use Rattle.explanations.specs.Written.{Written}
use Rattle.replay_explanations.specs.Lines.{origin, range_form}
use Rattle.replay_explanations.proofs.Appends.{as_piece, joined, six_after}
use Rattle.replay_explanations.proofs.lines.put_write.Goals as goal

pub returns : goal.returns
returns c =
    let write = c.args.write.now in
    let form = range_form write.range in
    let source =
    codes " of proxy " ++ decimal write.proxy ++ codes ", version " ++ signed_decimal write.version ++ codes ", txn " ++ decimal write.txn in
    let range = as_piece _ _ _ form c.in_ok-put_range.ensures.text (ap (λ (w : Written). range_form w.range) c.write.view_is) in
    let both =
    as_piece _ _ _ _ (joined _ _ _ form source range c.in_ok-put_source.ensures.text)
    (six_after form (codes " of proxy ") (decimal write.proxy) (codes ", version ") (signed_decimal write.version) (codes ", txn ")
    (decimal write.txn)) in
    record {
      text =
          on_ok_weaker c.put_origin.result
          (λ end.
          joined _ _ _ _ (origin c.args.version write) both
          (as_piece _ _ _ (origin c.args.version write) end
          (ap (λ z. origin z write) (to_z-of_z w64 c.args.version c.ranges.version))))
          c.put_origin.ensures.text;
    }
