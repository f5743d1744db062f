use Rattle.std.proofs.Common.{append_assoc, ◌∙◌, codes}
use Rattle.std.specs.Fmt.{decimal}
use Rattle.std.proofs.lemmas.Result.{on_ok_weaker}
use Rattle.replay_summary.proofs.Appending.{append_number}
use Rattle.replay_summary.proofs.text.json.put_occupancy.Goals as goal

pub returns : goal.returns
returns c = record {
  text = on_ok_weaker c.put_number-3.result
      (λ most. append_number _ _ _ _ _ _
      (append_number _ _ _ _ _ _
      (c.in_ok-put_number.ensures.text ∙ append_assoc c.args.out.now.items (codes ",\"most_held\":") (decimal c.args.occupancy.most_held))
      c.in_ok-put_number-2.ensures.text)
      most)
      c.put_number-3.ensures.text;
}
