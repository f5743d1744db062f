use Rattle.std.proofs.Common.{sym, ◌∙◌, w64, SFits, rules}
use Rattle.std.proofs.lemmas.Int.{to_z-of_z}
use Rattle.batches_report.proofs.Pairing.{left_more, still_left}
use Rattle.batches_report.proofs.left.Left.add.Goals as goal

pub returns-then-contains_key : goal.returns-then-contains_key
returns-then-contains_key c = record {
  added = λ replies from. still_left replies c.args.reply c.args.self.now from (sym c.contains_key.ensures ∙ c.if-contains_key.true);
}

pub returns : goal.returns
returns c =
    let fits : SFits w64 c.args.reply.version = search rules in
    let same = to_z-of_z w64 c.args.reply.version fits in record {
      added = λ replies from.
          left_more replies c.args.reply c.args.self.now (record { replies = c.insert.new.self }) _ same from
          (sym c.contains_key.ensures ∙ c.if-contains_key.false) c.in_ok-insert.ensures.updates.0;
    }
