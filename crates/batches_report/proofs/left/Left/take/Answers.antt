use Rattle.std.proofs.Common.{w64, SFits, rules}
use Rattle.std.proofs.lemmas.Int.{to_z-of_z}
use Rattle.batches_report.proofs.Pairing.{left_taken, reply_taken}
use Rattle.batches_report.proofs.left.Left.take.Goals as goal

pub returns : goal.returns
returns c =
    let fits : SFits w64 c.args.version = search rules in
    let same = to_z-of_z w64 c.args.version fits in record {
      reply = λ replies seen from. reply_taken replies seen c.args.self.now _ c.args.version _ same from c.remove.ensures.value;
      left = λ replies seen from. left_taken replies seen c.args.self.now (record { replies = c.remove.new.self }) _ c.args.version same from c.remove.ensures.updates.0;
    }
