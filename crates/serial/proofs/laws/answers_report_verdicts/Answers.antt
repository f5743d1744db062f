use Rattle.serial.proofs.Reading.{at_index}
use Rattle.serial.proofs.Answering.{each_sent, each_answered, each_reply, each_reported, all_reported}
use Rattle.serial.proofs.laws.answers_report_verdicts.Goals as goal

pub returns : goal.returns
returns c =
    let chains = c.runs_are_chains.ensures.chain in
    record {
      known_verdicts = record {
        replies = λ window log. each_reply window log chains;
        sent = λ window log. each_sent window log chains;
        answered = λ window log entry among.
            let at = at_index _ entry among in
            each_answered window log chains at.0 entry at.1;
        reported = λ window log. each_reported window log chains;
        all_reported = λ window log. all_reported window log chains;
      };
    }
