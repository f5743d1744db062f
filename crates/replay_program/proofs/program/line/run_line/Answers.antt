use Rattle.replay_program.proofs.program.line.run_line.Goals as goal

pub returns : goal.returns
returns g c =
    let ran = c.do_line-report.ensures in
    let said = c.say_more.ensures in
    let given = g.E.Sink.given in
    record {
      done = ran.done;
      differs = ran.differs;
      quiet = λ other. record {
        given = given c.do_line-report.new.error;
        failures = g.E.Sink.failures c.do_line-report.new.error;
        kept = ran.quiet other;
        further = said.quiet other;
      };
      failed = λ is. record {
        given = given c.do_line-report.new.error;
        failures = g.E.Sink.failures c.do_line-report.new.error;
        failed = ran.failed is;
        met = ran.met;
        output_failed = ran.output_failed;
        further = said.further is;
      };
      ends = ran.ends;
    }
