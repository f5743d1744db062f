use Rattle.std.proofs.Common.{◌≡◌, ℕ, Global, List, map, Some, ap, sym, subst, ◌∙◌}
use Rattle.std.specs.Prelude.{OnOk, vec_items}
use Rattle.std.proofs.lemmas.Option.{none-some}
use Rattle.replay_output.specs.declared.line.Line.{Line}
use Rattle.replay_output.specs.Line.{answers_of}
use Rattle.replay_tasks.specs.Replayed.{Took, TookPrefix, written}
use Rattle.replay_tasks.specs.Summarized.{run_summary, summary_and_top, with_ranges}
use Rattle.replay_tasks.proofs.summary.with_top.print_with_top.Goals as goal

pub returns-in-Ok-clause-top : goal.returns-in-Ok-clause-top
returns-in-Ok-clause-top g c = λ style processed are seen chain.
    let form = c.args.wanted.form in
    let occupancy = c.args.occupancy in
    let answers = map answers_of (map (vec_items {X = Line} {Z = Global}) c.args.received.now) in
    let of_top = c.in-Ok.ensures.text processed seen chain in
    let printed = c.print_summary.result.printed in
    let out = written (g.O.Sink.given c.args.out.now) (g.O.Sink.given c.print_summary.new.out)
    (g.O.Sink.failures c.args.out.now) (g.O.Sink.failures c.print_summary.new.out) in
    let text_is : with_ranges form (run_summary form (Some occupancy) answers) c.deref.result.now ≡ summary_and_top form occupancy of_top.top answers =
    ap (λ (ranges : List ℕ). with_ranges form (run_summary form (Some occupancy) answers) ranges) (c.deref.ensures.value ∙ of_top.is_text) in
    record {
      top = Some of_top.top;
      is_top = of_top.is_top;
      without = λ none. absurd (none-some of_top.top (sym none));
      lines = subst (λ (text : List ℕ). OnOk printed (Took out text)) text_is (c.print_summary.ensures.lines style are);
      prefix = λ wrote. subst (λ (text : List ℕ). TookPrefix out text) text_is (c.print_summary.ensures.prefix style are wrote);
    }
