use Rattle.std.proofs.Common.{List, arith, subst, ◌∙◌}
use Rattle.std.specs.List.{All}
use Rattle.std.proofs.lemmas.List.{take_all}
use Rattle.std.proofs.lemmas.Grind.{common_steps}
use Rattle.std.proofs.lemmas.List.Elements.{All-more}
use Rattle.keyspace.specs.Places.{ArePlaces}
use Rattle.keyspace.specs.declared.reply.Entry.{Entry}
use Rattle.json_lines.proofs.reply_writer.each_entry.Goals as goal

pub loop-entry-preserved : goal.loop-entry-preserved
loop-entry-preserved c =
    let places = subst (λ (entry : Entry). ArePlaces entry.places) c.entry-item.is
    c.in_ok-put_entry.ensures.places in (
      grind (arith, common_steps),
      c.put_entry.ensures.before ∙ c.loop-entry.invariant.1,
      All-more (λ entry. ArePlaces entry.places) c.args.entries.now
          c.loop-entry.entry-index c.entry-item.result c.loop-entry-test.true c.loop-entry.invariant.2 places,
    )

pub returns-clause-places : goal.returns-clause-places
returns-clause-places c =
    let integer_of = take_all c.loop-entry.entry-index c.args.entries.now c.loop-entry-test.false in
    subst (λ (entries : List Entry). All (λ entry. ArePlaces entry.places) entries) integer_of
    c.loop-entry.invariant.2
