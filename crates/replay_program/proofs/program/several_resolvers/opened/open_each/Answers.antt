use Rattle.std.proofs.Common.{◌∷◌, [], List, Global, arith, map, subst, sym}
use Rattle.std.specs.Prelude.{vec_items}
use Rattle.std.specs.List.{All}
use Rattle.std.specs.declared.vec.Vec.{Vec}
use Rattle.std.proofs.lemmas.Grind.{common_steps}
use Rattle.std.proofs.lemmas.List.{map-append}
use Rattle.std.proofs.lemmas.List.Elements.{All-push}
use Rattle.replay_arguments.specs.Opening.{contents_each}
use Rattle.replay_sharded.specs.Files.{ReadTheFiles}
use Rattle.replay_program.specs.Program.{texts}
use Rattle.replay_program.proofs.program.several_resolvers.opened.open_each.Goals as goal

pub loop-preserved : goal.loop-preserved
loop-preserved g c =
    let Read : List g.row.F-Reader.Denot → Type 0 =
    ReadTheFiles g.F.Reader.Source.remaining (contents_each (g.F.Files.contents c.args.files.now) (texts c.args.names.now)) in
    let each = c.loop.each.items in
    let own = c.in_ok-open_all.field-0 in
    let opened = c.in_ok-open_all.ensures in
    record {
      files =
          subst (λ (l : List (Vec g.row.F-Reader.Denot Global)). All Read (map vec_items l)) (sym c.push_reserved.ensures.items)
          (subst (All Read) (sym (map-append vec_items each (own ∷ [])))
          (All-push Read (map vec_items each) own.items c.loop.invariant.files opened.contents));
      opened = λ _. opened.opened;
      count = grind (arith, common_steps);
      room = grind (arith, common_steps);
    }

pub returns-clause-opened : goal.returns-clause-opened
returns-clause-opened g c = λ some. c.loop.invariant.opened (omega (arith, some, c.loop-test.false))
