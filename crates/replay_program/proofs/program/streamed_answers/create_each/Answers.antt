use Rattle.std.proofs.Common.{◌≡◌, ◌≤◌, ◌∙◌, ◌+◌, ◌-◌, ◌++◌, ℕ, suc, List, Option, Err, ap, map, length, refl, subst, sym, append-nil, arith, rules}
use Rattle.std.proofs.lemmas.Grind.{common_steps}
use Rattle.std.proofs.lemmas.List.{length-map}
use Rattle.std.specs.Prelude.{option_map}
use Rattle.std.specs.Vec.Iter.{into_iter_items, into_iter_len}
use Rattle.replay_arguments.specs.declared.opened_files.OpeningError.TheVariants as opening
use Rattle.replay_program.specs.Program.{HaveWriters, texts}
use Rattle.replay_program.proofs.Writers.{have_writers, padded_list, padded_next, same_error}
use Rattle.replay_program.proofs.program.streamed_answers.create_each.Goals as goal

pub returns-in-Err-clause-refused : goal.returns-in-Err-clause-refused
returns-in-Err-clause-refused g c = λ proxy is.
    c.create_files.ensures.refused proxy (c.in-Err.is ∙ ap Err (same_error _ c.in-Err.cause (opening.CannotOpen proxy) refl is))

pub loop-preserved : goal.loop-preserved
loop-preserved g c =
    let places = c.args.proxies in
    let before = c.loop.invariant.writers in
    let rest = places - (c.loop.counter + 1) in
    let one_more : places - c.loop.counter ≡ suc rest = omega (arith, c.loop-test.true) in
    record {
      writers = (
        before.0,
        before.1,
        subst (λ (l : List (Option g.row.F-Writer.Denot)). l ++ padded_list rest (into_iter_items c.next.new.self) ≡ padded_list places before.0)
            (sym c.push_reserved.ensures.items)
            (padded_next rest c.loop.records.items (into_iter_items c.loop.writers) (into_iter_items c.next.new.self)
            (into_iter_len c.loop.writers) (into_iter_len c.next.new.self) c.next.result (padded_list places before.0)
            c.loop.writers.rest.ok.0 c.next.new.self.rest.ok.0 c.next.ensures.cases
            (subst (λ (n : ℕ). c.loop.records.items ++ padded_list n (into_iter_items c.loop.writers) ≡ padded_list places before.0) one_more
            before.2)),
      );
      count = first_of (search rules, grind (arith, common_steps));
      room = first_of (search rules, grind (arith, common_steps));
    }

pub returns-clause-writers : goal.returns-clause-writers
returns-clause-writers g c =
    let places = c.args.proxies in
    let names = texts c.args.names.now in
    let begun = g.F.Files.begun c.args.files.now in
    let opened = c.loop.invariant.writers in
    let none : places - c.loop.counter ≡ 0 = omega (arith, c.loop-test.false) in
    let few : length names ≤ places = omega (arith, c.requires.no_more, length-map c.args.names.now (λ name. name.now)) in
    let are : c.loop.records.items ≡ padded_list places opened.0 = sym (append-nil c.loop.records.items)
    ∙ subst (λ (n : ℕ). c.loop.records.items ++ padded_list n (into_iter_items c.loop.writers) ≡ padded_list places opened.0) none opened.2 in
    subst (λ (l : List (Option g.row.F-Writer.Denot)). HaveWriters begun names (map (option_map g.F.Writer.Sink.given) l)) (sym are)
    (have_writers g.F.Writer.Sink.given begun names opened.0 places opened.1 few)
