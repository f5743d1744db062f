use Rattle.std.proofs.Common.{◌≡◌, ◌∙◌, ℕ, ◌≤◌, ap, sym, subst, codes, rules, arith}
use Rattle.std.specs.Prelude.{None, Option, is_some, true, false}
use Rattle.std.proofs.lemmas.Bool.{false≢true}
use Rattle.clap.specs.Words.{all_of, first_of, found_of, rows_of}
use Rattle.clap.proofs.WalkLemmas.{first_value-rows, raw_values-rows}
use Rattle.replay_arguments.specs.Arguments.{inputs_of}
use Rattle.replay_arguments.proofs.Getters.{is_some_mapped}
use Rattle.replay_arguments.proofs.Resolvers.{none_of, not_one, not_shared, parts_of_shared, shared}
use Rattle.replay_arguments.proofs.arguments.shard_options.sharding_of.Goals.{
  then-resolvers-eq1+else-is_some,
  else-resolvers-eq1+else-not-are_shared+else-inputs_of-gt0,
}
use Rattle.replay_arguments.proofs.arguments.shard_options.sharding_of.Goals as goal

pub returns-then-is_some-clause-none : goal.returns-then-is_some-clause-none
returns-then-is_some-clause-none c = λ stream explain top reports.
    let found = found_of c.args.matches.now in
    let given : is_some c.get_str-split_points.result ≡ true = search rules in
    let some = ap is_some (sym (first_value-rows found (codes "split-points")) ∙ sym c.get_str-split_points.ensures)
    ∙ is_some_mapped _ c.get_str-split_points.result ∙ given in
    not_one (rows_of found) c.in-Some.resolvers c.in-Some.ensures.resolvers (search rules) some

pub returns-then-inputs_of-gt0-clause-none : goal.returns-then-inputs_of-gt0-clause-none
returns-then-inputs_of-gt0-clause-none c = λ stream explain top reports.
    let found = found_of c.args.matches.now in
    let n = c.in-Some.resolvers in
    let holds = c.in-Some.ensures.resolvers in
    let least = holds.least in
    let several : 2 ≤ n = grind (arith, least) in
    let files : c.inputs_of.result ≡ inputs_of (all_of (codes "FILE") (rows_of found)) =
    c.inputs_of.ensures.count ∙ ap inputs_of (c.get_strs.ensures ∙ raw_values-rows found (codes "FILE")) in
    not_shared (rows_of found) n holds several
    (λ is. let none : inputs_of (all_of (codes "FILE") (rows_of found)) ≡ 0 = is.no_input in grind (arith, files, none))

pub returns-clause-sharding : goal.returns-clause-sharding
returns-clause-sharding c = λ stream explain top reports.
    let found = found_of c.args.matches.now in
    let n = c.in-Some.resolvers in
    let holds = c.in-Some.ensures.resolvers in
    let least = holds.least in
    record {
      resolvers = holds;
      split_points = sym (first_value-rows found (codes "split-points")) ∙ sym c.get_str-split_points.ensures;
      one = λ is. elim c.if-resolvers-eq1.branch [
        | then-resolvers-eq1+else-is_some w ↦
            let none : is_some c.get_str-split_points.result ≡ false = search rules in
            none_of c.get_str-split_points.result none
        | else-resolvers-eq1+else-not-are_shared+else-inputs_of-gt0 w ↦
            let other = w.if-resolvers-eq1.false in
            absurd (grind (arith, is, other))
      ];
      several = λ two. elim c.if-resolvers-eq1.branch [
        | then-resolvers-eq1+else-is_some w ↦ let one = w.if-resolvers-eq1.true in absurd (grind (arith, two, one))
        | else-resolvers-eq1+else-not-are_shared+else-inputs_of-gt0 w ↦
            let parts = w.are_shared.ensures.shared.0 (search rules) in
            let files : w.inputs_of.result ≡ inputs_of (all_of (codes "FILE") (rows_of found)) =
            w.inputs_of.ensures.count ∙ ap inputs_of (w.get_strs.ensures ∙ raw_values-rows found (codes "FILE")) in
            let no_inputs = w.if-inputs_of-gt0.false in
            shared (rows_of found) n holds c.args.printing.is_streamed c.args.printing.explains c.args.details.top c.args.reports stream
            explain top reports parts.0 parts.1 parts.2 parts.3 (grind (arith, files, no_inputs))
      ];
    }
