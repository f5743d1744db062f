use Rattle.std.proofs.Common.{◌≡◌, ◌∙◌, ℕ, true, false, List, length, refl, sym, ap, subst, rules, arith, All}
use Rattle.std.specs.Prelude.{slice_get}
use Rattle.std.proofs.lemmas.Grind.{common_steps}
use Rattle.keyspace.specs.declared.reply.Entry.{Entry}
use Rattle.replay_shards.specs.Answers.{FitsIn, noted_each}
use Rattle.replay_shards.proofs.NotedLists.{counts_of}
use Rattle.replay_shards.proofs.entries.combined_reply.Goals as goal

pub returns-then-not-do_fit : goal.returns-then-not-do_fit
returns-then-not-do_fit c = record {
  together = λ one.
      let each = noted_each c.args.each.now in
      let same = c.count_in-count.ensures.count one.0 one.1 in
      let yes : false ≡ true = c.if-not-do_fit.ensures.fit.1 (subst (λ (n : ℕ). All (FitsIn n) each) (sym same) one.1) in
      cc;
}

pub returns : goal.returns
returns c =
    let each = noted_each c.args.each.now in
    let count = c.count_in-count.result in
    let fit : All (FitsIn count) each = c.if-not-do_fit.ensures.fit.0 refl in
    let is = c.new-2.ensures.entries ∙ c.new.ensures.items in
    let long : length c.new-2.result.entries ≡ count =
    omega (arith, c.in_ok-entries.ensures.count, c.in_ok-entries.entries.ok.0, ap (λ (es : List Entry). length es) is) in
    record {
      together = (
        (count, fit),
        record {
          version = first_of (search rules, grind (arith, common_steps));
          count = counts_of count (length c.new-2.result.entries) long each fit;
          entries = λ j e at. c.in_ok-entries.ensures.entries j e (ap (λ (es : List Entry). slice_get es j) (sym is) ∙ at);
        },
      );
    }
