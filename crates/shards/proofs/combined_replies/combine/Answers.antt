use Rattle.std.proofs.Common.{◌≡◌, ◌∙◌, List, length, FitsSigned, w64, sym, ap, subst₂, rules, arith}
use Rattle.std.specs.Prelude.{slice_get}
use Rattle.std.proofs.lemmas.Int.{to_z-of_z}
use Rattle.keyspace.specs.declared.reply.Entry.{Entry}
use Rattle.shards.specs.Combined.{IsFirstMisfit}
use Rattle.shards.proofs.Misfits.{one_first, none_first}
use Rattle.shards.proofs.combined_replies.combine.Goals as goal

pub returns-in_err-entries-clause-misfit : goal.returns-in_err-entries-clause-misfit
returns-in_err-entries-clause-misfit c = λ shard cause. (
  λ h. let e = rw h at c.from_residual.ensures.1 in absurd cc,
  λ h. absurd (none_first c.args.batch.now c.args.each.now shard cause c.in_default.ensures.first h),
)

pub returns-clause-combined : goal.returns-clause-combined
returns-clause-combined c =
    let b = c.args.batch.now in
    let fits : FitsSigned w64 b.version = search rules in
    let is = c.new-2.ensures.entries ∙ c.new.ensures.items in
    record {
      version = c.new-2.ensures.version ∙ to_z-of_z w64 b.version fits;
      count = omega (arith, c.in_ok-entries.ensures.count, c.in_ok-entries.entries.ok.0, c.len.ensures.count, ap (λ (es : List Entry). length es) is);
      entries = λ j e at. c.in_ok-entries.ensures.entries j e (ap (λ (es : List Entry). slice_get es j) (sym is) ∙ at);
    }

pub returns-clause-misfit : goal.returns-clause-misfit
returns-clause-misfit c = λ shard cause. (
  λ h. absurd cc,
  λ h. absurd (none_first c.args.batch.now c.args.each.now shard cause c.in_default.ensures.first h),
)

pub returns-in-Some-clause-misfit : goal.returns-in-Some-clause-misfit
returns-in-Some-clause-misfit c = λ shard cause.
    let b = c.args.batch.now in
    let each = c.args.each.now in
    let first = c.in-Some.ensures.first in (
      λ h.
          let number : c.in-Some.shard ≡ shard = cc in
          let why : c.in-Some.cause ≡ cause = cc in
          subst₂ (IsFirstMisfit b each) number why first,
      λ h. let both = one_first b each c.in-Some.shard shard c.in-Some.cause cause first h in cc,
    )
