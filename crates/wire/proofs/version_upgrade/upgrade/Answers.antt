use Rattle.std.proofs.Common.{◌∙◌, List, ℕ, Option, sym, subst}
use Rattle.std.proofs.lemmas.Result.{err_from_is_err_and}
use Rattle.wire.specs.declared.error.WireError.TheVariants.{Memory}
use Rattle.wire.specs.Upgrade.{StopsAt}
use Rattle.wire.proofs.NewFrames.{one_more, stops, breaks, memory_comes}
use Rattle.wire.proofs.FrameParts.{no_part}
use Rattle.wire.proofs.version_upgrade.upgrade.Goals as goal

pub returns-in_err-upgrade_next-clause-refused : goal.returns-in_err-upgrade_next-clause-refused
returns-in_err-upgrade_next-clause-refused g c =
    let p = err_from_is_err_and c.from_residual.result c.from_residual.ensures.1 in
    let e = c.in_err-upgrade_next.field-0.0 in
    let left = g.R.Source.remaining c.args.reader.now in
    let now = g.R.Source.remaining c.loop-count.reader in
    let next = g.R.Source.remaining c.upgrade_next.new.reader in
    let before = g.W.Sink.given c.args.writer.now in
    let after = g.W.Sink.given c.loop-count.writer in
    rw (p.1, p.2)
    (λ not_write. let refused = c.in_err-upgrade_next.ensures.refused not_write in
    subst (λ (given : Option (List ℕ)). StopsAt left next before given e) (sym refused.1)
    (stops left now next before after c.loop-count.count e c.loop-count.invariant.0 refused.0
    (c.in_err-upgrade_next.ensures.part not_write)))

pub returns-in_err-upgrade_next-clause-broken_off : goal.returns-in_err-upgrade_next-clause-broken_off
returns-in_err-upgrade_next-clause-broken_off g c =
    let p = err_from_is_err_and c.from_residual.result c.from_residual.ensures.1 in
    let left = g.R.Source.remaining c.args.reader.now in
    let now = g.R.Source.remaining c.loop-count.reader in
    let next = g.R.Source.remaining c.upgrade_next.new.reader in
    let before = g.W.Sink.given c.args.writer.now in
    let after = g.W.Sink.given c.loop-count.writer in
    let later = g.W.Sink.given c.upgrade_next.new.writer in
    rw (p.1, p.2)
    (λ is_write. let off = c.in_err-upgrade_next.ensures.broken_off is_write in
    breaks left now next before after later c.loop-count.count off.0 c.loop-count.invariant.0 off.1 off.2)

pub loop-count-preserved : goal.loop-count-preserved
loop-count-preserved g c =
    let left = g.R.Source.remaining c.args.reader.now in
    let now = g.R.Source.remaining c.loop-count.reader in
    let next = g.R.Source.remaining c.upgrade_next.new.reader in
    let before = g.W.Sink.given c.args.writer.now in
    let after = g.W.Sink.given c.loop-count.writer in
    let later = g.W.Sink.given c.upgrade_next.new.writer in
    let frame = c.in_ok-upgrade_next.ensures.frame c.if-not-branch.false in (
      one_more left now next before after later c.loop-count.count frame.0 c.loop-count.invariant.0 frame.1
          frame.2,
      c.in_ok-upgrade_next.ensures.read_ok ∙ c.loop-count.invariant.1,
      c.in_ok-upgrade_next.ensures.write_ok ∙ c.loop-count.invariant.2,
    )

pub returns-clause-refused : goal.returns-clause-refused
returns-clause-refused g c not_write =
    let left = g.R.Source.remaining c.args.reader.now in
    let now = g.R.Source.remaining c.loop-count.reader in
    let before = g.W.Sink.given c.args.writer.now in
    let after = g.W.Sink.given c.loop-count.writer in
    stops left now now before after c.loop-count.count Memory c.loop-count.invariant.0 (memory_comes now) (no_part Memory now)
