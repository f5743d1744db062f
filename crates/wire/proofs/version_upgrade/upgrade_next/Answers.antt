use Rattle.std.proofs.Common.{◌≡◌, ◌++◌, ◌∙◌, List, ℕ, Option, Err, refl, ap, subst}
use Rattle.std.specs.Prelude.{IfSome}
use Rattle.std.specs.Io.KnownBytes.{Appends}
use Rattle.std.proofs.lemmas.Result.{err_from_is_err_and}
use Rattle.keyspace.specs.declared.batch.Batch.{Batch}
use Rattle.wire.specs.NextFrame.{TakesFrame}
use Rattle.wire.specs.Upgrade.{new_frame}
use Rattle.wire.proofs.NewFrames.{outgrows, begun}
use Rattle.wire.proofs.FrameParts.{not_read, entire_part}
use Rattle.wire.proofs.version_upgrade.upgrade_next.Goals as goal

pub returns-in_err-frame-clause-refused : goal.returns-in_err-frame-clause-refused
returns-in_err-frame-clause-refused g c =
    let p = err_from_is_err_and c.from_residual-in_err-frame.result c.from_residual-in_err-frame.ensures.1 in
    let old = g.R.Source.remaining c.args.reader.now in
    let new = g.R.Source.remaining c.read_next.new.reader in
    let batch = c.in-Some.batch in
    let takes = subst (λ (found : Option Batch). IfSome found
    (TakesFrame old new)) c.in-Some.is c.in_ok-batch.ensures.batch in
    rw (p.1, p.2)
    (λ not_write. (
      outgrows old new batch c.in_err-frame.field-0.0 takes c.in_err-frame.ensures.err
          (λ is_long. c.in_err-frame.ensures.long.0 (ap Err is_long)),
      refl,
    ))

pub returns-in-Ok-clause-frame : goal.returns-in-Ok-clause-frame
returns-in-Ok-clause-frame g c more =
    let old = g.R.Source.remaining c.args.reader.now in
    let new = g.R.Source.remaining c.read_next.new.reader in
    let batch = c.in-Some.batch in
    let takes = subst (λ (found : Option Batch). IfSome found
    (TakesFrame old new)) c.in-Some.is c.in_ok-batch.ensures.batch in
    let text : c.deref.result.now ≡ new_frame batch =
    c.deref.ensures.value ∙ c.in_ok-frame.ensures.spelled.text in
    let before = g.W.Sink.given c.args.writer.now in
    let after = g.W.Sink.given c.write_all.new.writer in
    (batch, takes, subst (λ (bytes : List ℕ). Appends before after bytes) text c.in-Ok.ensures.entire)

pub returns-clause-broken_off : goal.returns-clause-broken_off
returns-clause-broken_off g c is_write =
    let old = g.R.Source.remaining c.args.reader.now in
    let new = g.R.Source.remaining c.read_next.new.reader in
    let batch = c.in-Some.batch in
    let takes = subst (λ (found : Option Batch). IfSome found
    (TakesFrame old new)) c.in-Some.is c.in_ok-batch.ensures.batch in
    let text : c.deref.result.now ≡ new_frame batch =
    c.deref.ensures.value ∙ c.in_ok-frame.ensures.spelled.text in
    let before = g.W.Sink.given c.args.writer.now in
    let after = g.W.Sink.given c.write_all.new.writer in
    let part = begun before after c.deref.result.now c.in-Err.ensures.prefix in (
      batch,
      takes,
      subst (λ (entire : List ℕ). IfSome after (λ _. (bytes rest : List ℕ) × (entire ≡ bytes ++ rest)
          × Appends before after bytes)) text part,
    )

pub returns-in_err-frame-clause-part : goal.returns-in_err-frame-clause-part
returns-in_err-frame-clause-part g c =
    let p = err_from_is_err_and c.from_residual-in_err-frame.result c.from_residual-in_err-frame.ensures.1 in
    let e = c.in_err-frame.field-0.0 in
    let old = g.R.Source.remaining c.args.reader.now in
    let new = g.R.Source.remaining c.read_next.new.reader in
    let batch = c.in-Some.batch in
    let takes = subst (λ (found : Option Batch). IfSome found
    (TakesFrame old new)) c.in-Some.is c.in_ok-batch.ensures.batch in
    rw (p.1, p.2) (λ not_write. entire_part e old new batch takes (not_read e c.in_err-frame.ensures.err))
