use Rattle.std.proofs.Common.{◌≡◌, Option, sym, subst}
use Rattle.std.specs.Prelude.{IfSome}
use Rattle.keyspace.specs.declared.batch.Batch.{Batch}
use Rattle.wire.specs.declared.error.WireError.TheVariants.{Memory, Read}
use Rattle.wire.specs.NextFrame.{TakesFrame}
use Rattle.wire.proofs.FrameParts.{entire_part}
use Rattle.wire.proofs.frames.read_next.Goals as goal

pub returns-in-Ok-clause-batch : goal.returns-in-Ok-clause-batch
returns-in-Ok-clause-batch g c =
    let old = g.R.Source.remaining c.args.reader.now in
    let new = g.R.Source.remaining c.read_unordered.new.reader in
    let takes = subst (λ (found : Option Batch). IfSome found (TakesFrame old new)) c.in-Some.is c.in_ok-batch.ensures.batch in
    subst (λ (batch : Batch). TakesFrame old new batch) (sym c.in-Ok.ensures.batch) takes

pub returns-in-Err-clause-part : goal.returns-in-Err-clause-part
returns-in-Err-clause-part g c =
    let old = g.R.Source.remaining c.args.reader.now in
    let new = g.R.Source.remaining c.read_unordered.new.reader in
    let takes = subst (λ (found : Option Batch). IfSome found (TakesFrame old new)) c.in-Some.is c.in_ok-batch.ensures.batch in
    entire_part Memory old new c.in-Some.batch takes (λ read. let bad : Memory ≡ Read = read in cc)
