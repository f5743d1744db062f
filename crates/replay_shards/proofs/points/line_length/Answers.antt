use Rattle.std.proofs.Common.{◌≢◌, ◌∙◌, ℕ, List, ap, subst, take_all, All, arith}
use Rattle.std.specs.Prelude.{Some}
use Rattle.std.proofs.lemmas.Option.{slice_get-get_or}
use Rattle.replay_shards.proofs.Lines.{through_feed, through_none}
use Rattle.replay_shards.proofs.points.line_length.Goals as goal

pub returns-then-byte-eq10-clause-line : goal.returns-then-byte-eq10-clause-line
returns-then-byte-eq10-clause-line c =
    let xs = c.args.bytes.now in
    let i = c.loop-index.index in
    through_feed xs i c.loop-index.invariant
    (slice_get-get_or xs i 0 c.loop-index-test.true ∙ ap (λ (byte : ℕ). Some byte) c.if-byte-eq10.true)

pub returns-clause-line : goal.returns-clause-line
returns-clause-line c =
    let xs = c.args.bytes.now in
    take_all _ xs (omega arith)
    ∙ through_none xs (subst (λ (l : List ℕ). All (λ x. x ≢ 10) l) (take_all c.loop-index.index xs c.loop-index-test.false) c.loop-index.invariant)
