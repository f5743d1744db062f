use Rattle.std.proofs.Common.{◌≡◌, ◌≢◌, ◌<◌, ℕ, List, [], length, vec_len, refl, ap, subst, arith, rules}
use Rattle.std.specs.Io.KnownBytes.{IsAtEnd}
use Rattle.std.proofs.lemmas.List.{nil_from_length}
use Rattle.std.proofs.lemmas.Result.{err_from_is_err_and}
use Rattle.wire.proofs.callers.Frames.{at_least_four}
use Rattle.wire.proofs.callers.Known.{none_before}
use Rattle.batches_tasks.specs.Failing.{IsFailureOfFrame}
use Rattle.batches_arguments.specs.declared.kind.Kind.TheVariants.{Batches}
use Rattle.batches_tasks.proofs.Failures.{frame_fails}
use Rattle.batches_tasks.proofs.frame.next_batch.Goals as goal

pub returns-then-is_empty-clause-end : goal.returns-then-is_empty-clause-end
returns-then-is_empty-clause-end g c =
    let old = g.R.Source.remaining c.args.reader.now in
    let new = g.R.Source.remaining c.next_frame.new.reader in
    let held = c.next_frame.new.frame.items in
    let len : length held ≡ 0 = search rules in
    let four = at_least_four held in
    let at_end : IsAtEnd new = c.in_ok-next_frame.ensures.end (omega arith) in
    none_before old new held c.in_ok-next_frame.ensures.taken (nil_from_length held len) at_end

pub returns-in_err-batch-clause-fails : goal.returns-in_err-batch-clause-fails
returns-in_err-batch-clause-fails g c =
    let p = err_from_is_err_and c.from_residual-in_err-batch.result c.from_residual-in_err-batch.ensures.1 in
    let e = c.in_err-batch.field-0.0 in
    let old = g.R.Source.remaining c.args.reader.now in
    let new = g.R.Source.remaining c.next_frame.new.reader in
    let held = c.next_frame.new.frame.items in
    let len : length held ≡ vec_len c.next_frame.new.frame = search rules in
    let filled : 0 < vec_len c.next_frame.new.frame = search rules in
    let some : held ≢ [] = λ none. omega (arith, ap length none) in
    let fails : IsFailureOfFrame Batches c.args.number held e =
    subst (λ (bytes : List ℕ). IsFailureOfFrame Batches c.args.number bytes e) c.deref.ensures.value
    c.in_err-batch.ensures.fails in
    rw (p.1, p.2) (frame_fails Batches c.args.number old new held e c.in_ok-next_frame.ensures.taken some
    (λ lt. c.in_ok-next_frame.ensures.end (omega (arith, len, lt))) fails)
