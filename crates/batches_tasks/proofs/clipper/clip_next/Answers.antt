use Rattle.std.proofs.Common.{◌≡◌, ◌≢◌, ◌<◌, ℕ, List, [], length, vec_len, refl, ap, subst, arith, rules}
use Rattle.std.specs.Io.KnownBytes.{Appends, IsAtEnd}
use Rattle.std.proofs.lemmas.List.{nil_from_length}
use Rattle.std.proofs.lemmas.Result.{err_from_is_err_and}
use Rattle.wire.proofs.callers.Frames.{at_least_four}
use Rattle.wire.proofs.callers.Known.{none_before}
use Rattle.batches_tasks.specs.Clipping.{BecomesClip, IsFailureOfClip}
use Rattle.batches_tasks.proofs.Failures.{clip_fails}
use Rattle.batches_tasks.proofs.clipper.clip_next.Goals as goal

pub returns-then-is_empty-clause-end : goal.returns-then-is_empty-clause-end
returns-then-is_empty-clause-end g c zero =
    let old = g.R.Source.remaining c.args.reader.now in
    let new = g.R.Source.remaining c.next_frame.new.reader in
    let held = c.next_frame.new.frame.items in
    let len : length held ≡ 0 = search rules in
    let four = at_least_four held in
    let at_end : IsAtEnd new = c.in_ok-next_frame.ensures.end (omega arith) in
    (none_before old new held c.in_ok-next_frame.ensures.taken (nil_from_length held len) at_end, refl)

pub returns-in_err-clip-clause-fails : goal.returns-in_err-clip-clause-fails
returns-in_err-clip-clause-fails g c =
    let p = err_from_is_err_and c.from_residual-in_err-clip.result c.from_residual-in_err-clip.ensures.1 in
    let e = c.in_err-clip.field-0.0 in
    let old = g.R.Source.remaining c.args.reader.now in
    let new = g.R.Source.remaining c.next_frame.new.reader in
    let held = c.next_frame.new.frame.items in
    let len : length held ≡ vec_len c.next_frame.new.frame = search rules in
    let filled : 0 < vec_len c.next_frame.new.frame = search rules in
    let some : held ≢ [] = λ none. omega (arith, ap length none) in
    let fails : IsFailureOfClip c.args.points.now c.args.shard c.args.number held e =
    subst (λ (bytes : List ℕ). IsFailureOfClip c.args.points.now c.args.shard c.args.number bytes e) c.deref.ensures.value
    c.in_err-clip.ensures.fails in
    rw (p.1, p.2) (clip_fails c.args.points.now c.args.shard c.args.number old new held e c.in_ok-next_frame.ensures.taken some
    (λ lt. c.in_ok-next_frame.ensures.end (omega (arith, len, lt))) fails)

pub returns-clause-clipped : goal.returns-clause-clipped
returns-clause-clipped g c some =
    let clip = c.in_ok-clip.clip.items in
    let before = g.W.Sink.given c.args.writer.now in
    let after = g.W.Sink.given c.write_all.new.writer in (
      c.next_frame.new.frame.items,
      clip,
      c.in_ok-next_frame.ensures.taken,
      subst (λ (bytes : List ℕ). BecomesClip c.args.points.now c.args.shard bytes clip) c.deref.ensures.value
          c.in_ok-clip.ensures.clip,
      subst (λ (bytes : List ℕ). Appends before after bytes) c.deref-2.ensures.value c.in_ok-write_all.ensures.entire,
    )
