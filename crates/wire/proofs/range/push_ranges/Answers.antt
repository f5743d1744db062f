use Rattle.std.proofs.Common.{◌≡◌, ◌-◌, ◌≤◌, ◌++◌, ◌∷◌, [], map, drop, length, ◌∙◌, ap, arith}
use Rattle.std.proofs.lemmas.Result.{err_from_is_err_and}
use Rattle.std.proofs.lemmas.List.{length-append}
use Rattle.std.proofs.Math.Seq.{drop-length, take-length}
use Rattle.wire.specs.Lying.{range_read, index_of}
use Rattle.wire.specs.Reading.{range_at, many_at}
use Rattle.wire.proofs.Loop.{continues, ends, is_done, with_none}
use Rattle.wire.proofs.Appending.{pushed_after, front_stays, apart_pushed}
use Rattle.wire.proofs.range.push_ranges.Goals as goal

pub loop-init : goal.loop-init
loop-init c =
    let old = c.args.spans.now.items in
    let is = c.in_ok-reserve.ensures.items in
    let all : c.args.count - 0 ≡ c.args.count = omega arith in (
      rw (is, drop-length old, all) (with_none (many_at (range_at c.args.version) c.args.count c.args.bytes.now)),
      rw is (take-length old),
      rw is (omega arith),
      c.requires.rest,
      rw is c.requires.apart,
    )

pub returns-in_err-span-clause-reads : goal.returns-in_err-span-clause-reads
returns-in_err-span-clause-reads c =
    let p = err_from_is_err_and c.from_residual-in_err-span.result c.from_residual-in_err-span.ensures.1 in
    rw (p.1, p.2) (ends (range_at c.args.version) c.in_err-span.field-0.0
    (map (range_read c.args.frame.now) (drop (length c.args.spans.now.items) c.loop.spans.items)) c.args.count
    c.loop.counter c.loop.rest.now (many_at (range_at c.args.version) c.args.count c.args.bytes.now) c.loop-test.true
    c.in_err-span.ensures.reads c.loop.invariant.0)

pub loop-preserved : goal.loop-preserved
loop-preserved c =
    let frame = c.args.frame.now in
    let span = c.in_ok-span.span in
    let n = length c.args.spans.now.items in
    let done = c.loop.spans.items in
    let new = c.push.new.self.items in
    let is = c.in_ok-push.ensures.items in
    let least : n ≤ length done = omega (arith, c.loop.invariant.2) in
    let pushed : map (range_read frame) (drop n new) ≡ map (range_read frame) (drop n done) ++ range_read frame span ∷ [] =
    pushed_after (range_read frame) n done new span least is in (
      rw pushed (continues (range_at c.args.version)
          (map (range_read frame) (drop n done)) c.args.count c.loop.counter c.loop.rest.now
          (range_read frame span) c.in_ok-span.after.now
          (many_at (range_at c.args.version) c.args.count c.args.bytes.now) c.loop-test.true
          c.in_ok-span.ensures.reads c.loop.invariant.0),
      front_stays n done (span ∷ []) new least is ∙ c.loop.invariant.1,
      ap length is ∙ length-append done (span ∷ []) ∙ omega (arith, c.loop.invariant.2),
      c.in_ok-span.ensures.rest,
      rw is (apart_pushed 0 done (index_of frame c.loop.rest.now) span (index_of frame c.in_ok-span.after.now)
          c.loop.invariant.4 c.in_ok-span.ensures.place),
    )

pub returns-clause-reads : goal.returns-clause-reads
returns-clause-reads c = is_done (range_at c.args.version)
    (map (range_read c.args.frame.now) (drop (length c.args.spans.now.items) c.loop.spans.items)) c.args.count
    c.loop.counter c.loop.rest.now (many_at (range_at c.args.version) c.args.count c.args.bytes.now) c.loop-test.false
    c.loop.invariant.0
