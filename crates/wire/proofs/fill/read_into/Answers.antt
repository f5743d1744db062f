use Rattle.std.proofs.Common.{◌≡◌, ◌+◌, ◌-◌, ◌≤◌, ◌++◌, length, take, drop, refl, rules, sym, subst, ◌∙◌, arith}
use Rattle.std.specs.Io.KnownBytes.{Consumes}
use Rattle.std.proofs.lemmas.List.{length-append, length-take, length-drop, take-append-le}
use Rattle.wire.proofs.Moving.{taken_more}
use Rattle.wire.proofs.fill.read_into.Goals as goal

pub loop-count-preserved : goal.loop-count-preserved
loop-count-preserved g c =
    let remaining = g.R.Source.remaining in
    let room = c.loop-count.room in
    let count = c.loop-count.count in
    let more = c.in_ok-more.more in
    let read = c.read.new.buffer in
    let post = drop (length room - count) (drop count room) in
    let there = c.loop-count.invariant.0 in
    let few = c.in_ok-more.ensures.bound in
    let len : length read ≡ length room - count = search rules in
    let long : length (take count room ++ (read ++ post)) ≡ length room =
    omega (
      arith,
      length-append (take count room) (read ++ post),
      length-append read post,
      length-take count room,
      length-drop (length room - count) (drop count room),
      length-drop count room,
      len,
      there,
    ) in
    let taken : Consumes (remaining c.loop-count.reader) (remaining c.read.new.self) (take more (read ++ post)) =
    subst (Consumes (remaining c.loop-count.reader) (remaining c.read.new.self)) (sym (take-append-le more read post few))
    c.in_ok-more.ensures.bytes in (
      omega (arith, long, len, few, there),
      long ∙ c.loop-count.invariant.1,
      taken_more (remaining c.args.reader.now) (remaining c.loop-count.reader) (remaining c.read.new.self) room (read ++ post)
          (take count room ++ (read ++ post)) count more there refl c.loop-count.invariant.2 taken,
      c.in_ok-more.ensures.ok ∙ c.loop-count.invariant.3,
    )
