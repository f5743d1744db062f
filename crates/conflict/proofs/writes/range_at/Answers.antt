use Rattle.std.proofs.Common.{◌≡◌, ◌∙◌, ap, arith, sym}
use Rattle.std.specs.Prelude.{Some, slice_get}
use Rattle.std.proofs.lemmas.Option.{slice_get-get_or}
use Rattle.keyspace.specs.storage.BatchRanges.{ranges_in}
use Rattle.conflict.proofs.Spanned.{span_at}
use Rattle.conflict.proofs.writes.range_at.Goals.{In-Some}
use Rattle.conflict.proofs.writes.range_at.Goals as goal

-- the span that was found
found : (c : In-Some) → slice_get c.args.spans.now c.args.index ≡ Some c.in-Some.span.now
found c =
    let lookup = c.in-Some.ensures.lookup in
    slice_get-get_or c.args.spans.now c.args.index c.in-Some.span.now (omega arith) ∙ ap Some (sym lookup.1)

pub hashed_of-requires : goal.hashed_of-requires
hashed_of-requires c =
    let at = span_at (ranges_in c.args.txns.now) c.args.spans.now c.requires.spanned.0 c.requires.spanned.1
    c.args.index c.in-Some.span.now (found (goal.at.hashed_of-requires c).In-Some) in
    record { spans = (at.0, at.2) }

pub returns-in-Some : goal.returns-in-Some
returns-in-Some c = record {
  range = (c.in-Some.span.now, found (goal.at.returns-in-Some c).In-Some, c.hashed_of.ensures.spans);
}
