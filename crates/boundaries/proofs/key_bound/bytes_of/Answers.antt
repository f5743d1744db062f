use Rattle.std.proofs.Common.{◌∙◌, sym}
use Rattle.boundaries.proofs.BoundTests.{no_bytes}
use Rattle.boundaries.proofs.KeyBytes.{known_bytes}
use Rattle.boundaries.proofs.key_bound.bytes_of.Goals as goal

pub returns-then-not-is_live : goal.returns-then-not-is_live
returns-then-not-is_live c = record {
  bytes = no_bytes c.args.keys.now c.args.slot (sym c.is_live.ensures.live ∙ c.if-not-is_live.true);
}

pub returns : goal.returns
returns c = record { bytes = sym (known_bytes c.args.keys.now c.args.slot c.key.result.now c.key.ensures.key) }
