use Rattle.replay_output.proofs.Packing.{with_letters}
use Rattle.replay_output.proofs.line.packed.PackedTextWrite.write.Goals as goal

pub returns-clause-bytes : goal.returns-clause-bytes
returns-clause-bytes c =
    with_letters c.self.inside.units.items c.args.bytes.now c.args.self.now c.extend_from_slice.new.self.items c.self.view_is
    c.if-not-is_ascii.ensures.cases c.in_ok-extend_from_slice.ensures.items
