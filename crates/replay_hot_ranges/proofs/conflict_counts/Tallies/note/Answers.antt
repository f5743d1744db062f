use Rattle.std.proofs.Common.{refl}
use Rattle.replay_hot_ranges.specs.Conflicts.{InConflict}
use Rattle.replay_hot_ranges.specs.Counts.{read_side, written_side}
use Rattle.replay_hot_ranges.proofs.Noting.{noted}
use Rattle.replay_hot_ranges.proofs.conflict_counts.Tallies.note.Goals as goal

pub returns : goal.returns
returns c =
    let conflict : InConflict = record { read = c.args.read.now; written = c.args.written.now } in
    let n = c.args.self.now.txn_count in
    record {
      noted = λ txns conflicts before. (
        noted read_side txns conflicts n c.args.self.now.reads c.note.new.self c.args.read.now conflict refl
            c.in_ok-note.ensures.conflicts c.in_ok-note.ensures.last before.0,
        noted written_side txns conflicts n c.args.self.now.writes c.note-2.new.self c.args.written.now conflict refl
            c.in_ok-note-2.ensures.conflicts c.in_ok-note-2.ensures.last before.1,
      );
    }
