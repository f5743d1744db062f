use Rattle.std.proofs.Common.{◌≡◌, ◌+◌, ◌-◌, ◌*◌, ◌≤◌, length, vec_capacity}
use Rattle.arena.specs.Spares.{with_row}
use Rattle.arena.proofs.spare_slots.SpareSlots.add.Given as goal

abbrev pub invariant-loop-index : goal.invariant-loop-index
invariant-loop-index g l =
    record {
      slots : l.self-inside.slots.items
          ≡ with_row l.initial.self-inside.slots.items (l.number * 512 + l.index) (l.count - l.index);
      length : length l.self-inside.slots.items + l.index ≡ length l.initial.self-inside.slots.items + l.count;
      total : l.self-inside.total ≡ l.initial.self-inside.total;
      capacity : l.self-inside.total ≤ vec_capacity l.self-inside.slots;
    }
