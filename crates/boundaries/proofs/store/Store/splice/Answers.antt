use Rattle.std.proofs.Common.{◌≡◌, ◌+◌, ◌-◌, ◌∙◌, length, refl, sym, ap, arith}
use Rattle.arena.specs.Arena.{with_header}
use Rattle.boundaries.specs.Splice.{CanSplice, spliced}
use Rattle.boundaries.proofs.Words.{entries_at, entries_of, key_at}
use Rattle.boundaries.proofs.ChangedLeaf.{put_stored}
use Rattle.boundaries.proofs.KnownKeys.{headed_header}
use Rattle.boundaries.proofs.Neighbours.{left_entries, left_live, both_changes}
use Rattle.boundaries.proofs.Placing.{entries_from_header, put_entries, put_moves}
use Rattle.boundaries.proofs.Splicing.{length-spliced}
use Rattle.boundaries.proofs.store.Store.splice.Goals as goal
use Rattle.boundaries.proofs.store.Store.splice.Goals.{After-header_mut-node}

-- what is known of the node that was read
splices : (c : After-header_mut-node) → CanSplice c.args.self.now.keys c.header_mut-node.result.now c.args.splice
splices c = rw c.header_mut-node.ensures.header at c.requires.can_splice.splices

read : (c : After-header_mut-node) → entries_at c.args.self.now.nodes c.args.slot ≡ entries_of c.header_mut-node.result.now
read c = entries_from_header c.args.self.now.nodes c.args.slot c.header_mut-node.result.now c.header_mut-node.ensures.header

-- how many entries there are once they are spliced
count : (c : After-header_mut-node) → length (spliced c.args.splice (entries_of c.header_mut-node.result.now))
    ≡ c.args.splice.from + length c.args.splice.new.now
    + (length (entries_of c.header_mut-node.result.now) - c.args.splice.to)
count c = length-spliced (entries_of c.header_mut-node.result.now) c.args.splice.new.now c.args.splice.from c.args.splice.to
    (splices c).ordered (splices c).within

pub overflow_sub-len : goal.overflow_sub-len
overflow_sub-len c =
    let s = (goal.at.overflow_sub-len c).After-header_mut-node in
    omega (arith, (splices s).within, c.len.ensures.len)

pub splice-requires : goal.splice-requires
splice-requires c =
    let s = (goal.at.splice-requires c).After-header_mut-node in
    let can = splices s in record {
      can_splice = can;
      room = omega (arith, count s, c.len.ensures.len, c.len.ensures.most, can.within, c.if-splice-len.true);
    }

pub splice_apart-right-requires : goal.splice_apart-right-requires
splice_apart-right-requires c =
    let s = (goal.at.splice_apart-right-requires c).After-header_mut-node in
    let can = splices s in record {
      can_splice = can;
      many = omega (arith, count s, c.len.ensures.len, c.len.ensures.most, can.within, c.if-splice-len.false);
    }

pub place-requires : goal.place-requires
place-requires c =
    let a = c.args.self.now.nodes in
    let now = c.splice_apart-right.new.self in
    let put = put_moves a (with_header a c.args.slot now) c.args.slot now refl c.requires.can_splice.live
    c.requires.can_splice.sound.keyless in
    record {
      keyless = put.keyless;
      room = omega (arith, c.requires.can_splice.room, put.live, put.spare);
    }

pub returns-then-splice-len : goal.returns-then-splice-len
returns-then-splice-len c =
    let s = (goal.at.returns-then-splice-len c).After-header_mut-node in
    let a = c.args.self.now.nodes in
    let now = c.splice.new.self in
    let can = c.requires.can_splice in
    record {
      entries = put_entries a (with_header a c.args.slot now) c.args.slot now refl ∙ c.splice.ensures.entries
          ∙ ap (spliced c.args.splice) (sym (read s));
      stored = put_stored c.args.self.now c.args.slot now can.live can.sound c.splice.ensures.headed;
      fits = λ few. refl;
      keeps = record { keys = refl; removed = refl };
    }

pub returns : goal.returns
returns c =
    let s = (goal.at.returns c).After-header_mut-node in
    let b = with_header old slot now in
    let changes = both_changes old b w slot c.place.result now refl then.changes can.live can.sound.keyless in
    let here = left_entries old b w slot c.place.result now refl then.changes in
    record {
      entries = rw (here, then.entries, read s) split.entries;
      stored = record {
        live = left_live old b w slot c.place.result now refl then.changes;
        live_added = then.live;
        changes = changes;
        taken = omega (arith, changes.live, changes.spare);
        filled = record {
          left = omega (arith, split.filled.left, ap length here);
          right = omega (arith, split.filled.right, ap length then.entries);
        };
        headed = rw c.place.ensures.keeps.keys (then.headed (key_at c.args.self.now.keys) split.headed.1
            (headed_header _ old b slot now refl can.sound.headed split.headed.0));
      };
      fits = λ few. (let sum = rw (read s) at few in
          absurd (omega (arith, sum, count s, c.len.ensures.len, c.len.ensures.most, (splices s).within, c.if-splice-len.false)));
      keeps = record { keys = c.place.ensures.keeps.keys; removed = c.place.ensures.keeps.removed };
    }
  where
    open c use {args.{self.{now.{nodes as old}}, slot}, place.{new.{self.{nodes as w}}, ensures.{placed as then}}}
    open c use {splice_apart-right.{new.{self as now}, ensures as split}, requires.{can_splice as can}}
