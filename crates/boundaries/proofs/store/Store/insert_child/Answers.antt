use Rattle.std.proofs.Common.{◌≡◌, ◌<◌, ◌∷◌, [], List, IfSome, length, get_or, take, sym, ap, ◌∙◌, arith}
use Rattle.std.proofs.lemmas.List.Elements.{All-cons, All-nil}
use Rattle.boundaries.specs.Heads.{AreHeadsBeside}
use Rattle.boundaries.specs.Node.{IsHeaded}
use Rattle.boundaries.proofs.Words.{IsKnown, NodeEntry, child_at, entries_at, entries_of, key_at, key_heads_of}
use Rattle.boundaries.proofs.Headed.{headed_at}
use Rattle.boundaries.proofs.Placing.{entries_from_header}
use Rattle.boundaries.proofs.Sharing.{child_is}
use Rattle.boundaries.proofs.store.Store.insert_child.Goals as goal
use Rattle.boundaries.proofs.store.Store.insert_child.Goals.{After-header_ref-node, Joined-first, in-Some-Some, in_default, in_default-2}

-- the node that was read, and its child
module _ (c : After-header_ref-node) where
  read : entries_at c.args.self.now.nodes c.args.slot ≡ entries_of c.header_ref-node.result.now
  read = entries_from_header c.args.self.now.nodes c.args.slot c.header_ref-node.result.now c.header_ref-node.ensures.header

  within : c.args.index < length (entries_of c.header_ref-node.result.now)
  within = omega (arith, c.requires.can_insert.within, ap length read)

  headed : IsHeaded c.args.self.now.keys c.header_ref-node.result.now
  headed = headed_at _ c.args.self.now.nodes c.args.slot c.header_ref-node.result.now c.requires.can_insert.sound.headed
      c.header_ref-node.ensures.header

  child : (get_or c.entries.result.now c.args.index c.index-entries-index.result).child
      ≡ child_at (entries_at c.args.self.now.nodes c.args.slot) c.args.index
  child =
      let first = entries_from_header c.args.self.now.nodes c.args.slot c.header_ref.result.now c.header_ref.ensures.header in
      ap (λ (l : List NodeEntry). (get_or l c.args.index c.index-entries-index.result).child) (c.entries.ensures.entries ∙ sym first)
      ∙ sym (child_is _ c.args.index c.index-entries-index.result c.requires.can_insert.within)

  first_known : IsKnown (key_at c.args.self.now.keys) c.entry_for.result.key
  first_known = c.entry_for.ensures.known _ c.requires.can_insert.sound.headed

  second_known : IsKnown (key_at c.args.self.now.keys) c.entry_for-2.result.key
  second_known = c.entry_for-2.ensures.known _ c.requires.can_insert.sound.headed

pub head_of-first-requires : goal.head_of-first-requires
head_of-first-requires c =
    let s = (goal.at.head_of-first-requires c).After-header_ref-node in
    record {
      headed = headed s;
      within = within s;
      known = first_known s;
    }

pub head_of-second-requires : goal.head_of-second-requires
head_of-second-requires c =
    let s = (goal.at.head_of-second-requires c).After-header_ref-node in
    record {
      headed = headed s;
      within = within s;
      known = second_known s;
    }

-- the heads of both keys, where both begin as all others do
beside : (c : Joined-first) → IfSome c.match-first.heads
    (λ heads. AreHeadsBeside (key_at c.args.self.now.keys) (key_heads_of c.header_ref-node.result.now)
    (c.entry_for.result.key ∷ c.entry_for-2.result.key ∷ []) (take 2 heads))
beside c = elim c.match-first.branch [
  | in-Some-Some w ↦ rw w.heads-is
      (rw w.in-Some-Some.is-0 at c.head_of-first.ensures.head, (rw w.in-Some-Some.is-1 at c.head_of-second.ensures.head, tt))
  | in_default w ↦ rw w.heads-is tt
  | in_default-2 w ↦ rw w.heads-is tt
]

pub splice-requires : goal.splice-requires
splice-requires c =
    let s = (goal.at.splice-requires c).After-header_ref-node in
    let can = c.requires.can_insert in
    let t = c.entry_for.result in
    let u = c.entry_for-2.result in
    let Known = IsKnown (key_at c.args.self.now.keys) in
    let known = All-cons Known t.key (u.key ∷ []) (first_known s) (All-cons Known u.key [] (second_known s) (All-nil Known)) in record {
      can_splice = record {
        sound = can.sound;
        live = can.live;
        room = can.room;
        splices = rw c.header_ref-node.ensures.header record {
          ordered = omega (arith, c.new.ensures.run.0, c.new.ensures.run.1);
          within = omega (arith, c.new.ensures.run.1, within s);
          headed = headed s;
          known = rw c.new.ensures.new known;
          beside = rw (c.new.ensures.new, c.new.ensures.heads) (beside (goal.at.splice-requires c).Joined-first);
        };
      };
    }

pub returns : goal.returns
returns c =
    let s = (goal.at.returns c).After-header_ref-node in
    record {
      linked = record {
        first = c.entry_for.result;
        second = c.entry_for-2.result;
        entries = rw (c.new.ensures.run.0, c.new.ensures.run.1, c.new.ensures.new) at c.splice.ensures.entries;
        first_child = c.entry_for.ensures.child ∙ child s;
        first_describes = rw (child s) at c.entry_for.ensures.describes;
        second_child = c.entry_for-2.ensures.child;
        second_describes = c.entry_for-2.ensures.describes;
      };
      stored = c.splice.ensures.stored;
      keeps = c.splice.ensures.keeps;
    }
