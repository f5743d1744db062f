use Rattle.std.proofs.Common.{arith, add-one, rules, ◌≡◌, ◌≤◌, List, [], ◌∷◌, ◌++◌, ◌∙◌, ap, refl, sym, length}
use Rattle.std.specs.List.{All}
use Rattle.std.proofs.lemmas.List.{append-nil}
use Rattle.std.proofs.lemmas.List.Elements.{All-nil, All-cons}
use Rattle.arena.specs.Arena.{key_at}
use Rattle.boundaries.specs.declared.entry.NodeEntry.{NodeEntry}
use Rattle.boundaries.specs.declared.node.TheConstants.{FAN_OUT, HALF_FULL}
use Rattle.boundaries.specs.Heads.{IsKnown}
use Rattle.boundaries.specs.Node.{entries_of, keys_of}
use Rattle.boundaries.specs.Splice.{CanSplice, spliced}
use Rattle.boundaries.specs.Subtree.{slots_in}
use Rattle.boundaries.specs.Children.{slots_of}
use Rattle.boundaries.proofs.Changing.{moves_if_changes}
use Rattle.boundaries.proofs.Replacing.{both_right}
use Rattle.boundaries.proofs.Rooting.{grown}
use Rattle.boundaries.proofs.tree.grow.Goals as goal

pub compute_heads-requires : goal.compute_heads-requires
compute_heads-requires c =
    let bytes = key_at c.args.store.now.keys in
    let known = c.entry_for.ensures.known bytes c.requires.can_grow.sound.headed in
    let Known = IsKnown bytes in
    let all : All Known (c.entry_for.result.key ∷ []) = All-cons Known c.entry_for.result.key [] known (All-nil Known) in
    let them : All Known (keys_of (entries_of c.of-node.result)) = rw c.of-node.ensures.entries all in
    search (rules, them)

pub splice-requires : goal.splice-requires
splice-requires c =
    let keys = c.args.store.now.keys in
    let bytes = key_at keys in
    let node = c.compute_heads.new.self in
    let one : length (entries_of node) ≡ 1 = ap length (c.compute_heads.ensures.entries ∙ c.of-node.ensures.entries) in
    let known = c.entry_for-2.ensures.known bytes c.requires.can_grow.sound.headed in
    let Known = IsKnown bytes in
    let all : All Known (c.entry_for-2.result.key ∷ []) = All-cons Known c.entry_for-2.result.key [] known (All-nil Known) in
    let can : CanSplice keys node c.new.result = record {
      ordered = rw (c.new.ensures.run.0, c.new.ensures.run.1) (omega arith);
      within = rw c.new.ensures.run.1 (omega (arith, one));
      headed = c.compute_heads.ensures.headed;
      known = rw c.new.ensures.new all;
      beside = rw c.new.ensures.heads tt;
    } in
    let room : length (spliced c.new.result (entries_of node)) ≤ FAN_OUT =
    rw (c.new.ensures.run.0, c.new.ensures.run.1, c.new.ensures.new, c.compute_heads.ensures.entries, c.of-node.ensures.entries) (omega arith) in
    search (rules, can, room)

pub returns : goal.returns
returns c =
    let a = c.args.store.now.nodes in
    let h = c.args.root.height in
    let first = c.entry_for in
    let second = c.entry_for-2 in
    let can = c.requires.can_grow in
    let es : List NodeEntry = first.result ∷ second.result ∷ [] in
    let node : entries_of c.splice.new.self ≡ es =
    c.splice.ensures.entries
    ∙ rw (c.new.ensures.run.0, c.new.ensures.run.1, c.new.ensures.new, c.compute_heads.ensures.entries, c.of-node.ensures.entries) refl in
    let right = both_right a HALF_FULL h c.args.root.slot c.args.added first.result second.result first.ensures.child
    second.ensures.child can.first can.second (can.filled.left, can.filled.right) first.ensures.describes second.ensures.describes in
    let slots : slots_of a h es ≡ slots_in a h c.args.root.slot ++ slots_in a h c.args.added =
    simp (first.ensures.child, second.ensures.child, append-nil) in
    let placed = c.place.ensures.placed in
    let moves = moves_if_changes _ _ [] (c.place.result ∷ []) placed.changes in
    let root = grown a c.place.new.self.nodes h c.place.result es moves placed.live (placed.entries ∙ node)
    (omega arith) right (rw slots can.distinct) (can.linked ∙ ap length (sym slots)) in
    record {
      items = rw add-one (simp (first.ensures.child, second.ensures.child, append-nil) at root.0);
      tree = record {
        rooted = rw add-one root.1;
        spare = placed.changes.spare;
        headed = rw c.place.ensures.keeps.keys (placed.headed (key_at c.args.store.now.keys) c.splice.ensures.headed can.sound.headed);
        raised_is = tt;
      };
      keeps = c.place.ensures.keeps;
    }
