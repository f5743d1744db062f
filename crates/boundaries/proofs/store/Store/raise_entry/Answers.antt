use Rattle.std.proofs.Common.{◌≡◌, inl, inr, ◌≤◌, ◌≤ℤ◌, w64, to_z, of_z, Some, length, get_or, set, refl, sym, ap, ◌∙◌, arith, rules}
use Rattle.std.specs.Prelude.{slice_get}
use Rattle.std.proofs.lemmas.List.{length-set}
use Rattle.std.proofs.lemmas.Int.{ints, to_z-of_z}
use Rattle.std.proofs.lemmas.Option.{slice_get-get_or}
use Rattle.arena.specs.Arena.{with_header}
use Rattle.boundaries.specs.declared.entry.NodeEntry.{NodeEntry}
use Rattle.boundaries.specs.Node.{entries_of}
use Rattle.boundaries.specs.Subtree.{entries_at}
use Rattle.boundaries.specs.declared.node.TheConstants.{HALF_FULL}
use Rattle.boundaries.proofs.Headed.{headed_at}
use Rattle.boundaries.proofs.KnownKeys.{headed_header}
use Rattle.boundaries.proofs.LeafChange.{key_heads_stays}
use Rattle.boundaries.proofs.Placing.{entries_from_header, put_entries, put_others}
use Rattle.boundaries.proofs.Sharing.{child_is}
use Rattle.boundaries.proofs.Storing.{entry_put}
use Rattle.boundaries.proofs.store.Store.raise_entry.Goals as goal
use Rattle.boundaries.proofs.store.Store.raise_entry.Goals.{After-index-entries-index}

-- the entry that was read
read_is : (c : After-index-entries-index) → c.index-entries-index.result
    ≡ get_or (entries_at c.args.self.now.nodes c.args.slot) c.args.index c.index-entries-index.result
read_is c =
    let read = entries_from_header c.args.self.now.nodes c.args.slot c.header_ref.result.now c.header_ref.ensures.header in
    rw (read, ← c.entries.ensures.entries) c.index-entries-index.is

-- Where a greater version is there, the entry is made right from the child.
pub returns-then-entry-leaf : goal.returns-then-entry-leaf
returns-then-entry-leaf c = record {
  rebalanced = λ height family describes. c.rebalance_child.ensures.rebalanced height family;
  rest = c.rebalance_child.ensures.rest;
  outcome = inl refl;
}

pub returns : goal.returns
returns c =
    let a = c.args.self.now.nodes in
    let slot = c.args.slot in
    let es = entries_at a slot in
    let can = c.requires.can_raise.rebalance in
    let d = c.index-entries-index.result in
    let d_is = read_is (goal.at.returns c).After-index-entries-index in
    let child = child_is es c.args.index d can.within ∙ ap (λ e. e.child) (sym d_is) in
    let filled : HALF_FULL ≤ length (entries_at a d.child) = rw child at c.requires.can_raise.filled in
    let below : d.version ≤ℤ c.args.leaf.version = grind (arith, ints, c.if-entry-leaf.false) in
    let there : slice_get es c.args.index ≡ Some d = slice_get-get_or es c.args.index d can.within ∙ ap Some (sym d_is) in
    let old = c.header_mut.result.now in
    let here = entries_from_header a slot old c.header_mut.ensures.header in
    let node = c.set.new.self in
    let version : to_z w64 (of_z w64 c.args.leaf.version) ≡ c.args.leaf.version =
    to_z-of_z w64 c.args.leaf.version (search rules) in
    let set_is : entries_of node ≡ set es c.args.index (record d { version = c.args.leaf.version }) =
    rw (version, ← here) at c.set.ensures.entries in
    let now_is = put_entries a (with_header a slot node) slot node refl ∙ set_is in
    let headed = key_heads_stays _ old node c.args.index d (record d { version = to_z w64 (of_z w64 c.args.leaf.version) })
    c.set.ensures.key_heads c.set.ensures.entries (ap (λ e. e.key) (rw here at d_is))
    (headed_at _ a slot old can.sound.headed c.header_mut.ensures.header) in
    record {
      rebalanced = λ height family describes. entry_put d (record d { version = c.args.leaf.version }) node can family
          (ap (λ e. e.child) d_is) refl (λ subtree. describes d there below) filled set_is;
      rest = record {
        few_less = omega (arith, ap length now_is, length-set {A = NodeEntry});
        spare = search rules;
        headed = headed_header _ a (with_header a slot node) slot node refl can.sound.headed headed;
        keeps = record { keys = refl; removed = refl };
      };
      outcome = inr (
        refl,
        record {
          entry = λ e is. let same : d ≡ e = cc (there, is) in rw (← same) now_is;
          others = put_others a _ slot node refl;
        },
      );
    }
