use Rattle.std.proofs.Common.{inl, inr, refl}
use Rattle.boundaries.proofs.Headed.{headed_at}
use Rattle.boundaries.proofs.Placing.{entries_from_header}
use Rattle.boundaries.proofs.lookup.look_at.Goals as goal

pub head_for-head-requires : goal.head_for-head-requires
head_for-head-requires c =
    let header = c.header_ref-leaf.ensures.header in
    let at = rw c.in-Leaf.is at c.requires.leading in
    let read = entries_from_header c.args.store.now.nodes c.in-Leaf.hint.slot c.header_ref-leaf.result.now header in
    let headed = headed_at _ c.args.store.now.nodes c.in-Leaf.hint.slot _ at.headed header in
    let some = rw read at at.some in
    let known = rw read at at.known in
    record {
      headed = headed;
      common_prefix_len = rw c.from.ensures.bound
          (some, (λ e text there is count inside le. ((known e there).1 text is count inside).0 le));
    }

pub returns : goal.returns
returns c = record {
  approach = refl;
  looked = elim c.match-approach.branch [
    | goal.in-Leaf w ↦
        rw (w.in-Leaf.is, w.header_ref-leaf.ensures.header, w.head-is) (rw w.from.ensures.bound at w.head_for-head.ensures.head)
    | goal.in-Clear w ↦ elim w.in-Clear.is [ inl is ↦ rw is tt | inr is ↦ rw is tt ]
    | goal.in-Clear-2 w ↦ elim w.in-Clear.is [ inl is ↦ rw is tt | inr is ↦ rw is tt ]
  ];
}
