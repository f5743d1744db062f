use Rattle.std.proofs.lemmas.List.{map-id}
use Rattle.boundaries.specs.declared.approach.Rest.TheVariants as rest
use Rattle.boundaries.specs.declared.lookup.Look.{Look}
use Rattle.boundaries.proofs.Approaches.{leading_of}
use Rattle.boundaries.proofs.InTurn.{AllZip-through}
use Rattle.boundaries.proofs.lookup.answer_each.Goals as goal

pub look_each-looks-requires : goal.look_each-looks-requires
look_each-looks-requires c =
    let approaches = rw (← map-id c.approach_each-approaches.result.items) at c.approach_each-approaches.ensures.approaches in
    let leading = AllZip-through _ _ (λ approach. approach)
    (λ q approach. leading_of c.args.store.now q c.args.root.now.height c.args.root.now.slot rest.Clear approach) _ _ approaches in
    record {
      few = c.requires.few;
      leading = rw c.as_slice.ensures.value leading;
    }

pub answer_looks-requires : goal.answer_looks-requires
answer_looks-requires c =
    let looks = c.look_each-looks.ensures in
    let all = rw (← c.as_slice.ensures.value, ← looks.approaches) at c.approach_each-approaches.ensures.approaches in
    let approaches = AllZip-through _ _ (λ (l : Look). l.approach) (λ q l approach. approach) _ _ all in
    record {
      few = c.requires.few;
      asked = c.requires.asked;
      approaches = rw c.as_slice-2.ensures.value approaches;
      looked = rw c.as_slice-2.ensures.value looks.looked;
    }
