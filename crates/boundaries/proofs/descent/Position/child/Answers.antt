use Rattle.std.proofs.Common.{refl, ap}
use Rattle.std.proofs.lemmas.Option.{get_or_from_slice_get}
use Rattle.boundaries.proofs.Words.{NodeEntry}
use Rattle.boundaries.proofs.descent.Position.child.Goals as goal

pub returns : goal.returns
returns c = record {
  child = record {
    slot = λ e there.
        let same = get_or_from_slice_get es i e d (rw c.entries-entries.ensures.entries there) in
        ap (λ (x : NodeEntry). x.child) same;
    known = refl;
    following = rw c.entries-entries.ensures.entries at c.key_at.ensures.key;
  };
}
  where
    open c use {entries-entries.{result.{now as es}}, args.{step.{index as i}}, index-entries-step.{result as d}}
