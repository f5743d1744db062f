use Rattle.std.proofs.Common.{◌≡◌, ◌<◌, ◌∷◌, refl, drop-cons, length, drop, sym, ◌∙◌, rules, w64, arith}
use Rattle.std.proofs.lemmas.Int.{to_z-of_z}
use Rattle.boundaries.proofs.Words.{entries_at}
use Rattle.boundaries.proofs.Placing.{entries_from_header}
use Rattle.boundaries.proofs.Describing.{describes_items}
use Rattle.boundaries.proofs.Headed.{known_at}
use Rattle.boundaries.proofs.store.Store.entry_for.Goals as goal

pub returns : goal.returns
returns c =
    let here = entries_from_header a c.args.child _ c.header_ref-node.ensures.header in
    let same : entries_at a c.args.child ≡ xs = here ∙ sym c.entries.ensures.entries in
    let some : 0 < length xs = rw (← same) c.requires.some in
    let first = drop-cons xs 0 e some in
    let parts : xs ≡ e ∷ drop 1 xs = cc (c.index-entries-0.is) in
    let greatest = rw (← c.entries.ensures.entries, parts) at c.greatest.ensures.greatest in
    record {
      child = refl;
      describes = λ height least h. describes_items a least height c.args.child _ e (drop 1 xs) (same ∙ parts) (cc)
          (rw (to_z-of_z w64 c.greatest.result (search rules)) greatest) h;
      known = λ bytes headed. rw (← c.index-entries-0.is)
          ((rw (same ∙ parts) at (known_at bytes a c.args.child headed)) 0 e.key (omega arith));
    }
  where
    open c use {args.{self.{now.{nodes as a}}}, index-entries-0.{result as e}, entries.{result.{now as xs}}}
