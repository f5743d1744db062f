-- Items of which a run is swept of expired items: what is said of a leaf's is said of all of them.
use Rattle.std.proofs.Common.{ℕ, ℤ, List, [], ◌∷◌, ◌++◌, None, sym, ◌∙◌, ap, append_assoc}
use Rattle.boundaries.proofs.Words.{KeyBound, Removal, Item, Store, GivesUnexpired, is_below, IsChangedWithin}
use Rattle.boundaries.proofs.callers.Partitions.{filter_around}
use Rattle.boundaries.proofs.Keys.{following-parts, first_key-append}

-- What becomes of all items where those of one leaf are swept of expired items.
pub unexpired_all : {bound : KeyBound} {count : ℕ} {edge before : ℤ} {removal : Removal} {old new : Store} {was now : List Item}
    → IsChangedWithin (is_below old.keys bound) (GivesUnexpired bound count edge before removal old new) None was now
    → GivesUnexpired bound count edge before removal old new None was now
unexpired_all {bound} {count} {edge} {before} {removal} {old} {new} {was} {now} c =
    let p = is_below old.keys bound in
    let h = c.gives in
    let pass = filter_around (λ (x : Item). p x.key) c.before c.leaf c.following c.items_below c.failing in
    rw (c.was_is, c.now_is) record {
      front = c.before ++ h.front;
      first = h.first;
      looked = h.looked;
      rest = h.rest ++ c.following;
      front_is = cc (pass, h.front_is, append_assoc c.before h.front (h.first ∷ []));
      looked_is = cc (
        following-parts p c.before c.leaf c.following c.items_below c.failing,
        h.looked_is,
        append_assoc h.looked h.rest c.following,
      );
      looked_at = h.looked_at;
      some = h.some;
      few = h.few;
      now_is = ap (λ xs. c.before ++ (xs ++ c.following)) h.now_is ∙ (simp append_assoc);
      run_is = h.run_is;
      last = h.last;
      next_is = h.next_is ∙ sym (first_key-append None h.rest c.following);
      keys = h.keys;
    }
