-- What becomes of a run of items that is swept of expired items. This project's own.
use Rattle.std.specs.Prelude.{◌≡◌, ◌≤◌, ◌++◌, ◌∷◌, ℕ, ℤ, List, [], length, map, Option}
use Rattle.std.proofs.Common.{ap, ◌∙◌}
use Rattle.boundaries.specs.declared.expiry.Removal.{Removal}
use Rattle.boundaries.specs.declared.key_bound.KeyBound.{KeyBound}
use Rattle.boundaries.specs.declared.store.Store.{Store}
use Rattle.boundaries.specs.Bound.{is_below}
use Rattle.boundaries.specs.Item.{Item}
use Rattle.boundaries.specs.Items.{IsLast, unexpired_items, expired_items}
use Rattle.boundaries.specs.Path.{items_below, items_not_below, first_key}
use Rattle.boundaries.specs.Rebalancing.{KeepsKeys}

-- A run of items was looked at that begins with the last one below the bound. Those that say nothing at or above the edge are
-- gone: each whose version and predecessor's version are below it. `before` is the version of the item before the run, and `next`
-- the key of the first item after all of these.
pub record GivesUnexpired (bound : KeyBound) (count : ℕ) (edge before : ℤ) (removal : Removal) (old new : Store) (next : Option ℕ)
    (was now : List Item) : Type 0 where
  pub front : List Item
  pub first : Item
  pub looked : List Item
  pub rest : List Item
  pub front_is : items_below (is_below old.keys bound) was ≡ front ++ first ∷ []
  pub looked_is : first ∷ items_not_below (is_below old.keys bound) was ≡ looked ++ rest
  pub looked_at : length looked ≡ removal.looked_at
  pub some : 1 ≤ removal.looked_at
  pub few : removal.looked_at ≤ count
  pub now_is : now ≡ front ++ (unexpired_items edge before looked ++ rest)
  pub run_is : new.removed.items ≡ map (λ x. x.key) (expired_items edge before looked)
  pub last : IsLast removal.last (map (λ x. x.version) looked)
  pub next_is : removal.next ≡ first_key next rest
  pub keys : new.keys ≡ old.keys

-- What is given goes by the keys, and by what is removed.
pub unexpired_kept : (bound : KeyBound) (count : ℕ) (edge before : ℤ) (removal : Removal) (old between new : Store) (next : Option ℕ)
    (was now : List Item) → KeepsKeys between new → GivesUnexpired bound count edge before removal old between next was now
    → GivesUnexpired bound count edge before removal old new next was now
unexpired_kept bound count edge before removal old between new next was now keeps given = record {
  front = given.front;
  first = given.first;
  looked = given.looked;
  rest = given.rest;
  front_is = given.front_is;
  looked_is = given.looked_is;
  looked_at = given.looked_at;
  some = given.some;
  few = given.few;
  now_is = given.now_is;
  run_is = ap (λ removed. removed.items) keeps.removed ∙ given.run_is;
  last = given.last;
  next_is = given.next_is;
  keys = keeps.keys ∙ given.keys;
}
