-- Items of which those of one leaf are written over: what is said of the leaf's is said of all of them.
use Rattle.std.proofs.Common.{◌≡◌, ◌≢◌, ℕ, ℤ, inl, inr, Bool, true, false, not, if◌then◌else◌, List, [], ◌∷◌, ◌++◌, Option, None, Some}
use Rattle.std.proofs.Common.{ap, map, unwrap_or, All, refl, sym, ◌∙◌, append_assoc, append-nil}
use Rattle.std.proofs.lemmas.List.{same_from_push}
use Rattle.std.proofs.lemmas.List.Elements.{All-nil, All-filter, filter-append}
use Rattle.boundaries.specs.declared.overwrite.Overwrite.{Overwrite}
use Rattle.boundaries.specs.declared.store.Store.{Store}
use Rattle.boundaries.specs.Bound.{bytes_at}
use Rattle.boundaries.specs.Item.{Item, key_of}
use Rattle.boundaries.specs.Items.{IsLast}
use Rattle.boundaries.specs.Overwrite.{IsOverwritten, GivesEntire, GivesPart, before_end, before_start, first_is_below, up_to_end}
use Rattle.boundaries.specs.Path.{IsPartitioned, items_below, items_not_below, between, first_key}
use Rattle.boundaries.specs.Store.{PutsKeys}
use Rattle.boundaries.specs.Walk.{IsChangedWithin}
use Rattle.boundaries.proofs.callers.Partitions.{All-front, filter_around, none_pass, none_passed, not_both, IsPartitioned-parts}
use Rattle.boundaries.proofs.FromLast.{none_of_fewer}
use Rattle.boundaries.proofs.Inserting.{ended_some}
use Rattle.boundaries.proofs.Keys.{following-parts, first_key-append}
use Rattle.boundaries.proofs.Nested.{start_before_end}
use Rattle.boundaries.proofs.Overwriting.{between_is}

-- a range of all items is written over
pub record Overwrites (new : Overwrite) (old store : Store) (was now : List Item) : Type 0 where
  pub first : ℕ
  pub second : ℕ
  pub ended : Bool
  pub puts : PutsKeys old.keys store.keys new.start.now new.end.now first (if ended then None else Some second)
  pub removed : store.removed.items
      ≡ map key_of (between (Some (before_start old.keys new)) (Some (before_end old.keys new)) was)
  pub ended_is : ended ≡ first_is_below (up_to_end old.keys new) (first_key None (items_not_below (before_end old.keys new) was))
  pub written : IsOverwritten (before_start old.keys new) (before_end old.keys new) (record { key = first; version = new.version })
      second new.at_end ended was now

-- the last items of a range are removed, not the first of all
pub record Clears (new : Overwrite) (at_end : ℤ) (old store : Store) (was now : List Item) : Type 0 where
  pub kept : List Item
  pub run : List Item
  pub last : Item
  pub some : run ≢ []
  pub run_is : between (Some (before_start old.keys new)) (Some (before_end old.keys new)) was ≡ kept ++ run
  pub removed : store.removed.items ≡ map key_of run
  pub now_is : now ≡ items_below (before_start old.keys new) was ++ (kept ++ items_not_below (before_end old.keys new) was)
  pub first : items_below (before_start old.keys new) was ++ kept ≢ []
  pub last_is : IsLast last run
  pub at_end_is : at_end ≡ unwrap_or new.at_end last.version
  pub keys : store.keys ≡ old.keys

-- Items of which those of one leaf are changed: all before them are below the second bound, and none behind them is.
module _ (p q : ℕ → Bool) (nested : (key : ℕ) → p key ≡ true → q key ≡ true)
    {Gives : Option ℕ → List Item → List Item → Type 0} {was now : List Item}
    (c : IsChangedWithin q Gives None was now) where
  open c use {before as front, leaf as part, following as back, items_below as pass, failing as fail}

  passing_too : items_below q was ≡ front ++ items_below q part
  passing_too = ap (items_below q) c.was_is ∙ filter_around (λ (x : Item). q x.key) front part back pass fail

  after_too : items_not_below q was ≡ items_not_below q part ++ back
  after_too = ap (items_not_below q) c.was_is ∙ following-parts q front part back pass fail

  fail_first : All (λ x. p x.key ≡ false) back
  fail_first = none_of_fewer (λ (x : Item). p x.key) (λ (x : Item). q x.key) (λ x. nested x.key) back fail

  -- One of the leaf's is below the second bound.
  pub some_here : items_below q part ≢ []
  some_here none =
      not_both (q c.found.1.key) c.found.4
      (rw c.found.3 at (none_passed (λ (x : Item). q x.key) part none c.found.0 c.found.1 c.found.2))

  -- All before the leaf's are below the first bound too.
  module _ (opens : All (λ x. p x.key ≡ true) front) where
    passing_part : items_below p was ≡ front ++ items_below p part
    passing_part = ap (items_below p) c.was_is ∙ filter_around (λ (x : Item). p x.key) front part back opens fail_first

    between_part : between (Some p) (Some q) was ≡ between (Some p) (Some q) part
    between_part =
        let rest = ap (items_not_below p) c.was_is ∙ following-parts p front part back opens fail_first in
        let none = (none_pass (λ (x : Item). q x.key) back fail).0 in
        rw (between_is p q was, between_is p q part, rest, filter-append, none) (append-nil (items_below q (items_not_below p part)))

    -- Where those of the leaf are written over, all items are.
    written_part : (first : Item) (second : ℕ) (given : Option ℤ) (is_ended : Bool)
        → IsOverwritten p q first second given is_ended part c.changed → IsOverwritten p q first second given is_ended was now
    written_part first second given is_ended written last last_is =
        let end = ended_some (items_below q part) some_here in
        let ends : (front ++ end.front) ++ end.last ∷ [] ≡ last_is.0 ++ last ∷ [] =
        cc (append_assoc front end.front (end.last ∷ []), end.is, passing_too, last_is.1) in
        let same = (same_from_push (front ++ end.front) last_is.0 end.last last ends).1 in
        c.now_is ∙ (rw (written end.last (end.front, end.is), passing_part, after_too, ← same) (simp append_assoc))

  -- All before the leaf's are below the first bound, where one of the leaf's is.
  opens_front : IsPartitioned (λ x. p x.key) was → items_below p part ≢ [] → All (λ x. p x.key ≡ true) front
  opens_front partitioned some =
      let here : Item → Bool = λ x. p x.key in
      elim (IsPartitioned-parts here front (part ++ back) (rw c.was_is at partitioned)).2 [
        | inl all ↦ all
        | inr none ↦ absurd (some (none_pass here part (All-front (λ (x : Item). p x.key ≡ false) part back none)).0)
      ]

module _ (new : Overwrite) (old store : Store) (was now : List Item)
    (from : IsPartitioned (λ x. before_start old.keys new x.key) was) where
  abbrev starts : ℕ → Bool
  starts = before_start old.keys new

  abbrev ends : ℕ → Bool
  ends = before_end old.keys new

  -- Where the range of the leaf's items is written over, that of all items is: before an empty key there is no item.
  pub overwrites : IsChangedWithin ends (GivesEntire new old store) None was now
      → ((front : List Item) (x : Item) (rest : List Item) → was ≡ front ++ x ∷ rest → bytes_at old.keys x.key ≡ [] → front ≡ [])
      → Overwrites new old store was now
  overwrites c alone =
      let nested = start_before_end old.keys new in
      let opens : All (λ x. starts x.key ≡ true) c.before =
      elim c.gives.there [
        | inl one ↦ opens_front starts ends nested c from one
        | inr is ↦
            let all = c.was_is ∙ ap (λ xs. c.before ++ (xs ++ c.following)) is.2 in
            rw (alone c.before is.0 (is.1 ++ c.following) all is.3) (All-nil (λ (x : Item). starts x.key ≡ true))
      ] in
      record {
        first = c.gives.first;
        second = c.gives.second;
        ended = c.gives.ended;
        puts = c.gives.puts;
        removed = c.gives.run_is ∙ ap (map key_of) (sym (between_part starts ends nested c opens));
        ended_is = c.gives.ended_is
            ∙ ap (first_is_below (up_to_end old.keys new)) (sym (ap (first_key None) (after_too starts ends nested c)
            ∙ first_key-append None (items_not_below ends c.leaf) c.following));
        written = written_part starts ends nested c opens (record { key = c.gives.first; version = new.version }) c.gives.second
            new.at_end c.gives.ended c.gives.written;
      }

  -- Where the leaf has none that is below the first bound, those that are below the second are removed.
  pub clears : (at_end : ℤ) → IsChangedWithin ends (λ _. GivesPart new at_end old store) None was now
      → ((x : Item) (xs : List Item) → was ≡ x ∷ xs → bytes_at old.keys x.key ≡ []) → Clears new at_end old store was now
  clears at_end c begins =
      let nested = start_before_end old.keys new in
      let p = starts in
      let q = ends in
      let here : Item → Bool = λ x. starts x.key in
      let front = c.before in
      let part = c.leaf in
      let back = c.following in
      let gives = c.gives in
      let front_is = (IsPartitioned-parts here front (part ++ back) (rw c.was_is at from)).0 in
      let kept = items_not_below starts front in
      let fails = none_pass here part (none_passed here part gives.none) in
      let fails_back = none_pass here back (fail_first starts ends nested c) in
      let filled : front ≢ [] = λ none. no_first begins none in
      let stays = All-filter (λ (x : Item). not (starts x.key)) (λ (x : Item). ends x.key ≡ true) front c.items_below in
      let passing_all : items_below starts was ≡ items_below starts front =
      ap (items_below starts) c.was_is ∙ (rw (filter-append, filter-append, gives.none, fails_back.0) (append-nil _)) in
      let rest : items_not_below starts was ≡ kept ++ (part ++ back) =
      ap (items_not_below starts) c.was_is ∙ (rw (filter-append, filter-append, fails.1, fails_back.1)) in
      record {
        kept = kept;
        run = items_below ends part;
        last = gives.last;
        some = some_here starts ends nested c;
        run_is = rw (between_is starts ends was, rest)
            (filter_around (λ (x : Item). ends x.key) kept part back stays c.failing);
        removed = gives.run_is;
        now_is = cc (
          c.now_is,
          gives.rest,
          after_too starts ends nested c,
          passing_all,
          append_assoc (items_below starts front) kept (items_not_below ends was),
        );
        first = λ none. filled (front_is ∙ (rw passing_all at none));
        last_is = gives.last_is;
        at_end_is = gives.at_end_is;
        keys = gives.keys;
      }
    where
      -- the leaf's first item isn't that with the empty key
      no_first : ((x : Item) (xs : List Item) → was ≡ x ∷ xs → bytes_at old.keys x.key ≡ []) → c.before ≢ []
      no_first begins none = from_leaf c.leaf refl
        where
          from_leaf : (xs : List Item) → c.leaf ≡ xs → ⊥
          from_leaf [] e = some_here starts ends (start_before_end old.keys new) c (ap (items_below ends) e)
          from_leaf (x ∷ xs) e =
              c.gives.filled x xs e (begins x (xs ++ c.following)
              (c.was_is ∙ ap (λ ys. ys ++ (c.leaf ++ c.following)) none ∙ ap (λ ys. ys ++ c.following) e))
