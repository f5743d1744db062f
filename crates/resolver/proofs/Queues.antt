-- Queues of answers, and the lists of answers that they stand for.
use Rattle.std.proofs.Common.{
  ◌≡◌,
  ℕ,
  ◌+◌,
  ◌-◌,
  ◌^◌,
  ◌<◌,
  ◌≤◌,
  List,
  [],
  ◌∷◌,
  ◌++◌,
  length,
  map,
  set,
  get_or,
  drop,
  sym,
  ap,
  ◌∙◌,
  arith,
}
use Rattle.std.specs.VecDeque.{deque_capacity, deque_len}
use Rattle.std.specs.declared.collections.VecDeque.{VecDeque}
use Rattle.std.proofs.Math.Seq.{map-set_same}
use Rattle.std.proofs.lemmas.List.{
  map-set,
  get_or-map,
  get_or-set_same,
  length-map,
  length-append,
  length-drop,
  length-set,
}
use Rattle.std.proofs.lemmas.List.Sums.{sum_by-set}
use Rattle.keyspace.specs.declared.answer.Answer.{Answer}
use Rattle.limits.specs.declared.settings.TheConstants.{MAX_PROXIES}
use Rattle.resolver.specs.Owed.{
  owed_to,
  owed_also,
  given_oldest,
  owed_count,
  items_of,
  room_of,
  OwedView,
  HasRoomFor,
}

-- how many are owed after a proxy's answers give way to others
owed_count-set : (owed : List (List Answer)) (proxy : ℕ) (answers : List Answer) → proxy < length owed
    → owed_count (set owed proxy answers) + length (owed_to proxy owed) ≡ owed_count owed + length answers
owed_count-set owed proxy answers inside = sum_by-set length owed proxy answers [] inside

pub owed_count-also : (owed : List (List Answer)) (proxy : ℕ) (answer : Answer) → proxy < length owed
    → owed_count (owed_also proxy answer owed) ≡ owed_count owed + 1
owed_count-also owed proxy answer inside =
    let both = owed_count-set owed proxy (owed_to proxy owed ++ answer ∷ []) inside in
    let more = length-append (owed_to proxy owed) (answer ∷ []) in
    omega (arith, both, more)

pub owed_count-given : (owed : List (List Answer)) (proxy : ℕ) → proxy < length owed
    → owed_count (given_oldest proxy owed) + length (owed_to proxy owed)
    ≡ owed_count owed + (length (owed_to proxy owed) - 1)
owed_count-given owed proxy inside =
    owed_count-set owed proxy (drop 1 (owed_to proxy owed)) inside
    ∙ ap (λ n. owed_count owed + n) (length-drop 1 (owed_to proxy owed))

module _ {Z : Type 0} (queues : List (VecDeque Answer Z)) where
  -- what these queues hold
  abbrev pub answers_of : List (List Answer)
  answers_of = map (items_of {Z = Z}) queues

  -- and how many more they take
  abbrev pub view_of : OwedView
  view_of = record { answers = answers_of; room = map (room_of {Z = Z}) queues }

-- a queue is written at the place of a proxy
module _ {Z : Type 0} (queues : List (VecDeque Answer Z)) (proxy : ℕ)
    (known : proxy < length (answers_of queues)) where
  inside : proxy < length queues
  inside = omega (arith, length-map queues (items_of {Z = Z}))

  still_inside : (queue : VecDeque Answer Z) → proxy < length (set queues proxy queue)
  still_inside queue = omega (arith, inside, length-set queues proxy queue)

  -- what is owed to the proxy stands in its queue
  pub owed_to-queue : (queue : VecDeque Answer Z) → queue ≡ get_or queues proxy queue
      → owed_to proxy (answers_of queues) ≡ queue.items
  owed_to-queue queue is =
      get_or-map (items_of {Z = Z}) queues proxy queue [] inside ∙ ap (items_of {Z = Z}) (sym is)

  -- and so in one written there
  pub owed_to-written : (queue : VecDeque Answer Z)
      → owed_to proxy (answers_of (set queues proxy queue)) ≡ queue.items
  owed_to-written queue =
      get_or-map (items_of {Z = Z}) (set queues proxy queue) proxy queue [] (still_inside queue)
      ∙ ap (items_of {Z = Z}) (get_or-set_same queues proxy queue queue inside)

  -- a queue with the same answers changes nothing
  pub answers_of-same : (old new : VecDeque Answer Z) → old ≡ get_or queues proxy old → new.items ≡ old.items
      → answers_of (set queues proxy new) ≡ answers_of queues
  answers_of-same old new is same =
      map-set_same (items_of {Z = Z}) queues proxy new old (same ∙ ap (items_of {Z = Z}) is)

  -- one answer more at the back
  pub answers_of-also : (old new : VecDeque Answer Z) (answer : Answer) → old ≡ get_or queues proxy old
      → new.items ≡ old.items ++ answer ∷ []
      → answers_of (set queues proxy new) ≡ owed_also proxy answer (answers_of queues)
  answers_of-also old new answer is more =
      map-set (items_of {Z = Z}) queues proxy new
      ∙ ap (set (answers_of queues) proxy)
      (more ∙ ap (λ answers. answers ++ answer ∷ []) (sym (owed_to-queue old is)))

  -- the first answer is gone, if there is one
  pub answers_of-given : (old new : VecDeque Answer Z) → old ≡ get_or queues proxy old
      → new.items ≡ drop 1 old.items
      → answers_of (set queues proxy new) ≡ given_oldest proxy (answers_of queues)
  answers_of-given old new is rest =
      map-set (items_of {Z = Z}) queues proxy new
      ∙ ap (set (answers_of queues) proxy) (rest ∙ ap (drop 1) (sym (owed_to-queue old is)))

  -- a queue with room for one more
  pub HasRoomFor-written : (queue : VecDeque Answer Z) → deque_len queue + 1 ≤ deque_capacity queue
      → owed_count (answers_of (set queues proxy queue)) + 1 + MAX_PROXIES < 2 ^ 64
      → HasRoomFor proxy (view_of (set queues proxy queue))
  HasRoomFor-written queue room few =
      let at = get_or-map (room_of {Z = Z}) (set queues proxy queue) proxy queue 0 (still_inside queue) in
      let is = ap (room_of {Z = Z}) (get_or-set_same queues proxy queue queue inside) in
      record { line = omega arith; all = few }
