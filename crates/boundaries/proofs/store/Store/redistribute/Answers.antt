use Rattle.std.proofs.Common.{◌≡◌, ℕ, ◌+◌, ◌-◌, ◌/◌, ◌<◌, ◌≤◌, List, [], ◌∷◌, ◌++◌, Some, append-nil, append_assoc, length, length-append, length-drop, length-take, take, drop, take-append-drop, take_all, refl, sym, ap, ◌∙◌, arith}
use Rattle.std.proofs.lemmas.List.{drop_all}
use Rattle.boundaries.specs.Splice.{AreHalfFull}
use Rattle.boundaries.specs.Rebalancing.{AreTwo}
use Rattle.boundaries.proofs.Words.{Arena, FAN_OUT, Store, key_at, AllAreHeads, AreHeads, NodeEntry, IsLive, KeyBytes, Node, all_heads_of, entries_at, entries_of, header_at, key_heads_of, record_at, with_header}
use Rattle.boundaries.proofs.Frames.{entries_same, live_same}
use Rattle.boundaries.proofs.Changing.{Moves, changes_if_moves, moves_trans}
use Rattle.boundaries.proofs.Placing.{entries_from_header, moves_first, moves_second, put_entries, put_live, put_others, put_moves}
use Rattle.boundaries.proofs.Headed.{headed_at}
use Rattle.boundaries.proofs.KnownKeys.{headed_header}
use Rattle.boundaries.proofs.store.Store.redistribute.Goals as goal
use Rattle.boundaries.proofs.store.Store.redistribute.Goals.{After-len}

-- entries that are shared evenly
record AreShared (l r u v : List NodeEntry) : Type 0 where
  pub entries : u ++ v ≡ l ++ r
  pub filled : AreHalfFull u v

shared : (half : ℕ) (l r u v : List NodeEntry) → FAN_OUT < length l + length r → half ≡ (length l + length r) / 2 → u ++ v ≡ l ++ r
    → length u ≡ half → AreShared l r u v
shared half l r u v many half_is entries count =
    let all = simp length-append at (ap length entries) in
    record { entries = entries; filled = record { left = omega (arith, all); right = omega (arith, all) } }

-- The end of the left ones goes to the right, or the beginning of the right ones to the left.
moved_right : (n half : ℕ) (l r u v : List NodeEntry) → FAN_OUT < n + length r → n ≡ length l → half ≡ (n + length r) / 2 → half < n
    → u ≡ take half l ++ drop n l → v ≡ take 0 r ++ (drop half (take n l) ++ drop 0 r) → AreShared l r u v
moved_right n half l r u v many count half_is above u_is v_is =
    let all = take_all n l (omega arith) in
    let none = drop_all n l (omega arith) in
    shared half l r u v (omega arith) (omega arith)
    (cc (all, none, append-nil (take half l), append_assoc (take half l) (drop half l) r, take-append-drop half l))
    (simp (u_is, none, append-nil, length-take) (omega arith))

moved_left : (n half : ℕ) (l r u v : List NodeEntry) → FAN_OUT < n + length r → n ≡ length l → half ≡ (n + length r) / 2 → n ≤ half
    → u ≡ take n l ++ (drop 0 (take (half - n) r) ++ drop n l) → v ≡ take 0 r ++ drop (half - n) r → AreShared l r u v
moved_left n half l r u v many count half_is below u_is v_is =
    let all = take_all n l (omega arith) in
    let none = drop_all n l (omega arith) in
    let m = half - n in
    shared half l r u v (omega arith) (omega arith)
    (cc (all, none, append-nil (take m r), append_assoc l (take m r) (drop m r), take-append-drop m r))
    (simp (u_is, all, none, append-nil, length-append, length-take) (omega arith))

-- A node is put in its place, and then another one.
module _ {store : Store} {x y : ℕ} (two : AreTwo store x y) (u : Node) where
  abbrev a : Arena Node
  a = store.nodes

  abbrev bytes : KeyBytes
  bytes = key_at store.keys

  abbrev b : Arena Node
  b = with_header a x u

  kept : record_at b y ≡ record_at a y
  kept = put_others a b x u refl y (λ same. two.apart (sym same))

  live : IsLive b y
  live = live_same a b y kept two.live_second

  read : {node : Node} → header_at b y ≡ Some node → entries_of node ≡ entries_at a y
  read {node} header = sym (entries_from_header b y node header) ∙ entries_same a b y kept

  headed : AreHeads bytes (key_heads_of u) → AllAreHeads bytes (all_heads_of b)
  headed = headed_header bytes a b x u refl two.sound.headed

  headed_still : {node : Node} → header_at b y ≡ Some node → AreHeads bytes (key_heads_of u) → AreHeads bytes (key_heads_of node)
  headed_still {node} header own = headed_at bytes b y node (headed own) header

  first_is : (v : Node) → entries_at (with_header b y v) x ≡ entries_of u
  first_is v = entries_same b (with_header b y v) x (put_others b _ y v refl x two.apart) ∙ put_entries a b x u refl

  put_first : Moves a b (x ∷ []) (x ∷ [])
  put_first = put_moves a b x u refl two.live_first two.sound.keyless

  put_second : (v : Node) → Moves b (with_header b y v) (y ∷ []) (y ∷ [])
  put_second v = put_moves b _ y v refl live put_first.keyless

swapped : {store : Store} {x y : ℕ} → AreTwo store x y → AreTwo store y x
swapped two =
    record { sound = two.sound; live_first = two.live_second; live_second = two.live_first; apart = λ same. two.apart (sym same) }

-- how many entries both have
module _ (c : After-len) where
  left_is : c.len-left.result ≡ length (entries_at c.args.self.now.nodes c.args.first)
  left_is = c.len-left.ensures.len ∙ ap length (sym (entries_from_header c.args.self.now.nodes c.args.first _ c.header_ref.ensures.header))

  right_is : c.len.result ≡ length (entries_at c.args.self.now.nodes c.args.second)
  right_is = c.len.ensures.len ∙ ap length (sym (entries_from_header c.args.self.now.nodes c.args.second _ c.header_ref-2.ensures.header))

pub header_mut-requires-then-left-half : goal.header_mut-requires-then-left-half
header_mut-requires-then-left-half c = record { live = live c.requires.two c.take_out-moved.new.self }

pub header_mut-requires-3 : goal.header_mut-requires-3
header_mut-requires-3 c = record { live = live (swapped c.requires.two) c.take_out-moved-2.new.self }

pub insert-requires : goal.insert-requires
insert-requires c =
    let s = (goal.at.insert-requires c).After-len in
    let own = headed_still c.requires.two _ header given.headed.0 in record {
      within = omega arith;
      room = rw (read c.requires.two _ header, given.taken) (simp (length-drop, length-take)
          (omega (arith, right_is s, left.len, left.most, right.len, right.most)));
      headed = (own, given.headed.1);
    }
  where
    open c use {len-left.{ensures as left}, len.{ensures as right}, take_out-moved.{ensures as given}}
    open c use {header_mut-then-left-half.{ensures.{header}}}

pub insert-requires-2 : goal.insert-requires-2
insert-requires-2 c =
    let two = swapped c.requires.two in
    let seen = read two _ header in
    let left_is = left_is (goal.at.insert-requires-2 c).After-len in
    let own = headed_still two _ header given.headed.0 in record {
      within = omega (arith, ap length seen, left_is);
      room = rw (seen, given.taken) (simp (length-drop, length-take)
          (omega (arith, left_is, left.len, left.most, right.len, right.most)));
      headed = (own, given.headed.1);
    }
  where
    open c use {len-left.{ensures as left}, len.{ensures as right}, take_out-moved-2.{ensures as given}, header_mut-3.{ensures.{header}}}

pub returns-then-left-half : goal.returns-then-left-half
returns-then-left-half c =
    let s = (goal.at.returns-then-left-half c).After-len in
    let b = with_header a x u in
    let here = entries_from_header a x _ c.header_mut.ensures.header in
    let there = read two u c.header_mut-then-left-half.ensures.header in
    let done = moved_right c.len-left.result _ (entries_at a x) (entries_at a y) _ _
    (rw (← left_is s) at many) (left_is s) (ap (λ n. (c.len-left.result + n) / 2) (right_is s)) c.if-left-half.true
    (first_is two u v ∙ rw (← here) at given.entries)
    (put_entries b (with_header b y v) y v refl ∙ rw (there, given.taken, ← here) at put.entries) in
    record {
      entries = done.entries;
      filled = done.filled;
      changes = changes_if_moves a _ _ _ (moves_trans a b _ _ _ _
          (moves_first a b x y two.apart two.live_second (put_first two u))
          (moves_second b _ x y (y ∷ []) two.apart (put_live a b x u refl) (put_second two u v)));
      keeps = record { keys = refl; removed = refl };
      headed = headed_header _ b (with_header b y v) y v refl (headed two u given.headed.0) put.headed;
    }
  where
    open c use {args.{self.{now.{nodes as a}}, first as x, second as y}, requires.{two, many}, take_out-moved.{new.{self as u}, ensures as given}}
    open c use {insert.{new.{self as v}, ensures as put}}

pub returns : goal.returns
returns c =
    let s = (goal.at.returns c).After-len in
    let two = swapped given_two in
    let b = with_header a y u in
    let here = entries_from_header a y _ c.header_mut-2.ensures.header in
    let there = read two u c.header_mut-3.ensures.header in
    let done = moved_left c.len-left.result _ (entries_at a x) (entries_at a y) _ _
    (rw (← left_is s) at many) (left_is s) (ap (λ n. (c.len-left.result + n) / 2) (right_is s)) c.if-left-half.false
    (put_entries b (with_header b x v) x v refl ∙ rw (there, given.taken, ← here) at put.entries)
    (first_is two u v ∙ rw (← here) at given.entries) in
    record {
      entries = done.entries;
      filled = done.filled;
      changes = changes_if_moves a _ _ _ (moves_trans a b _ _ _ _
          (moves_second a b x y (y ∷ []) given_two.apart two.live_second (put_first two u))
          (moves_first b _ x y given_two.apart (put_live a b y u refl) (put_second two u v)));
      keeps = record { keys = refl; removed = refl };
      headed = headed_header _ b (with_header b x v) x v refl (headed two u given.headed.0) put.headed;
    }
  where
    open c use {args.{self.{now.{nodes as a}}, first as x, second as y}, take_out-moved-2.{new.{self as u}, ensures as given}}
    open c use {requires.{two as given_two, many}, insert-2.{new.{self as v}, ensures as put}}
