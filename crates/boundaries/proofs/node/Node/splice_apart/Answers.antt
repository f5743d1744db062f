use Rattle.std.proofs.Common.{◌≡◌, ◌++◌, ◌∙◌, ℕ, true, List, Option, None, Some, is_some, take, drop, refl, sym, All}
use Rattle.std.proofs.lemmas.List.{length-map, map-append}
use Rattle.boundaries.proofs.Words.{NodeEntry, AreHeads, IsKnown, KeyBytes, KeyHeads, entries_of, key_at, key_heads_of, keys_of}
use Rattle.boundaries.proofs.HeadChanges.{headed_apart, headed_spliced, known_spliced, map_spliced}
use Rattle.boundaries.proofs.callers.Partitions.{All-front, All-back}
use Rattle.boundaries.proofs.node.Node.splice_apart.Goals as goal
use Rattle.boundaries.proofs.node.Node.splice_apart.Goals.{After-replace_apart-right}

module _ (c : After-replace_apart-right) where
  abbrev bytes : KeyBytes
  bytes = key_at c.args.keys.now

  abbrev node : KeyHeads
  node = key_heads_of c.args.self.now

  abbrev left : KeyHeads
  left = key_heads_of c.replace_apart-right.new.self

  abbrev right : KeyHeads
  right = key_heads_of c.replace_apart-right.result

  -- the keys of both halves
  keys : left.keys ++ right.keys
      ≡ take c.args.splice.from node.keys ++ (keys_of c.args.splice.new.now ++ drop c.args.splice.to node.keys)
  keys = sym (map-append _ (entries_of c.replace_apart-right.new.self) (entries_of c.replace_apart-right.result))
      ∙ map_spliced (λ (e : NodeEntry). e.key) (entries_of c.args.self.now) c.args.splice.new.now _ c.args.splice.from
      c.args.splice.to c.replace_apart-right.ensures.entries

  -- the heads of both are right where the new keys begin as all others do
  both_headed : (heads : List ℕ) → c.args.splice.heads ≡ Some heads → AreHeads bytes left × AreHeads bytes right
  both_headed heads given =
      let can = c.requires.can_splice in
      let share = rw given at c.replace_apart-right.ensures.heads in
      let all : KeyHeads =
      record { keys = left.keys ++ right.keys; prefix_len = node.prefix_len; heads = left.heads ++ right.heads } in
      let headed = headed_spliced bytes node can.headed all (keys_of c.args.splice.new.now) _ c.args.splice.from c.args.splice.to
      can.known (rw given at can.beside) keys refl share.heads_are in
      let size = length-map (entries_of c.replace_apart-right.new.self) (λ (e : NodeEntry). e.key) in
      headed_apart bytes all left right headed refl refl (share.count ∙ sym size) share.prefix_len share.right_prefix_len

  -- all keys are known
  known : All (IsKnown bytes) left.keys × All (IsKnown bytes) right.keys
  known =
      let can = c.requires.can_splice in
      let all = known_spliced bytes node can.headed (keys_of c.args.splice.new.now) _ c.args.splice.from c.args.splice.to can.known keys in
      (All-front (IsKnown bytes) left.keys right.keys all, All-back (IsKnown bytes) left.keys right.keys all)

-- there are heads where that is told
given : (o : Option (List ℕ)) → is_some o ≡ true → (heads : List ℕ) × (o ≡ Some heads)
given None some = absurd (cc)
given (Some heads) some = (heads, refl)

pub lengthen_prefix-requires : goal.lengthen_prefix-requires
lengthen_prefix-requires c =
    let s = (goal.at.lengthen_prefix-requires c).After-replace_apart-right in
    let some = given c.args.splice.heads (sym c.is_some.ensures ∙ c.if-is_some.true) in
    record { headed = (both_headed s some.0 some.1).0 }

pub lengthen_prefix-requires-then-is_some : goal.lengthen_prefix-requires-then-is_some
lengthen_prefix-requires-then-is_some c =
    let s = (goal.at.lengthen_prefix-requires-then-is_some c).After-replace_apart-right in
    let some = given c.args.splice.heads (sym c.is_some.ensures ∙ c.if-is_some.true) in
    record { headed = (both_headed s some.0 some.1).1 }

pub compute_heads-requires : goal.compute_heads-requires
compute_heads-requires c = record { known = (known (goal.at.compute_heads-requires c).After-replace_apart-right).0 }

pub compute_heads-requires-else-is_some : goal.compute_heads-requires-else-is_some
compute_heads-requires-else-is_some c =
    record { known = (known (goal.at.compute_heads-requires-else-is_some c).After-replace_apart-right).1 }
