use Rattle.std.proofs.Common.{◌≡◌, ◌≤◌, ◌<◌, ◌+◌, ◌-◌, ◌++◌, ◌∙◌, ℕ, List, Option, Some, None, IfSome, take, drop, length, length-append, length-drop, length-take, length-take-le, sym, ap, arith}
use Rattle.boundaries.specs.Node.{HasHeads, ShareHeads}
use Rattle.boundaries.specs.Splice.{spliced}
use Rattle.boundaries.specs.declared.node.splice.Splice.{Splice}
use Rattle.boundaries.proofs.Words.{FAN_OUT, HALF_FULL, Node, NodeEntry, entries_of, key_heads_of}
use Rattle.boundaries.proofs.Splicing.{apart_before, apart_after, length-replaced, length-spliced}
use Rattle.boundaries.proofs.node.Node.replace_apart.Goals as goal
use Rattle.boundaries.proofs.node.Node.replace_apart.Goals.{Joined-splice, in-Some, in-None}

-- how many entries there are once some are replaced
total : (splice : Splice) (es : List NodeEntry) → splice.from ≤ splice.to → splice.to ≤ length es
    → FAN_OUT < length (spliced splice es) → FAN_OUT < splice.from + length splice.new.now + (length es - splice.to)
total splice es ordered within many =
    let sum = simp (length-append, length-take, length-drop) at many in
    omega (arith, sum, ordered, within)

-- what two facts of a value tell, where there is one
both : {X : Type 0} (P Q R : X → Type 0) (o : Option X) → ((x : X) → P x → Q x → R x) → IfSome o P → IfSome o Q → IfSome o R
both P Q R None so p q = tt
both P Q R (Some x) so p q = so x p q

-- A node is split in two, and some entries of one half are replaced, with their heads.
module _ (old : Node) (from to at : ℕ) (new : List NodeEntry) (heads : List ℕ) (ordered : from ≤ to)
    (same_len : length heads ≡ length new) (size : length (key_heads_of old).heads ≡ length (entries_of old)) where
  abbrev own : List ℕ
  own = (key_heads_of old).heads

  abbrev es : List NodeEntry
  es = entries_of old

  -- of the left one
  share_before : (split left right : Node) → to ≤ at → at ≤ length es → HasHeads old split (take at own)
      → HasHeads old right (drop at own)
      → HasHeads split left (take from (key_heads_of split).heads ++ (heads ++ drop to (key_heads_of split).heads))
      → entries_of left ≡ take from (take at es) ++ (new ++ drop to (take at es))
      → ShareHeads old left right (take from own ++ (heads ++ drop to own))
  share_before split left right before within first second put entries =
      let is : (key_heads_of left).heads ≡ take from (take at own) ++ (heads ++ drop to (take at own)) =
      cc (put.heads_are, first.heads_are) in
      let entire = apart_before own heads from to at ordered before (omega (arith, within, size)) in
      let sizes : length (take at own) ≡ length (take at es) = omega (arith, size, length-take at own, length-take at es) in
      record {
        prefix_len = put.prefix_len ∙ first.prefix_len;
        right_prefix_len = second.prefix_len;
        heads_are = cc (is, second.heads_are, entire);
        count = ap length is ∙ length-replaced (take at own) heads (take at es) new from to sizes same_len ∙ sym (ap length entries);
      }

  -- of the right one
  share_after : (left split right : Node) → at ≤ from → HasHeads old left (take at own) → HasHeads old split (drop at own)
      → HasHeads split right
      (take (from - at) (key_heads_of split).heads ++ (heads ++ drop (to - at) (key_heads_of split).heads))
      → entries_of left ≡ take at es → ShareHeads old left right (take from own ++ (heads ++ drop to own))
  share_after left split right after first second put entries =
      let is : (key_heads_of right).heads ≡ take (from - at) (drop at own) ++ (heads ++ drop (to - at) (drop at own)) =
      cc (put.heads_are, second.heads_are) in
      record {
        prefix_len = first.prefix_len;
        right_prefix_len = put.prefix_len ∙ second.prefix_len;
        heads_are = cc (is, first.heads_are, apart_after own heads from to at after ordered);
        count = omega (
          arith,
          size,
          ap length first.heads_are,
          ap length entries,
          length-take at own,
          length-take at es,
        );
      }

-- what the code has read
module _ (c : Joined-splice) where
  abbrev was : List NodeEntry
  was = entries_of c.args.self.now

  len : length was ≡ c.args.self.now.len
  len = length-take-le c.args.self.now.len c.args.self.now.entries (omega arith)

  sizes : length (key_heads_of c.args.self.now).heads ≡ length was
  sizes = omega (arith, len, length-take-le c.args.self.now.len c.args.self.now.heads (omega arith))

  many : FAN_OUT < c.args.splice.from + length c.args.splice.new.now + (length was - c.args.splice.to)
  many = total c.args.splice was c.requires.ordered c.requires.within c.requires.many

  -- there are as many heads as new entries
  as_many : IfSome c.match-splice.heads (λ heads. length heads.now ≡ length c.args.splice.new.now)
  as_many = elim c.match-splice.branch [
    | in-Some w ↦ rw w.heads-is w.front.ensures.len
    | in-None w ↦ rw w.heads-is tt
  ]

  -- what is told of the heads for which the entries are replaced is told of those that are given
  told : (Told : List ℕ → Type 0) → IfSome c.match-splice.heads (λ heads. Told heads.now)
      → IfSome c.args.splice.heads (λ heads. Told (take (length c.args.splice.new.now) heads))
  told Told so = elim c.match-splice.branch [
    | in-Some w ↦ rw w.in-Some.is (rw (w.heads-is, w.front.ensures.front) at so)
    | in-None w ↦ rw w.in-None.is tt
  ]

pub overflow_sub-half : goal.overflow_sub-half
overflow_sub-half c =
    let s = (goal.at.overflow_sub-half c).Joined-splice in
    omega (arith, len s, many s, c.requires.ordered, c.requires.within, c.args.splice.few)

pub split_off-right-requires : goal.split_off-right-requires
split_off-right-requires c = record { within = omega (arith, len (goal.at.split_off-right-requires c).Joined-splice) }

pub replace-requires : goal.replace-requires
replace-requires c =
    let s = (goal.at.replace-requires c).Joined-splice in
    let left = ap length c.split_off-right.ensures.left in
    let part = length-take-le (c.args.self.now.len - HALF_FULL) (was s) (omega (arith, len s)) in
    record {
      ordered = c.requires.ordered;
      within = omega (arith, len s, left, part, c.if-to-half.true);
      same_len = as_many s;
      room = omega (arith, len s, left, part, c.if-to-half.true, c.requires.ordered, c.args.splice.few);
    }

pub returns-then-to-half : goal.returns-then-to-half
returns-then-to-half c =
    let s = (goal.at.returns-then-to-half c).Joined-splice in
    let half = node.len - HALF_FULL in
    let within : half ≤ length (was s) = omega (arith, len s) in
    let put = rw split.left at c.replace.ensures.entries in
    let entries = apart_before (was s) new.now from to half c.requires.ordered c.if-to-half.true within in
    let part = length-take-le half (was s) within in
    let left = ap length put ∙ length-spliced (take half (was s)) new.now from to c.requires.ordered
    (omega (arith, part, c.if-to-half.true)) in
    let right = ap length split.right ∙ length-drop half (was s) in
    record {
      entries = cc (put, split.right, entries);
      filled = record {
        left = omega (arith, left, part, len s, many s, c.requires.ordered, c.requires.within, c.if-to-half.true);
        right = omega (arith, right, len s, many s, c.requires.ordered, c.requires.within, c.args.splice.few);
      };
      heads = told s _ (both _ _ _ c.match-splice.heads (λ heads same_len h.
          share_before node from to half new.now heads.now c.requires.ordered same_len (sizes s) c.split_off-right.new.self
          c.replace.new.self c.split_off-right.result c.if-to-half.true within split.left_heads split.right_heads h put)
          (as_many s) c.replace.ensures.heads);
    }
  where
    open c use {args.{self.{now as node}, splice.{from, to, new}}, split_off-right.{ensures as split}}

pub overflow_sub-from : goal.overflow_sub-from
overflow_sub-from c =
    let s = (goal.at.overflow_sub-from c).Joined-splice in
    omega (arith, len s, many s, c.if-to-half.false, c.args.splice.few)

pub overflow_sub-to : goal.overflow_sub-to
overflow_sub-to c =
    let s = (goal.at.overflow_sub-to c).Joined-splice in
    omega (arith, len s, many s, c.if-to-half.false, c.args.splice.few, c.requires.ordered)

pub replace-requires-2 : goal.replace-requires-2
replace-requires-2 c =
    let s = (goal.at.replace-requires-2 c).Joined-splice in
    let right = ap length c.split_off-right-2.ensures.right ∙ length-drop HALF_FULL (was s) in
    record {
      ordered = omega (arith, c.requires.ordered);
      within = omega (arith, right, c.requires.within);
      same_len = as_many s;
      room = omega (arith, right, len s, many s, c.if-to-half.false, c.requires.ordered, c.requires.within, c.args.splice.few);
    }

pub returns : goal.returns
returns c =
    let s = (goal.at.returns c).Joined-splice in
    let after : HALF_FULL ≤ from = omega (arith, len s, many s, c.if-to-half.false, c.args.splice.few) in
    let put = rw split.right at c.replace-2.ensures.entries in
    let entries = apart_after (was s) new.now from to HALF_FULL after c.requires.ordered in
    let left = ap length split.left ∙ length-take-le HALF_FULL (was s) (omega (arith, after, c.requires.ordered, c.requires.within)) in
    let part = length-drop HALF_FULL (was s) in
    let right = ap length put ∙ length-spliced (drop HALF_FULL (was s)) new.now (from - HALF_FULL) (to - HALF_FULL)
    (omega (arith, c.requires.ordered)) (omega (arith, part, c.requires.within)) in
    record {
      entries = cc (put, split.left, entries);
      filled = record {
        left = omega (arith, left, len s, many s, c.requires.ordered, c.requires.within, c.args.splice.few);
        right = omega (arith, right, part, len s, many s, after, c.requires.ordered, c.requires.within);
      };
      heads = told s _ (both _ _ _ c.match-splice.heads (λ heads same_len h.
          share_after node from to HALF_FULL new.now heads.now c.requires.ordered same_len (sizes s) c.split_off-right-2.new.self
          c.split_off-right-2.result c.replace-2.new.self after split.left_heads split.right_heads h split.left)
          (as_many s) c.replace-2.ensures.heads);
    }
  where
    open c use {args.{self.{now as node}, splice.{from, to, new}}, split_off-right-2.{ensures as split}}
