use Rattle.std.proofs.Common.{rules, ◌≡◌, ◌≤◌, ◌∙◌, sym, arith}
use Rattle.std.proofs.lemmas.Bool.{leb-true}
use Rattle.boundaries.specs.Overwrite.{before_end, before_start, bound_from, bound_to}
use Rattle.boundaries.proofs.Words.{CanFind, HasPrefix, IsTargetHead, entries_at, entries_of, key_at, key_heads_of}
use Rattle.boundaries.proofs.Headed.{headed_at}
use Rattle.boundaries.proofs.Leaves.{entries_of_partitioned}
use Rattle.boundaries.proofs.NearBounds.{fewer_equal, no_more}
use Rattle.boundaries.proofs.Nested.{start_before_end}
use Rattle.boundaries.proofs.Placing.{entries_from_header}
use Rattle.boundaries.proofs.remembered.find_inner_run.Goals.{After-header_ref-node, After-head, then-ends_above, else-ends_above}
use Rattle.boundaries.proofs.remembered.find_inner_run.Goals as goal

-- what is known of the leaf
module _ (c : After-header_ref-node) where
  open c use {args.{store.{now as store}, leaf, new.{now as new}}, requires.{can_find}, header_ref-node.{result.{now as node}, ensures.{header}}}

  read : entries_at store.nodes leaf.slot ≡ entries_of node
  read = entries_from_header store.nodes leaf.slot node header

  to_find : CanFind store.keys (bound_to new) node
  to_find = record {
    headed = headed_at (key_at store.keys) store.nodes leaf.slot node can_find.sound.headed header;
    partitioned = rw read at (entries_of_partitioned (before_end store.keys new) (entries_at store.nodes leaf.slot) can_find.to);
    some = rw read at can_find.some;
  }

  from_find : CanFind store.keys (bound_from new) node
  from_find = record {
    headed = to_find.headed;
    partitioned = rw read at (entries_of_partitioned (before_start store.keys new) (entries_at store.nodes leaf.slot) can_find.from);
    some = to_find.some;
  }

pub has_prefix_of-requires : goal.has_prefix_of-requires
has_prefix_of-requires c = search (rules, (to_find (goal.at.has_prefix_of-requires c).After-header_ref-node).headed)

-- The start and the end begin as all keys do.
module _ (c : After-head) where
  open c use {args.{store.{now as store}, new.{now as new}}, header_ref-node.{result.{now as node}}}

  end_prefix : HasPrefix (key_at store.keys) (key_heads_of node) new.end.now
  end_prefix = rw c.to-else-not-is_there.ensures.bound at (c.has_prefix_of.ensures.has_prefix (search rules))

  end_head : IsTargetHead (key_at store.keys) (key_heads_of node) new.end.now c.head-end_head.result
  end_head = record {
    has_prefix = end_prefix;
    head_is = rw (c.to.ensures.bound, c.prefix_len-prefix_len.ensures.prefix_len) at c.head-end_head.ensures.head;
    are_bytes = rw c.to.ensures.bound at c.head-end_head.ensures.are_bytes;
  }

  start_prefix : HasPrefix (key_at store.keys) (key_heads_of node) new.start.now
  start_prefix = elim c.if-ends_above.branch [
    | then-ends_above w ↦
        let short : (key_heads_of node).prefix_len ≤ new.common_prefix_len =
        omega (arith, leb-true c.prefix_len-prefix_len.result new.common_prefix_len (cc), c.prefix_len-prefix_len.ensures.prefix_len) in
        let same = fewer_equal _ new.common_prefix_len new.start.now new.end.now short new.common in
        record {
          key = end_prefix.key;
          text = end_prefix.text;
          there = end_prefix.there;
          known = end_prefix.known;
          long = end_prefix.long;
          same = end_prefix.same ∙ sym same;
        }
    | else-ends_above w ↦ absurd (cc)
  ]

  start_head : IsTargetHead (key_at store.keys) (key_heads_of node) new.start.now c.head.result
  start_head = record {
    has_prefix = start_prefix;
    head_is = rw (c.from.ensures.bound, c.prefix_len-prefix_len.ensures.prefix_len) at c.head.ensures.head;
    are_bytes = rw c.from.ensures.bound at c.head.ensures.are_bytes;
  }

pub lower_bound_by_head-end-requires : goal.lower_bound_by_head-end-requires
lower_bound_by_head-end-requires c =
    let at = goal.at.lower_bound_by_head-end-requires c in
    rw c.to-2.ensures.bound record {
      can_find = to_find at.After-header_ref-node;
      head = end_head at.After-head;
      none = (λ none. absurd (cc));
    }

pub lower_bound_back-begin-requires : goal.lower_bound_back-begin-requires
lower_bound_back-begin-requires c =
    let at = goal.at.lower_bound_back-begin-requires c in
    let more = no_more _ _ (start_before_end c.args.store.now.keys c.args.new.now) (entries_of c.header_ref-node.result.now) in
    let count = rw c.to-2.ensures.bound at c.lower_bound_by_head-end.ensures.count in
    rw c.from-2.ensures.bound
    record {
      can_find = from_find at.After-header_ref-node;
      head = start_head at.After-head;
      within = count.within;
      most = omega (arith, more, count.count_is);
    }

pub overflow_sub-end : goal.overflow_sub-end
overflow_sub-end c =
    let more = no_more _ _ (start_before_end c.args.store.now.keys c.args.new.now) (entries_of c.header_ref-node.result.now) in
    let end = rw c.to-2.ensures.bound at c.lower_bound_by_head-end.ensures.count in
    let begin = rw c.from-2.ensures.bound at c.lower_bound_back-begin.ensures.count in
    omega (arith, more, begin.count_is, end.count_is)

pub is_below_at-ended-requires : goal.is_below_at-ended-requires
is_below_at-ended-requires c =
    let at = goal.at.is_below_at-ended-requires c in
    let within = c.lower_bound_by_head-end.ensures.count.within in
    rw c.past.ensures.bound
    record {
      headed = (to_find at.After-header_ref-node).headed;
      within = omega (arith, within, c.len-len.ensures.len, c.if-end-len.false);
      head = end_head at.After-head;
    }

pub returns : goal.returns
returns c =
    let at = goal.at.returns c in
    let new = c.args.new.now in
    let node = c.header_ref-node.result.now in
    let read = read at.After-header_ref-node in
    let more = no_more _ _ (start_before_end c.args.store.now.keys new) (entries_of node) in
    let end = rw c.to-2.ensures.bound at c.lower_bound_by_head-end.ensures.count in
    let begin = rw c.from-2.ensures.bound at c.lower_bound_back-begin.ensures.count in
    record {
      run = record {
        run_is = record {
          leaf = node;
          there = c.header_ref-node.ensures.header;
          run_is = record {
            begin = begin;
            end = end;
            ordered = omega (arith, more, begin.count_is, end.count_is);
            some = omega (arith, more, begin.count_is, end.count_is, c.if-begin-eq0.false);
            begin_head = start_head at.After-head;
            end_head = end_head at.After-head;
          };
        };
        some_before = omega (arith, c.if-begin-eq0.false);
        some_after = rw read (omega (arith, c.if-end-len.false, c.len-len.ensures.len, end.within));
        fits = rw read (omega (arith, c.if-len-gt-FAN_OUT.false, c.len-len.ensures.len));
        filled = rw read (omega (arith, c.if-len-end.false, c.len-len.ensures.len));
        ended = rw read (rw c.past.ensures.bound at c.is_below_at-ended.ensures.is_below);
      };
    }
