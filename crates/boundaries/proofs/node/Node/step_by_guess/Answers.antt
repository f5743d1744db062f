use Rattle.std.proofs.Common.{◌+◌, get_or, lt-ltb, refl, arith}
use Rattle.boundaries.proofs.Words.{entries_of, key_heads_of, order}
use Rattle.boundaries.proofs.HeadAt.{entry_at, few_pass, key_there, less_passes}
use Rattle.boundaries.proofs.HeadCounts.{passing_inside}
use Rattle.boundaries.proofs.KeyBytes.{first_common}
use Rattle.boundaries.proofs.node.Node.step_by_guess.Goals as goal

pub head_for-head-requires : goal.head_for-head-requires
head_for-head-requires c =
    let can = c.requires.can_step in
    record {
      headed = can.can_find.headed;
      common_prefix_len = first_common c.args.keys.now c.args.bound c.args.self.now c.args.common_prefix_len can;
    }

pub step_by-requires : goal.step_by-requires
step_by-requires c = record {
  can_step = c.requires.can_step;
  head = rw c.in_default.is at c.head_for-head.ensures.head;
}

pub step_by-requires-then-not-falls_after : goal.step_by-requires-then-not-falls_after
step_by-requires-then-not-falls_after c =
    record {
      can_step = c.requires.can_step;
      head = rw c.in-Some.is at c.head_for-head.ensures.head;
    }

pub common_prefix_len_in-known-requires : goal.common_prefix_len_in-known-requires
common_prefix_len_in-known-requires c =
    let can = c.requires.can_step in
    let head = rw c.in-Some.is at c.head_for-head.ensures.head in
    let below = less_passes _ _ can.can_find.headed _ _ (order c.args.keys.now c.args.bound) c.args.guess in
    let less = lt-ltb (get_or (key_heads_of c.args.self.now).heads c.args.guess 0) c.in-Some.own (describes.following refl) in
    let key = key_there (entries_of c.args.self.now) c.args.guess in
    record {
      can_step = can;
      within = describes.within refl;
      is_below = (λ e at. below e.key c.in-Some.own (key e at) head.head less);
      head = head;
    }
  where
    open c use {if-not-falls_after.{ensures as describes}}

pub returns : goal.returns
returns c =
    let es = entries_of node in
    let is = (rw c.in-Some.is at c.head_for-head.ensures.head).head in
    let e = entry_at es guess (describes.within refl) in
    let less = lt-ltb (get_or (key_heads_of node).heads guess 0) own (describes.following refl) in
    let passed = less_passes _ _ find.headed _ _ (order c.args.keys.now c.args.bound) guess e.0.key own (key_there es guess e.0 e.1) is less in
    let many = passing_inside _ es guess e.0 find.partitioned e.1 passed in
    let few = few_pass _ node find.headed _ _ (order c.args.keys.now c.args.bound) own is find.partitioned (guess + 1) (describes.before refl) in
    record { step = record { index_is = omega (arith, many, few); within = describes.within refl; knows = knows } }
  where
    open c use {args.{self.{now as node}, guess}, requires.{can_step.{can_find as find}}, in-Some.{own}}
    open c use {if-not-falls_after.{ensures as describes}, common_prefix_len_in-known.{ensures.{known as knows}}}
