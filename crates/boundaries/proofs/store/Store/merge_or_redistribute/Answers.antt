use Rattle.std.proofs.Common.{◌≡◌, [], ◌∷◌, append-nil, length, length-append, length-set, ap, ◌∙◌, sym, arith}
use Rattle.std.proofs.lemmas.List.Elements.{All-nil, All-cons}
use Rattle.boundaries.proofs.Words.{HALF_FULL, entries_at}
use Rattle.boundaries.proofs.Headed.{headed_at}
use Rattle.boundaries.proofs.Placing.{entries_from_header, live_if_some}
use Rattle.boundaries.proofs.Sharing.{made, set_removed, set_both, IsMade}
use Rattle.boundaries.proofs.Storing.{both, enough, read_again, remade, still_live}
use Rattle.boundaries.proofs.store.Store.merge_or_redistribute.Goals as goal
use Rattle.boundaries.proofs.store.Store.merge_or_redistribute.Goals.{After-index-entries-index-2}

-- the entries that were read
read : (c : After-index-entries-index-2)
    → c.entries-entries.result.now ≡ entries_at c.args.self.now.nodes c.args.slot
read c = c.entries-entries.ensures.entries ∙ sym (entries_from_header c.args.self.now.nodes c.args.slot _ c.header_ref.ensures.header)

pub header_ref-requires-2 : goal.header_ref-requires-2
header_ref-requires-2 c =
    let seen = read (goal.at.header_ref-requires-2 c).After-index-entries-index-2 in
    record { live = (both c.index-entries-index.result c.index-entries-index-2.result c.requires.can_merge seen).live_first }

pub header_ref-requires-3 : goal.header_ref-requires-3
header_ref-requires-3 c =
    let seen = read (goal.at.header_ref-requires-3 c).After-index-entries-index-2 in
    record { live = (both c.index-entries-index.result c.index-entries-index-2.result c.requires.can_merge seen).live_second }

pub merge-requires : goal.merge-requires
merge-requires c =
    let first_was = entries_from_header c.args.self.now.nodes _ _ c.header_ref-2.ensures.header in
    let second_was = entries_from_header c.args.self.now.nodes _ _ c.header_ref-3.ensures.header in
    let two = both _ _ c.requires.can_merge (read (goal.at.merge-requires c).After-index-entries-index-2) in
    record {
      two = two;
      room = rw (first_was, second_was) (omega arith);
    }

pub redistribute-requires : goal.redistribute-requires
redistribute-requires c =
    let first_was = entries_from_header c.args.self.now.nodes _ _ c.header_ref-2.ensures.header in
    let second_was = entries_from_header c.args.self.now.nodes _ _ c.header_ref-3.ensures.header in
    let two = both _ _ c.requires.can_merge (read (goal.at.redistribute-requires c).After-index-entries-index-2) in
    record {
      two = two;
      many = rw (first_was, second_was) (omega arith);
    }

pub entry_for-entry-requires : goal.entry_for-entry-requires
entry_for-entry-requires c =
    let filled = enough d e c.requires.can_merge (read (goal.at.entry_for-entry-requires c).After-index-entries-index-2) in
    let all = simp length-append at (ap length c.merge.ensures.entries) in
    record {
      live = live_if_some c.merge.new.self.nodes _ (omega (arith, filled, all));
      some = omega (arith, filled, all);
    }
  where
    open c use {index-entries-index.{result as d}, index-entries-index-2.{result as e}}

pub header_mut-node-requires : goal.header_mut-node-requires
header_mut-node-requires c =
    let seen = read (goal.at.header_mut-node-requires c).After-index-entries-index-2 in
    record { live = still_live _ _ c.requires.can_merge seen c.merge.ensures.changes }

pub header_mut-node-requires-2 : goal.header_mut-node-requires-2
header_mut-node-requires-2 c =
    let seen = read (goal.at.header_mut-node-requires-2 c).After-index-entries-index-2 in
    record { live = still_live _ _ c.requires.can_merge seen c.redistribute.ensures.changes }

pub set_with_head-requires : goal.set_with_head-requires
set_with_head-requires c =
    let s = (goal.at.set_with_head-requires c).After-index-entries-index-2 in
    let count = ap length (read_again _ _ can (read s) merge.changes header) in
    let headed = headed_at _ c.merge.new.self.nodes c.args.slot _ merge.headed header in
    record {
      within = omega (arith, count, can.within);
      headed = headed;
      known = c.entry_for-entry.ensures.known _ merge.headed;
    }
  where
    open c use {requires.{can_merge as can}, merge.{ensures as merge}, header_mut-node.{ensures.{header}}}

pub set_with_head-requires-2 : goal.set_with_head-requires-2
set_with_head-requires-2 c =
    let s = (goal.at.set_with_head-requires-2 c).After-index-entries-index-2 in
    let count = ap length (read_again _ _ can (read s) shared.changes header) in
    let headed = headed_at _ c.redistribute.new.self.nodes c.args.slot _ shared.headed header in
    record {
      within = omega (arith, count, can.within);
      headed = headed;
      known = c.entry_for.ensures.known _ shared.headed;
    }
  where
    open c use {requires.{can_merge as can}, redistribute.{ensures as shared}, header_mut-node-2.{ensures.{header}}}

pub set_with_head-requires-3 : goal.set_with_head-requires-3
set_with_head-requires-3 c =
    let s = (goal.at.set_with_head-requires-3 c).After-index-entries-index-2 in
    let count = ap length (read_again _ _ can (read s) shared.changes c.header_mut-node-2.ensures.header) in
    let set = simp length-set at (ap length c.set_with_head-2.ensures.entries) in
    let known = c.entry_for-2.ensures.known _ shared.headed in
    record {
      within = omega (arith, count, set, can.within);
      headed = c.set_with_head-2.ensures.headed;
      known = known;
    }
  where
    open c use {requires.{can_merge as can}, redistribute.{ensures as shared}}

pub remove-requires : goal.remove-requires
remove-requires c =
    let can = c.requires.can_merge in
    let seen = read (goal.at.remove-requires c).After-index-entries-index-2 in
    let count = ap length (read_again _ _ can seen c.merge.ensures.changes c.header_mut-node.ensures.header) in
    let set = simp length-set at (ap length c.set_with_head.ensures.entries) in
    record {
      ordered = omega arith;
      within = omega (arith, count, set, can.within);
    }

pub returns-then-count-le-FAN_OUT : goal.returns-then-count-le-FAN_OUT
returns-then-count-le-FAN_OUT c =
    let L = HALF_FULL in
    let b = between.nodes in
    let seen = read (goal.at.returns-then-count-le-FAN_OUT c).After-index-entries-index-2 in
    let again = read_again _ _ can seen merge.changes c.header_mut-node.ensures.header in
    let all = simp length-append at (ap length merge.entries) in
    let one = made b L _ t answered.child (omega (arith, enough d e can seen, all)) answered.describes in
    let now_is = c.lengthen_prefix.ensures.entries ∙ rw (c.set_with_head.ensures.entries, again) at c.remove.ensures.entries
    ∙ set_removed (entries_at c.args.self.now.nodes c.args.slot) c.args.index t can.within in
    let r = remade d e can seen {between = between} (t ∷ []) c.lengthen_prefix.new.self (omega arith) (omega arith)
    (rw answered.child merge.changes) merge.keeps merge.headed (All-cons (IsMade b L) t [] one (All-nil (IsMade b L)))
    (simp append-nil (cc (answered.child, merge.entries))) now_is c.lengthen_prefix.ensures.headed in
    record { rebalanced = r.0; rest = r.1 }
  where
    open c use {index-entries-index.{result as d}, index-entries-index-2.{result as e}}
    open c use {merge.{new.{self as between}, ensures as merge}, entry_for-entry.{result as t, ensures as answered}, requires.{can_merge as can}}

pub returns : goal.returns
returns c =
    let L = HALF_FULL in
    let b = between.nodes in
    let seen = read (goal.at.returns c).After-index-entries-index-2 in
    let again = read_again _ _ can seen shared.changes c.header_mut-node-2.ensures.header in
    let one = made b L _ t t_is.child (omega (arith, shared.filled.left)) t_is.describes in
    let other = made b L _ u u_is.child (omega (arith, shared.filled.right)) u_is.describes in
    let new = All-cons (IsMade b L) t (u ∷ []) one (All-cons (IsMade b L) u [] other (All-nil (IsMade b L))) in
    let now_is = c.lengthen_prefix-2.ensures.entries ∙ rw (c.set_with_head-2.ensures.entries, again) at c.set_with_head-3.ensures.entries
    ∙ set_both (entries_at c.args.self.now.nodes c.args.slot) c.args.index t u can.within in
    let r = remade d e can seen {between = between} (t ∷ u ∷ []) c.lengthen_prefix-2.new.self (omega arith) (omega arith)
    (rw (t_is.child, u_is.child) shared.changes) shared.keeps shared.headed new (simp append-nil (cc (t_is.child, u_is.child, shared.entries)))
    now_is c.lengthen_prefix-2.ensures.headed in
    record { rebalanced = r.0; rest = r.1 }
  where
    open c use {index-entries-index.{result as d}, index-entries-index-2.{result as e}}
    open c use {redistribute.{new.{self as between}, ensures as shared}, requires.{can_merge as can}}
    open c use {entry_for.{result as t, ensures as t_is}, entry_for-2.{result as u, ensures as u_is}}
