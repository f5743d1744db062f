use Rattle.std.proofs.Common.{◌≡◌, ◌≤◌, ◌+◌, ◌-◌, ◌∙◌, false, length, filter, drop, drop-drop, sym, arith}
use Rattle.std.proofs.lemmas.List.Elements.{All-drop}
use Rattle.boundaries.specs.Question.{before_end}
use Rattle.boundaries.proofs.Words.{NodeEntry, entries_of}
use Rattle.boundaries.proofs.callers.Partitions.{after_partitioned}
use Rattle.boundaries.proofs.HeadAt.{entry_at}
use Rattle.boundaries.proofs.HeadCounts.{passing_before}
use Rattle.boundaries.proofs.approach.rest_at.Goals as goal

pub is_below_at-requires : goal.is_below_at-requires
is_below_at-requires c = record {
  headed = c.requires.headed;
  within = c.requires.within;
  head = rw c.to.ensures.bound c.requires.head;
}

pub returns-then-is_below_at : goal.returns-then-is_below_at
returns-then-is_below_at c = record { rest = λ clear. absurd (cc) }

pub returns : goal.returns
returns c =
    let es = entries_of c.args.node.now in
    let p = λ (e : NodeEntry). before_end c.args.store.now.keys c.args.question.now e.key in
    let n = length (filter p es) in
    let e = entry_at es i c.requires.within in
    let fails = sym (rw c.to.ensures.bound at (c.is_below_at.ensures.is_below e.0 e.1)) ∙ c.if-is_below_at.false in
    let few : n ≤ i = passing_before p es i e.0 c.requires.to e.1 fails in
    let sum : n + (i - n) ≡ i = omega (arith, few) in
    let all = All-drop (λ e. p e ≡ false) (i - n) (drop n es) (after_partitioned p es c.requires.to) in
    record { rest = λ clear. (rw (drop-drop (i - n) n es, sum) at all) }
  where
    open c use {args.{index as i}}
