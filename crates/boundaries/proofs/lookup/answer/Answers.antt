use Rattle.std.proofs.Common.{rules, SFits, w64}
use Rattle.boundaries.specs.Question.{IsAnswer}
use Rattle.boundaries.specs.declared.approach.Rest.TheVariants as rest
use Rattle.boundaries.proofs.Words.{items_in}
use Rattle.boundaries.proofs.Exceeding.{above_by_most}
use Rattle.boundaries.proofs.Most.{least_kept}
use Rattle.boundaries.proofs.QuestionAnswers.{answered_of_all}
use Rattle.boundaries.proofs.QuestionBounds.{nested}
use Rattle.boundaries.proofs.lookup.answer.Goals as goal
use Rattle.boundaries.proofs.lookup.answer.Goals.{Joined-approach, in-Leaf, in-Clear, in-Open}

pub leaf_answer-answered-requires : goal.leaf_answer-answered-requires
leaf_answer-answered-requires c =
    let is = rw c.in-Leaf.is at c.requires.approach in
    record {
      asked = is.asked;
      hint = is.hint_is;
      head = rw c.in-Leaf.is at c.requires.looked;
    }

-- what is answered of the whole tree, if anything
told : (c : Joined-approach) → IsAnswer c.args.store.now.keys c.args.question.now rest.Clear
    (items_in c.args.store.now.nodes c.args.root.now.height c.args.root.now.slot) c.match-approach.answered
told c = elim c.match-approach.branch [
  | in-Leaf w ↦
      let is = rw w.in-Leaf.is at c.requires.approach in
      rw w.answered-is (is.describes w.leaf_answer-answered.result w.leaf_answer-answered.ensures.answered)
  | in-Clear w ↦ rw w.answered-is (rw w.in-Clear.is at c.requires.approach)
  | in-Open w ↦ rw w.answered-is (λ before after clear first second. tt)
]

pub returns-in-Some : goal.returns-in-Some
returns-in-Some c =
    let q = c.args.question.now in
    let answered = rw c.in-Some.is at (told (goal.at.returns-in-Some c).Joined-approach) in
    record {
      above = answered_of_all _ _ q.version (nested c.args.store.now.keys q) _ c.in-Some.above answered
          c.requires.asked.from.searchable.partitioned c.requires.asked.to.searchable.partitioned;
    }

pub greatest-most-requires : goal.greatest-most-requires
greatest-most-requires c =
    let asked = c.requires.asked in
    record {
      from = rw c.from.ensures.bound asked.from;
      to = rw c.to.ensures.bound asked.to;
      nested = rw (c.from.ensures.bound, c.to.ensures.bound) (nested c.args.store.now.keys c.args.question.now);
    }

pub returns-in-None : goal.returns-in-None
returns-in-None c =
    let v = c.args.question.now.version in
    let most = rw (c.from.ensures.bound, c.to.ensures.bound) at c.greatest-most.ensures.most in
    let fits : SFits w64 v = search rules in
    record { above = above_by_most v c.greatest-most.result _ fits (search rules) (least_kept fits most) }
