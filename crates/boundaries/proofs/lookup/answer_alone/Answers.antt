use Rattle.boundaries.specs.declared.approach.Rest.TheVariants as rest
use Rattle.boundaries.proofs.Approaches.{leading_of}
use Rattle.boundaries.proofs.lookup.answer_alone.Goals as goal

pub look_at-look-requires : goal.look_at-look-requires
look_at-look-requires c =
    record {
      leading = leading_of c.args.store.now c.args.question.now c.args.root.now.height c.args.root.now.slot rest.Clear
          c.find_approach-approach.result c.find_approach-approach.ensures.approach;
    }

pub answer-requires : goal.answer-requires
answer-requires c =
    record {
      asked = c.requires.asked;
      approach = rw (← c.look_at-look.ensures.approach) at c.find_approach-approach.ensures.approach;
      looked = c.look_at-look.ensures.looked;
    }
