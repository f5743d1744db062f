-- The answer of all shards, case by case.
use Rattle.std.proofs.Common.{ℕ, ℤ, List, refl, subst, ◌⊎◌}
use Rattle.std.specs.Prelude.{Option, Any}
use Rattle.keyspace.specs.declared.answer.Answer.{Answer}
use Rattle.keyspace.specs.declared.answer.Answer.TheVariants as answer
use Rattle.keyspace.specs.declared.reply.Reply.{Reply}
use Rattle.shards.specs.declared.shard_reply.ShardReply.{ShardReply}
use Rattle.replay_shards.specs.Answers.{AreOfOneBatch, HaveReplied, IsAnswerTogether, IsHeld, IsNever, IsReplyTogether}
use Rattle.replay_shards.proofs.Replied.{none_held, none_never, none_other, refuted, same_replies}

module _ (version : ℤ) (answers : List Answer) (notes : List (Option (List (List ℕ)))) where
  pub case_never : Any IsNever answers → IsAnswerTogether version answers notes (answer.Never version)
  case_never some = record {
    never = λ known. refl;
    held = λ none held. absurd (none some);
    reply = λ each have one. absurd (refuted IsNever answers (none_never answers notes each have) some);
    misfit = λ each have none. refl;
  }

  pub case_held : ¬ (Any IsNever answers) → Any (λ a. IsNever a ⊎ IsHeld a) answers
      → IsAnswerTogether version answers notes (answer.Held version)
  case_held unsaid some = record {
    never = λ never. absurd (unsaid never);
    held = λ none held. refl;
    reply = λ each have one. absurd (refuted (λ a. IsNever a ⊎ IsHeld a) answers (none_other answers notes each have) some);
    misfit = λ each have none. absurd (refuted (λ a. IsNever a ⊎ IsHeld a) answers (none_other answers notes each have) some);
  }

  pub case_reply : (each : List ShardReply) (reply : Reply) → HaveReplied answers notes each → AreOfOneBatch each
      → IsReplyTogether version each reply → IsAnswerTogether version answers notes (answer.Reply reply)
  case_reply each reply have one is = record {
    never = λ some. absurd (refuted IsNever answers (none_never answers notes each have) some);
    held = λ none some. absurd (refuted IsHeld answers (none_held answers notes each have) some);
    reply = λ other too fits.
        (reply, refl, subst (λ (all : List ShardReply). IsReplyTogether version all reply) (same_replies answers notes each other have too) is);
    misfit = λ other too none.
        absurd (none (subst (λ (all : List ShardReply). AreOfOneBatch all) (same_replies answers notes each other have too) one));
  }

  pub case_misfit : (each : List ShardReply) → HaveReplied answers notes each → ¬ (AreOfOneBatch each)
      → IsAnswerTogether version answers notes (answer.Never version)
  case_misfit each have unfit = record {
    never = λ some. refl;
    held = λ none some. absurd (refuted IsHeld answers (none_held answers notes each have) some);
    reply = λ other too one.
        absurd (unfit (subst (λ (all : List ShardReply). AreOfOneBatch all) (same_replies answers notes other each too have) one));
    misfit = λ other too none. refl;
  }
