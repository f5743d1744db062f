-- Lines that keep their answers.
use Rattle.std.specs.Prelude.{◌≡◌, None, Some}
use Rattle.std.proofs.Common.{refl, sym, ap, ◌∙◌}
use Rattle.keyspace.specs.declared.answer.Answer.{Answer}
use Rattle.keyspace.specs.declared.answer.Answer.TheVariants as answer
use Rattle.keyspace.specs.declared.reply.Reply.{Reply}
use Rattle.keyspace.specs.Answer.{version_of_answer}
use Rattle.replay_summary.specs.declared.counted.Outcome.TheVariants.{Replied, Never, Held}
use Rattle.replay_summary.specs.declared.counted.Counted.{Counted}
use Rattle.replay_summary.specs.declared.counts.Counts.{Counts}
use Rattle.replay_summary.specs.Counted.{counted_of}
use Rattle.replay_output.specs.declared.line.Line.{Line}
use Rattle.replay_output.specs.declared.options.form.Form.TheVariants.{Kept}
use Rattle.replay_output.specs.Line.{answer_of, kept_of, version_of_line}
use Rattle.replay_shards.specs.Answered.{IsKept}

reply_if : (a : Answer) (r : Reply) → kept_of Kept a ≡ Some r → answer.Reply r ≡ a
reply_if (answer.Reply reply) r is = let same : reply ≡ r = cc in ap (λ (x : Reply). answer.Reply x) (sym same)
reply_if (answer.Never version) r is = absurd (let no : ⊥ = cc in no)
reply_if (answer.Held version) r is = absurd (let no : ⊥ = cc in no)

held_if : (a : Answer) → (counted_of a).outcome ≡ Held → answer.Held (counted_of a).version ≡ a
held_if (answer.Reply reply) is = absurd (let no : ⊥ = cc in no)
held_if (answer.Never version) is = absurd (let no : ⊥ = cc in no)
held_if (answer.Held version) is = refl

never_if : (a : Answer) → (counted_of a).outcome ≡ Never → answer.Never (counted_of a).version ≡ a
never_if (answer.Reply reply) is = absurd (let no : ⊥ = cc in no)
never_if (answer.Never version) is = refl
never_if (answer.Held version) is = absurd (let no : ⊥ = cc in no)

replied_if : (a : Answer) (counts : Counts) → (counted_of a).outcome ≡ Replied counts → kept_of Kept a ≡ None → ⊥
replied_if (answer.Reply reply) counts is none = cc
replied_if (answer.Never version) counts is none = cc
replied_if (answer.Held version) counts is none = cc

pub kept_reply : (l : Line) (r : Reply) → IsKept l → l.reply ≡ Some r → answer.Reply r ≡ answer_of l
kept_reply l r kept is = reply_if (answer_of l) r (sym kept.reply ∙ is)

pub kept_held : (l : Line) → IsKept l → l.counted.outcome ≡ Held → answer.Held l.counted.version ≡ answer_of l
kept_held l kept is =
    ap (λ (c : Counted). answer.Held c.version) kept.counted ∙ held_if (answer_of l) (sym (ap (λ (c : Counted). c.outcome) kept.counted) ∙ is)

pub kept_never : (l : Line) → IsKept l → l.counted.outcome ≡ Never → answer.Never l.counted.version ≡ answer_of l
kept_never l kept is =
    ap (λ (c : Counted). answer.Never c.version) kept.counted ∙ never_if (answer_of l) (sym (ap (λ (c : Counted). c.outcome) kept.counted) ∙ is)

pub kept_replied : (l : Line) (counts : Counts) → IsKept l → l.counted.outcome ≡ Replied counts → l.reply ≡ None → ⊥
kept_replied l counts kept is none =
    replied_if (answer_of l) counts (sym (ap (λ (c : Counted). c.outcome) kept.counted) ∙ is) (sym kept.reply ∙ none)

-- the version by which the line is sorted is that of the answer
version_counted : (a : Answer) → (counted_of a).version ≡ version_of_answer a
version_counted (answer.Reply reply) = refl
version_counted (answer.Never version) = refl
version_counted (answer.Held version) = refl

pub version_kept : (l : Line) → IsKept l → version_of_line l ≡ version_of_answer (answer_of l)
version_kept l kept = ap (λ (c : Counted). c.version) kept.counted ∙ version_counted (answer_of l)
