use Rattle.std.proofs.Common.{Global, ◌≡◌, ◌<◌, ◌⊎◌, true, false, FitsSigned, w64, to_z, of_z, ℤ, List, length, map, vec_items, Vec, refl, ap, sym, subst, rules, arith}
use Rattle.std.specs.Prelude.{Option, None, Any, MatchOption}
use Rattle.std.proofs.lemmas.Int.{to_z-of_z}
use Rattle.keyspace.specs.declared.answer.Answer.{Answer}
use Rattle.keyspace.specs.declared.answer.Answer.TheVariants as answer
use Rattle.keyspace.specs.declared.reply.Reply.{Reply}
use Rattle.replay_shards.specs.declared.note.Note.{Note}
use Rattle.replay_shards.specs.declared.noted_reply.NotedReply.{NotedReply}
use Rattle.replay_shards.specs.Answers.{AreOfOneBatch, HaveReplied, IsAnswerTogether, IsHeld, IsNever, IsReplyTogether, noted_each}
use Rattle.replay_shards.specs.Notes.{first_notes}
use Rattle.replay_shards.proofs.Cases.{case_never, case_held, case_reply, case_misfit}
use Rattle.replay_shards.proofs.NotedLists.{as_long}
use Rattle.replay_shards.proofs.Replied.{as_many}
use Rattle.replay_shards.proofs.answer.combined_answer.Goals as goal

-- from the number that the calls got to the version
at_version : (notes : List (List Note)) (answers : List Answer) (v w : ℤ) (together : Answer) → v ≡ w
    → IsAnswerTogether v answers (first_notes v notes) together → IsAnswerTogether w answers (first_notes w notes) together
at_version notes answers v w together same is =
    subst (λ (u : ℤ). IsAnswerTogether u answers (first_notes u notes) together) same is

pub returns-then-has_never-clause-together : goal.returns-then-has_never-clause-together
returns-then-has_never-clause-together c =
    let answers = c.args.answers.now in
    let version = c.args.version in
    let fits : FitsSigned w64 version = search rules in
    let notes : List (List Note) = map (vec_items {X = Note} {Z = Global}) c.args.notes.now in
    let v = to_z w64 (of_z w64 version) in
    at_version notes answers v version (answer.Never v) (to_z-of_z w64 version fits)
    (case_never v answers (first_notes v notes) (c.if-has_never.ensures.never.0 refl))

pub returns-in_default-clause-together : goal.returns-in_default-clause-together
returns-in_default-clause-together c =
    let answers = c.args.answers.now in
    let version = c.args.version in
    let fits : FitsSigned w64 version = search rules in
    let notes : List (List Note) = map (vec_items {X = Note} {Z = Global}) c.args.notes.now in
    let v = to_z w64 (of_z w64 version) in
    let none : c.in_ok-each.field-0 ≡ None = search rules in
    let some = subst (λ (found : Option (Vec NotedReply Global)). MatchOption found (Any (λ a. IsNever a ⊎ IsHeld a) answers)
    (λ each. HaveReplied answers (first_notes v notes) (noted_each each.items))) none c.in_ok-each.ensures.replies in
    at_version notes answers v version (answer.Held v) (to_z-of_z w64 version fits)
    (case_held v answers (first_notes v notes)
    (λ h. let clash : false ≡ true = c.if-has_never.ensures.never.1 h in cc) some)

pub combined_reply-requires-clause-some : goal.combined_reply-requires-clause-some
combined_reply-requires-clause-some c =
    let answers = c.args.answers.now in
    let notes : List (List Note) = map (vec_items {X = Note} {Z = Global}) c.args.notes.now in
    let v = to_z w64 (of_z w64 c.args.version) in
    let each = c.in-Some.each.items in
    let have = subst (λ (found : Option (Vec NotedReply Global)). MatchOption found (Any (λ a. IsNever a ⊎ IsHeld a) answers)
    (λ each. HaveReplied answers (first_notes v notes) (noted_each each.items))) c.in-Some.is c.in_ok-each.ensures.replies in
    let count = as_many answers (first_notes v notes) (noted_each each) have in
    let long = as_long each in
    let same = ap (λ (l : List NotedReply). length l) c.deref.ensures.value in
    let some : 0 < length answers = c.requires.some in
    omega (arith, count, long, same, some)

pub returns-in-Some-2-clause-together : goal.returns-in-Some-2-clause-together
returns-in-Some-2-clause-together c =
    let answers = c.args.answers.now in
    let version = c.args.version in
    let fits : FitsSigned w64 version = search rules in
    let notes : List (List Note) = map (vec_items {X = Note} {Z = Global}) c.args.notes.now in
    let v = to_z w64 (of_z w64 version) in
    let each = c.deref.result.now in
    let have = subst (λ (found : Option (Vec NotedReply Global)). MatchOption found (Any (λ a. IsNever a ⊎ IsHeld a) answers)
    (λ each. HaveReplied answers (first_notes v notes) (noted_each each.items))) c.in-Some.is c.in_ok-each.ensures.replies in
    let here = subst (λ (l : List NotedReply). HaveReplied answers (first_notes v notes) (noted_each l)) (sym c.deref.ensures.value) have in
    let both = subst (λ (found : Option Reply). MatchOption found (¬ AreOfOneBatch (noted_each each))
    (λ reply. AreOfOneBatch (noted_each each) × IsReplyTogether v (noted_each each) reply)) c.in-Some-2.is c.in_ok-reply.ensures.together in
    at_version notes answers v version (answer.Reply c.in-Some-2.reply) (to_z-of_z w64 version fits)
    (case_reply v answers (first_notes v notes) (noted_each each) c.in-Some-2.reply here both.0 both.1)

pub returns-clause-together : goal.returns-clause-together
returns-clause-together c =
    let answers = c.args.answers.now in
    let version = c.args.version in
    let fits : FitsSigned w64 version = search rules in
    let notes : List (List Note) = map (vec_items {X = Note} {Z = Global}) c.args.notes.now in
    let v = to_z w64 (of_z w64 version) in
    let each = c.deref.result.now in
    let have = subst (λ (found : Option (Vec NotedReply Global)). MatchOption found (Any (λ a. IsNever a ⊎ IsHeld a) answers)
    (λ each. HaveReplied answers (first_notes v notes) (noted_each each.items))) c.in-Some.is c.in_ok-each.ensures.replies in
    let here = subst (λ (l : List NotedReply). HaveReplied answers (first_notes v notes) (noted_each l)) (sym c.deref.ensures.value) have in
    let unfit = subst (λ (found : Option Reply). MatchOption found (¬ AreOfOneBatch (noted_each each))
    (λ reply. AreOfOneBatch (noted_each each) × IsReplyTogether v (noted_each each) reply)) c.in-None.is c.in_ok-reply.ensures.together in
    at_version notes answers v version (answer.Never v) (to_z-of_z w64 version fits)
    (case_misfit v answers (first_notes v notes) (noted_each each) here unfit)
