-- The reply of one shard more, with its note.
use Rattle.std.proofs.Common.{Global, ◌≡◌, ◌∙◌, ℕ, zero, suc, ◌+◌, ℤ, List, [], ◌∷◌, ◌++◌, map, take, vec_items, refl, sym, ap, subst, arith}
use Rattle.std.specs.Prelude.{Option, Some, Vec, option_map, slice_get}
use denote.Ref.{Bor}
use Rattle.keyspace.specs.declared.answer.Answer.{Answer}
use Rattle.keyspace.specs.declared.answer.Answer.TheVariants.{Reply}
use Rattle.keyspace.specs.declared.reply.Reply.{Reply as ReplyValue}
use Rattle.shards.specs.declared.shard_reply.ShardReply.{ShardReply}
use Rattle.shards.proofs.callers.Combining.{take_next}
use Rattle.replay_shards.specs.declared.note.Note.{Note}
use Rattle.replay_shards.specs.declared.noted_reply.NotedReply.{NotedReply}
use Rattle.replay_shards.specs.Answers.{HaveReplied, reply_with_note, noted_in, noted_each}
use Rattle.replay_shards.specs.Notes.{first_note, first_notes}
use Rattle.replay_shards.proofs.Replied.{replied_more}

notes_next : (version : ℤ) (notes : List (Vec Note Global)) (i : ℕ) (own : Vec Note Global) → slice_get notes i ≡ Some own
    → first_notes version (map vec_items (take (i + 1) notes))
    ≡ first_notes version (map vec_items (take i notes)) ++ first_note version own.items ∷ []
notes_next version [] i own at = cc
notes_next version (x ∷ notes) zero own at = let same : x ≡ own = cc in ap (λ (y : Vec Note Global). first_note version y.items ∷ []) same
notes_next version (x ∷ notes) (suc i) own at =
    let more : suc i + 1 ≡ suc (i + 1) = omega arith in
    ap (λ n. first_notes version (map vec_items (take n (x ∷ notes)))) more
    ∙ ap (λ l. first_note version x.items ∷ l) (notes_next version notes i own at)

pushed : (each : List NotedReply) (own : NotedReply) → noted_each (each ++ own ∷ []) ≡ noted_each each ++ noted_in own ∷ []
pushed [] own = refl
pushed (x ∷ each) own = ap (λ l. noted_in x ∷ l) (pushed each own)

pub one_more : (version : ℤ) (answers : List Answer) (notes : List (Vec Note Global)) (old new : List NotedReply) (i : ℕ)
    (reply : ReplyValue) (note : Vec Note Global) (own : NotedReply) → slice_get answers i ≡ Some (Reply reply)
    → slice_get notes i ≡ Some note → new ≡ old ++ own ∷ [] → own.reply.now ≡ reply
    → option_map (λ (reads : Bor (List (List ℕ))). reads.now) own.reads ≡ first_note version note.items
    → HaveReplied (take i answers) (first_notes version (map vec_items (take i notes))) (noted_each old)
    → HaveReplied (take (i + 1) answers) (first_notes version (map vec_items (take (i + 1) notes))) (noted_each new)
one_more version answers notes old new i reply note own answer_at note_at is of_reply of_note have =
    let s : noted_in own ≡ reply_with_note reply (first_note version note.items) =
    ap (λ (r : ReplyValue). reply_with_note r (option_map (λ (reads : Bor (List (List ℕ))). reads.now) own.reads)) of_reply
    ∙ ap (reply_with_note reply) of_note in
    let all = replied_more (take i answers) (first_notes version (map vec_items (take i notes))) (noted_each old) reply
    (first_note version note.items) (noted_in own) have s in
    subst (λ (l : List ShardReply). HaveReplied (take (i + 1) answers) (first_notes version (map vec_items (take (i + 1) notes))) l)
    (sym (ap noted_each is ∙ pushed old own))
    (subst (λ (l : List (Option (List (List ℕ)))). HaveReplied (take (i + 1) answers) l (noted_each old ++ noted_in own ∷ []))
    (sym (notes_next version notes i note note_at))
    (subst (λ (l : List Answer). HaveReplied l (first_notes version (map vec_items (take i notes)) ++ first_note version note.items ∷ [])
    (noted_each old ++ noted_in own ∷ [])) (sym (take_next answers i (Reply reply) answer_at)) all))
