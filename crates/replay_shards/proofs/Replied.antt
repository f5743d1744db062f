-- Replies of all shards, beside their notes.
use Rattle.std.proofs.Common.{◌≡◌, ℕ, suc, ◌<◌, List, [], ◌∷◌, ◌++◌, length, ℤ, refl, sym, ap, ap₂, ◌∙◌, subst, inl, inr, ◌⊎◌, arith, All}
use Rattle.std.specs.Prelude.{◌≤ℤ◌, pos, Option, None, Some, Any}
use Rattle.std.proofs.lemmas.List.Elements.{All-nil, All-cons, All-head, All-tail, All-get_or}
use Rattle.keyspace.specs.declared.answer.Answer.{Answer}
use Rattle.keyspace.specs.declared.answer.Answer.TheVariants.{Reply, Never, Held}
use Rattle.keyspace.specs.declared.reply.Reply.{Reply as ReplyValue}
use Rattle.keyspace.specs.Answer.{version_of_answer}
use Rattle.shards.specs.declared.shard_reply.ShardReply.{ShardReply}
use Rattle.replay_shards.specs.Answers.{HaveReplied, IsHeld, IsNever, reply_with_note}

abbrev Notes : Type 0
Notes = List (Option (List (List ℕ)))

-- one shard more
pub replied_more : (answers : List Answer) (notes : Notes) (each : List ShardReply) (reply : ReplyValue) (kept : Option (List (List ℕ)))
    (s : ShardReply) → HaveReplied answers notes each → s ≡ reply_with_note reply kept
    → HaveReplied (answers ++ Reply reply ∷ []) (notes ++ kept ∷ []) (each ++ s ∷ [])
replied_more [] [] [] reply kept s have is = (is, tt)
replied_more (Reply r ∷ answers) (n ∷ notes) (first ∷ each) reply kept s have is =
    (have.0, replied_more answers notes each reply kept s have.1 is)
replied_more _ _ _ reply kept s have is = absurd have

-- they are given by the answers and the notes
pub same_replies : (answers : List Answer) (notes : Notes) (one other : List ShardReply) → HaveReplied answers notes one
    → HaveReplied answers notes other → one ≡ other
same_replies [] [] [] [] h k = refl
same_replies (Reply r ∷ answers) (n ∷ notes) (s ∷ one) (t ∷ other) h k =
    ap₂ (λ (x : ShardReply) xs. x ∷ xs) (h.0 ∙ sym k.0) (same_replies answers notes one other h.1 k.1)
same_replies [] [] [] (t ∷ other) h k = absurd k
same_replies (Reply r ∷ answers) (n ∷ notes) (s ∷ one) [] h k = absurd k
same_replies _ _ _ other h k = absurd h

-- then none of the answers is another one
pub none_never : (answers : List Answer) (notes : Notes) (each : List ShardReply) → HaveReplied answers notes each
    → All (λ a. IsNever a → ⊥) answers
none_never [] [] [] have = All-nil (λ a. IsNever a → ⊥)
none_never (Reply r ∷ answers) (n ∷ notes) (s ∷ each) have =
    All-cons (λ a. IsNever a → ⊥) (Reply r) answers (λ h. h) (none_never answers notes each have.1)
none_never _ _ _ have = absurd have

pub none_held : (answers : List Answer) (notes : Notes) (each : List ShardReply) → HaveReplied answers notes each
    → All (λ a. IsHeld a → ⊥) answers
none_held [] [] [] have = All-nil (λ a. IsHeld a → ⊥)
none_held (Reply r ∷ answers) (n ∷ notes) (s ∷ each) have =
    All-cons (λ a. IsHeld a → ⊥) (Reply r) answers (λ h. h) (none_held answers notes each have.1)
none_held _ _ _ have = absurd have

pub none_other : (answers : List Answer) (notes : Notes) (each : List ShardReply) → HaveReplied answers notes each
    → All (λ a. (IsNever a ⊎ IsHeld a) → ⊥) answers
none_other [] [] [] have = All-nil (λ a. (IsNever a ⊎ IsHeld a) → ⊥)
none_other (Reply r ∷ answers) (n ∷ notes) (s ∷ each) have =
    All-cons (λ a. (IsNever a ⊎ IsHeld a) → ⊥) (Reply r) answers (λ h. elim h [ inl h ↦ h | inr h ↦ h ])
    (none_other answers notes each have.1)
none_other _ _ _ have = absurd have

-- what holds of none holds of no element
pub refuted : {X : Type 0} (P : X → Type 0) (xs : List X) → All (λ x. P x → ⊥) xs → Any P xs → ⊥
refuted P xs none some = subst (λ x. P x → ⊥) some.3 (All-get_or (λ x. P x → ⊥) xs some.0 some.1 some.2 none) some.4

-- the replies have the version that the answers have
pub of_version : (version : ℤ) (answers : List Answer) (notes : Notes) (each : List ShardReply)
    → All (λ a. version_of_answer a ≡ version) answers → HaveReplied answers notes each
    → All (λ (s : ShardReply). s.reply.version ≡ version) each
of_version version [] [] [] all have = All-nil (λ (s : ShardReply). s.reply.version ≡ version)
of_version version (Reply r ∷ answers) (n ∷ notes) (s ∷ each) all have =
    let P = λ (a : Answer). version_of_answer a ≡ version in
    All-cons (λ (s : ShardReply). s.reply.version ≡ version) s each
    (ap (λ (t : ShardReply). t.reply.version) have.0 ∙ noted_version r n ∙ All-head P (Reply r) answers all)
    (of_version version answers notes each (All-tail P (Reply r) answers all) have.1)
  where
    noted_version : (reply : ReplyValue) (kept : Option (List (List ℕ))) → (reply_with_note reply kept).reply.version ≡ reply.version
    noted_version reply None = refl
    noted_version reply (Some reads) = refl
of_version version _ _ _ all have = absurd have

-- and there are as many
pub as_many : (answers : List Answer) (notes : Notes) (each : List ShardReply) → HaveReplied answers notes each
    → length each ≡ length answers
as_many [] [] [] have = refl
as_many (Reply r ∷ answers) (n ∷ notes) (s ∷ each) have = ap suc (as_many answers notes each have.1)
as_many _ _ _ have = absurd have

-- the version of replies isn't negative
pub natural_of : (version : ℤ) (answers : List Answer) (notes : Notes) (each : List ShardReply) → 0 < length answers
    → All (λ a. version_of_answer a ≡ version) answers → HaveReplied answers notes each → pos 0 ≤ℤ version
natural_of version [] notes each some all have = absurd (omega (arith, some))
natural_of version (Reply r ∷ answers) notes each some all have =
    subst (λ v. pos 0 ≤ℤ v) (All-head (λ (a : Answer). version_of_answer a ≡ version) (Reply r) answers all) r.natural
natural_of version (Never v ∷ answers) [] each some all have = absurd have
natural_of version (Never v ∷ answers) (n ∷ notes) [] some all have = absurd have
natural_of version (Never v ∷ answers) (n ∷ notes) (s ∷ each) some all have = absurd have
natural_of version (Held v ∷ answers) [] each some all have = absurd have
natural_of version (Held v ∷ answers) (n ∷ notes) [] some all have = absurd have
natural_of version (Held v ∷ answers) (n ∷ notes) (s ∷ each) some all have = absurd have
