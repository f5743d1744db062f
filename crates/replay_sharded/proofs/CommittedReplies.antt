-- What a combined reply says of the shards: each has replied to the proxy at this version, with the reply of a batch that it has processed.
use Rattle.std.specs.Prelude.{◌≡◌, ◌<◌, ℕ, suc, ℤ, Bool, List, [], ◌∷◌, length, map, Option, None, Some, slice_get, slice_index_or, Any}
use Rattle.std.specs.List.{AllZip}
use Rattle.std.specs.Ordering.{int_eq}
use Rattle.std.proofs.Common.{refl, sym, ap, subst, ◌∙◌, inl, inr, arith, append-nil}
use Rattle.std.proofs.lemmas.Bool.{cases_eq, cases_lt}
use Rattle.std.proofs.lemmas.List.{length-map}
use Rattle.std.proofs.lemmas.List.Elements.{All-head, All-nil}
use Rattle.std.proofs.lemmas.Option.{same_Some}
use Rattle.keyspace.specs.declared.answer.Answer.{Answer}
use Rattle.keyspace.specs.declared.answer.Answer.TheVariants as answer
use Rattle.keyspace.specs.declared.reply.Reply.{Reply}
use Rattle.keyspace.specs.Answer.{version_of_answer}
use Rattle.keyspace.specs.Processed.{Processed}
use Rattle.keyspace.specs.Run.{Step, answers, part, run}
use Rattle.serial.specs.Replies.{AnswersReportVerdicts, IsReplyTo}
use Rattle.shards.specs.declared.shard_reply.ShardReply.{ShardReply}
use Rattle.replay_shards.specs.declared.note.Note.{Note}
use Rattle.replay_shards.specs.Answers.{AreOfOneBatch, FitsIn, HaveReplied, IsHeld, IsNever, IsReplyTogether, reply_with_note}
use Rattle.replay_shards.specs.Merging.{AreMerged, IsOfMatch, Match, answers_at, matches_at, version_of_match}
use Rattle.replay_shards.specs.Notes.{first_note, first_notes}
use Rattle.replay_sharded.proofs.CommittedLists.{IsIn, contains, in_filter, index_of, is_in, is_same, partner_before, same_if, to_filter, zip_mapped}
use Rattle.replay_sharded.proofs.Taking.{zip_length, zip_over}

-- If the answer of all shards is a reply, every shard has replied.

any_first : {X : Type 0} (P : X → Type 0) (x : X) (xs : List X) → P x → Any P (x ∷ xs)
any_first P x xs it = (0, x, omega arith, refl, it)

any_later : {X : Type 0} (P : X → Type 0) (x : X) (xs : List X) → Any P xs → Any P (x ∷ xs)
any_later P x xs some = (suc some.0, some.1, omega (arith, some.2), some.3, some.4)

have_replied : (own : List Answer) (notes : List (Option (List (List ℕ)))) → length own ≡ length notes → (Any IsNever own → ⊥)
    → (Any IsHeld own → ⊥) → (each : List ShardReply) × HaveReplied own notes each
have_replied [] [] same unsaid unheld = ([], tt)
have_replied [] (kept ∷ notes) same unsaid unheld = absurd (omega (arith, same))
have_replied (a ∷ own) [] same unsaid unheld = absurd (omega (arith, same))
have_replied (answer.Reply reply ∷ own) (kept ∷ notes) same unsaid unheld =
    let rest = have_replied own notes (omega (arith, same)) (λ some. unsaid (any_later IsNever (answer.Reply reply) own some))
    (λ some. unheld (any_later IsHeld (answer.Reply reply) own some)) in
    (reply_with_note reply kept ∷ rest.0, (refl, rest.1))
have_replied (answer.Never version ∷ own) (kept ∷ notes) same unsaid unheld =
    absurd (unsaid (any_first IsNever (answer.Never version) own tt))
have_replied (answer.Held version ∷ own) (kept ∷ notes) same unsaid unheld =
    absurd (unheld (any_first IsHeld (answer.Held version) own tt))

noted_reply : (reply : Reply) (kept : Option (List (List ℕ))) → (reply_with_note reply kept).reply ≡ reply
noted_reply reply None = refl
noted_reply reply (Some reads) = refl

abbrev IsReplyOf : Answer → ShardReply → Type 0
IsReplyOf a s = a ≡ answer.Reply s.reply

have_each : (own : List Answer) (notes : List (Option (List (List ℕ)))) (each : List ShardReply) → HaveReplied own notes each
    → AllZip IsReplyOf own each
have_each [] [] [] have = tt
have_each (answer.Reply reply ∷ own) (kept ∷ notes) (s ∷ each) have =
    let same : s.reply ≡ reply = ap (λ (t : ShardReply). t.reply) have.0 ∙ noted_reply reply kept in
    (ap (λ (r : Reply). answer.Reply r) (sym same), have_each own notes each have.1)
have_each _ _ _ have = absurd have

-- A combined answer that isn't `Never` is of one batch: a double negation of what can be decided.

below_stable : (a b : ℕ) → ((a < b → ⊥) → ⊥) → a < b
below_stable a b twice =
    elim (cases_lt a b) [
      | inl below ↦ below
      | inr not_below ↦ absurd (twice (λ below. omega (arith, below, not_below)))
    ]

same_stable : (a b : ℕ) → ((a ≡ b → ⊥) → ⊥) → a ≡ b
same_stable a b twice =
    elim (cases_eq a b) [
      | inl same ↦ same
      | inr differs ↦ absurd (twice differs)
    ]

fits_stable : (count : ℕ) (s : ShardReply) → ((FitsIn count s → ⊥) → ⊥) → FitsIn count s
fits_stable count s twice = record {
  entries = same_stable (length s.reply.entries) count (λ differs. twice (λ fits. differs fits.entries));
  reads = same_stable (length s.reads) count (λ differs. twice (λ fits. differs fits.reads));
  places = λ j e indices at there k d inside.
      below_stable (slice_index_or e.places k d) (length indices)
      (λ above. twice (λ fits. above (fits.places j e indices at there k d inside)));
}

one_batch_stable : (each : List ShardReply) → ((AreOfOneBatch each → ⊥) → ⊥) → AreOfOneBatch each
one_batch_stable [] twice = (0, All-nil (FitsIn 0))
one_batch_stable (s ∷ each) twice =
    let count = length s.reply.entries in (
      count,
      λ k d inside.
          fits_stable count (slice_index_or (s ∷ each) k d) (λ differs. twice (λ one.
          let first : count ≡ one.0 = (All-head (FitsIn one.0) s each one.1).entries in
          differs (subst (λ (n : ℕ). FitsIn n (slice_index_or (s ∷ each) k d)) (sym first) (one.1 k d inside)))),
    )

never_reply : (reply : Reply) (version : ℤ) → answer.Reply reply ≡ answer.Never version → ⊥
never_reply reply version is = cc

held_reply : (reply : Reply) (version : ℤ) → answer.Reply reply ≡ answer.Held version → ⊥
held_reply reply version is = cc

one_reply : (one other : Reply) → answer.Reply one ≡ answer.Reply other → one ≡ other
one_reply one other is = cc

-- The combined replies, by the logs of the shards.

-- the shard has replied to the proxy, at this version
pub record IsReplied (window : ℤ) (proxy : ℕ) (version : ℤ) (log : List Step) (s : ShardReply) : Type 0 where
  pub received : IsIn (answers window log proxy) (answer.Reply s.reply)
  pub at_version : s.reply.version ≡ version

-- every shard has, and this is the reply of all
pub record IsOfAll (window : ℤ) (logs : List (List Step)) (proxy : ℕ) (reply : Reply) : Type 0 where
  pub version : ℤ
  pub each : List ShardReply
  pub of_shards : AllZip (IsReplied window proxy version) logs each
  pub together : IsReplyTogether version each reply

module _ (window : ℤ) (logs : List (List Step)) (proxy : ℕ) where
  abbrev own_answers : List Step → List Answer
  own_answers log = answers window log proxy

  one_replied : (version : ℤ) (i : ℕ) (log : List Step) (a : Answer) (s : ShardReply)
      → slice_get (answers_at version (own_answers log)) i ≡ Some a → IsReplyOf a s → IsReplied window proxy version log s
  one_replied version i log a s at is =
      let Of : Answer → Bool = λ item. int_eq (version_of_answer item) version in
      let found = in_filter Of (own_answers log) a (is_in (answers_at version (own_answers log)) i a at) in
      record {
        received = subst (λ (x : Answer). IsIn (answers window log proxy) x) is found.0;
        at_version = same_if s.reply.version version (ap Of (sym is) ∙ found.1);
      }

  pub of_all : (notes : List (List Note)) (together : List Answer) (reply : Reply) → AreMerged (map own_answers logs) notes together
      → length notes ≡ length logs → IsIn together (answer.Reply reply) → IsOfAll window logs proxy reply
  of_all notes together reply merged many among =
      let matched = merged.0 in
      let found = partner_before (IsOfMatch notes) matched together merged.2 (answer.Reply reply) among in
      let m = found.0 in
      let is = found.2 in
      let v = m.version in
      let At : Match → Bool = λ item. int_eq (version_of_match item) v in
      let at = index_of (matches_at v matched) m (to_filter At matched m found.1 (is_same v)) in
      let zip = merged.1.answers v at.0 m at.1 in
      let Is : List Answer → Answer → Type 0 = λ own a. slice_get (answers_at v own) at.0 ≡ Some a in
      let reads = first_notes v notes in
      let count : length m.answers ≡ length reads =
      zip_length Is (map own_answers logs) m.answers zip
      ∙ (length-map logs own_answers ∙ (sym many ∙ sym (length-map notes (first_note v)))) in
      let unsaid : Any IsNever m.answers → ⊥ = λ some. never_reply reply v (is.never some) in
      let unheld : Any IsHeld m.answers → ⊥ = λ some. held_reply reply v (is.held unsaid some) in
      let have = have_replied m.answers reads count unsaid unheld in
      let one = one_batch_stable have.0 (λ none. never_reply reply v (is.misfit have.0 have.1 none)) in
      let all = is.reply have.0 have.1 one in
      record {
        version = v;
        each = have.0;
        of_shards =
            zip_over (λ (log : List Step) (a : Answer). Is (own_answers log) a) IsReplyOf (IsReplied window proxy v)
            (λ log a s it is. one_replied v at.0 log a s it is) logs m.answers have.0
            (zip_mapped own_answers Is logs m.answers zip) (have_each m.answers reads have.0 have.1);
        together = subst (λ (r : Reply). IsReplyTogether v have.0 r) (sym (one_reply reply all.0 all.1)) all.2;
      }

-- What a reply of one shard says of its log.
module _ (known_verdicts : AnswersReportVerdicts) (window : ℤ) (log : List Step) where
  reply_to : (proxy : ℕ) (reply : Reply) → IsIn (answers window log proxy) (answer.Reply reply)
      → IsReplyTo window log proxy (part log proxy) reply
  reply_to proxy reply among =
      known_verdicts.replies window log proxy (part log proxy) [] (sym (append-nil (part log proxy))) reply
      (contains (answers window log proxy) (answer.Reply reply) among)

  -- it is that of a batch which was processed
  pub entry_of : (proxy : ℕ) (reply : Reply) → IsIn (answers window log proxy) (answer.Reply reply)
      → (entry : Processed) × IsIn (run window log).processed entry × (entry.proxy ≡ proxy)
      × (entry.batch.version ≡ reply.version) × (entry.reply ≡ reply)
  entry_of proxy reply among =
      let is = reply_to proxy reply among in
      (is.entry, is_in (run window log).processed is.index is.entry is.there, is.of_proxy, is.at_version, is.same)

  -- of each version there is one
  pub one_each : (proxy : ℕ) (one other : Reply) → IsIn (answers window log proxy) (answer.Reply one)
      → IsIn (answers window log proxy) (answer.Reply other) → one.version ≡ other.version → one ≡ other
  one_each proxy one other among also same =
      let first = reply_to proxy one among in
      let second = reply_to proxy other also in
      let index : second.index ≡ first.index =
      first.alone second.index second.entry second.there (second.at_version ∙ sym same) in
      let entry : second.entry ≡ first.entry =
      same_Some second.entry first.entry
      (sym second.there ∙ (ap (λ (i : ℕ). slice_get (run window log).processed i) index ∙ first.there)) in
      sym first.same ∙ (ap (λ (e : Processed). e.reply) (sym entry) ∙ second.same)

  -- each batch that was processed was taken from its proxy
  pub taken : (entry : Processed) → IsIn (run window log).processed entry → IsIn (part log entry.proxy) entry.batch
  taken entry among =
      let at = index_of (run window log).processed entry among in
      let is = known_verdicts.sent window log at.0 entry at.1 (part log entry.proxy) [] (sym (append-nil (part log entry.proxy))) in
      is_in (part log entry.proxy) (length (part is.before entry.proxy)) entry.batch is.next
