-- The batches that have a combined reply, in the order in which a shard has processed their clips, and what each shard has of them.
use Rattle.std.specs.Prelude.{◌≡◌, ◌||◌, ℕ, zero, suc, ℤ, negsuc, Bool, true, false, List, [], ◌∷◌, length, filter, Some, slice_get, slice_index_or}
use Rattle.std.specs.List.{AllZip, list_any}
use Rattle.std.specs.Ordering.{int_eq}
use Rattle.std.proofs.Common.{refl, sym, ap, subst, ◌∙◌, inl, inr}
use Rattle.std.proofs.lemmas.Bool.{cases_Bool, false≢true, or_left, or_right}
use Rattle.std.proofs.lemmas.List.{length-map}
use Rattle.std.proofs.lemmas.Option.{get_or_from_slice_get}
use Rattle.keyspace.specs.declared.answer.Answer.{Answer}
use Rattle.keyspace.specs.declared.answer.Answer.TheVariants as answer
use Rattle.keyspace.specs.declared.batch.Batch.{Batch}
use Rattle.keyspace.specs.declared.reply.Reply.{Reply}
use Rattle.keyspace.specs.Processed.{Processed}
use Rattle.keyspace.specs.Run.{Step, answers, part, run}
use Rattle.serial.specs.Replies.{AnswersReportVerdicts}
use Rattle.serial.specs.Shards.{Shard, shards}
use Rattle.shards.specs.Clips.{IsBatchClip}
use Rattle.replay_workers.proofs.callers.Lists.{found}
use Rattle.replay_shards.specs.Notes.{notes_of}
use Rattle.replay_sharded.specs.Sharded.{IsLogOfShard, RepeatsAreEqual}
use Rattle.replay_sharded.proofs.CommittedLists.{
  HasVersionOf,
  IsIn,
  RisesFrom,
  chain_rises,
  contains,
  in_filter,
  is_in,
  is_same,
  partner_before,
  partner_of,
  rises_filter,
  rises_same,
  same_if,
  to_filter,
  zip_weaker,
}
use Rattle.replay_sharded.proofs.CommittedReplies.{IsOfAll, IsReplied, entry_of, of_all, taken}
use Rattle.replay_sharded.proofs.Logs.{choose}
use Rattle.replay_sharded.proofs.Resolved.{AreMergedOf, notes_by_shard}
use Rattle.replay_sharded.proofs.Taking.{zip_length}

-- the answer is a reply of this version
abbrev pub replies_at : ℤ → Answer → Bool
replies_at version (answer.Reply reply) = int_eq reply.version version
replies_at version (answer.Never other) = false
replies_at version (answer.Held other) = false

-- the proxy of the batch is answered with a reply of its version
abbrev pub is_replied : List (List Answer) → Processed → Bool
is_replied together entry = list_any (replies_at entry.batch.version) (slice_index_or together entry.proxy [])

find_reply : (version : ℤ) (received : List Answer) → list_any (replies_at version) received ≡ true
    → (reply : Reply) × IsIn received (answer.Reply reply) × (reply.version ≡ version)
find_reply version [] is = absurd (false≢true is)
find_reply version (answer.Reply reply ∷ received) is =
    elim (cases_Bool (int_eq reply.version version)) [
      | inl same ↦ (reply, inl refl, same_if reply.version version same)
      | inr differs ↦
          let rest = find_reply version received (ap (λ (b : Bool). b || list_any (replies_at version) received) (sym differs) ∙ is) in
          (rest.0, inr rest.1, rest.2)
    ]
find_reply version (answer.Never other ∷ received) is =
    let rest = find_reply version received is in
    (rest.0, inr rest.1, rest.2)
find_reply version (answer.Held other ∷ received) is =
    let rest = find_reply version received is in
    (rest.0, inr rest.1, rest.2)

has_reply : (version : ℤ) (received : List Answer) (reply : Reply) → IsIn received (answer.Reply reply) → reply.version ≡ version
    → list_any (replies_at version) received ≡ true
has_reply version [] reply among at = absurd among
has_reply version (a ∷ received) reply (inl here) at =
    or_left (replies_at version a) (list_any (replies_at version) received)
    (ap (replies_at version) here ∙ (ap (λ (v : ℤ). int_eq v version) at ∙ is_same version))
has_reply version (a ∷ received) reply (inr later) at =
    or_right (replies_at version a) (list_any (replies_at version) received) (has_reply version received reply later at)

-- a proxy that has a reply has answers
answered_at : (together : List (List Answer)) (proxy : ℕ) (version : ℤ)
    → list_any (replies_at version) (slice_index_or together proxy []) ≡ true
    → (received : List Answer) × (slice_get together proxy ≡ Some received) × (list_any (replies_at version) received ≡ true)
answered_at [] proxy version is = absurd (false≢true is)
answered_at (received ∷ together) zero version is = (received, refl, is)
answered_at (received ∷ together) (suc proxy) version is = answered_at together proxy version is

-- a batch that its proxy has sent, with a reply that the proxy is answered
pub record IsOfTogether (sent : List (List Batch)) (together : List (List Answer)) (p : Processed) : Type 0 where
  pub own : List Batch
  pub sent_at : slice_get sent p.proxy ≡ Some own
  pub is_sent : IsIn own p.batch
  pub received : List Answer
  pub at : slice_get together p.proxy ≡ Some received
  pub replied : IsIn received (answer.Reply p.reply)
  pub version : p.reply.version ≡ p.batch.version

-- the shard has processed its clip, and replied to its proxy
pub record IsPartOf (window : ℤ) (shard : Shard) (log : List Step) (p c : Processed) : Type 0 where
  pub clip : IsBatchClip shard p.batch c.batch
  pub there : IsIn (run window log).processed c
  pub received : IsIn (answers window log p.proxy) (answer.Reply c.reply)
  pub at_version : c.reply.version ≡ p.batch.version

-- the batch of which a shard has processed a clip
record IsMadeOf (sent : List (List Batch)) (together : List (List Answer)) (e p : Processed) : Type 0 where
  proxy : p.proxy ≡ e.proxy
  version : p.batch.version ≡ e.batch.version
  is : IsOfTogether sent together p

-- all such batches, in the order of their versions
pub record AreReplied (sent : List (List Batch)) (together : List (List Answer)) (ps : List Processed) : Type 0 where
  pub each : (p : Processed) → IsIn ps p → IsOfTogether sent together p
  pub rises : RisesFrom (negsuc 0) ps
  pub all :
      (proxy : ℕ) (received : List Answer) (reply : Reply) → slice_get together proxy ≡ Some received
      → IsIn received (answer.Reply reply) → (p : Processed) × IsIn ps p × (p.proxy ≡ proxy) × (p.batch.version ≡ reply.version)

module _ (known_verdicts : AnswersReportVerdicts) (points : List (List ℕ)) (window : ℤ) (sent : List (List Batch)) (logs : List (List Step))
    (together : List (List Answer)) (count : length together ≡ length sent)
    (of : AllZip (IsLogOfShard window sent) (shards points) logs) (merged : AreMergedOf points window sent logs together) where
  -- a reply to the proxy is that of all shards
  pub all_of : (proxy : ℕ) (own : List Batch) (received : List Answer) (reply : Reply) → slice_get sent proxy ≡ Some own
      → slice_get together proxy ≡ Some received → IsIn received (answer.Reply reply) → IsOfAll window logs proxy reply
  all_of proxy own received reply sent_at at among =
      of_all window logs proxy (notes_by_shard points own) received reply (merged proxy own received sent_at at)
      (length-map (shards points) (λ shard. notes_of shard own)
      ∙ sym (zip_length (IsLogOfShard window sent) (shards points) logs of)) among

  -- what a shard has of a batch with such a reply
  pub part_of : RepeatsAreEqual sent → (shard : Shard) (log : List Step) → IsIn logs log → IsLogOfShard window sent shard log
      → (p : Processed) → IsOfTogether sent together p → (c : Processed) × IsPartOf window shard log p c
  part_of once shard log among own p is =
      let all = all_of p.proxy is.own is.received p.reply is.sent_at is.at is.replied in
      let s = partner_of (IsReplied window p.proxy all.version) logs all.each all.of_shards log among in
      let entry = entry_of known_verdicts window log p.proxy s.0.reply s.2.received in
      let e = entry.0 in
      let at_version : s.0.reply.version ≡ p.batch.version = s.2.at_version ∙ (sym all.together.version ∙ is.version) in
      let sent_at : slice_get sent e.proxy ≡ Some is.own = ap (λ (proxy : ℕ). slice_get sent proxy) entry.2 ∙ is.sent_at in
      let original =
      partner_before (IsBatchClip shard) is.own (part log e.proxy) (own.clips e.proxy is.own sent_at) e.batch
      (taken known_verdicts window log e entry.1) in
      let same : original.0 ≡ p.batch =
      once p.proxy is.own original.0 p.batch is.sent_at (contains is.own original.0 original.1) (contains is.own p.batch is.is_sent)
      (sym original.2.version ∙ (entry.3 ∙ at_version)) in (
        e,
        record {
          clip = subst (λ (b : Batch). IsBatchClip shard b e.batch) same original.2;
          there = entry.1;
          received = subst (λ (r : Reply). IsIn (answers window log p.proxy) (answer.Reply r)) (sym entry.4) s.2.received;
          at_version = ap (λ (r : Reply). r.version) entry.4 ∙ at_version;
        },
      )

  -- The batches of one shard that have a combined reply, as they were sent. No other batch has one.
  module _ (shard : Shard) (log : List Step) (among : IsIn logs log) (own : IsLogOfShard window sent shard log) where
    abbrev chain : List Processed
    chain = (run window log).processed

    abbrev clips : List Processed
    clips = filter (is_replied together) chain

    made : (e : Processed) → IsIn chain e → is_replied together e ≡ true → (p : Processed) × IsMadeOf sent together e p
    made e inside is =
        let answered = answered_at together e.proxy e.batch.version is in
        let reply = find_reply e.batch.version answered.0 answered.2 in
        let of_proxy = found together sent e.proxy answered.0 (sym count) answered.1 in
        let original =
        partner_before (IsBatchClip shard) of_proxy.0 (part log e.proxy) (own.clips e.proxy of_proxy.0 of_proxy.1) e.batch
        (taken known_verdicts window log e inside) in
        let same : original.0.version ≡ e.batch.version = sym original.2.version in (
          record { proxy = e.proxy; batch = original.0; reply = reply.0 },
          record {
            proxy = refl;
            version = same;
            is = record {
              own = of_proxy.0;
              sent_at = of_proxy.1;
              is_sent = original.1;
              received = answered.0;
              at = answered.1;
              replied = reply.1;
              version = reply.2 ∙ sym same;
            };
          },
        )

    pub replied_batches : (ps : List Processed) × AreReplied sent together ps
    replied_batches =
        let Made : Processed → Processed → Type 0 = IsMadeOf sent together in
        let all =
        choose Made clips (λ place e at.
        let inside = in_filter (is_replied together) chain e (is_in clips place e at) in
        made e inside.0 inside.1) in
        let ps = all.0 in (
          ps,
          record {
            each = λ p inside. (partner_before Made clips ps all.1 p inside).2.is;
            rises =
                rises_same (negsuc 0) clips ps (zip_weaker Made HasVersionOf (λ e p is. is.version) clips ps all.1)
                (rises_filter (is_replied together) (negsuc 0) chain (chain_rises window [] chain own.chain));
            all = λ proxy received reply at inside.
                let of_proxy = found together sent proxy received (sym count) at in
                let every = all_of proxy of_proxy.0 received reply of_proxy.1 at inside in
                let s = partner_of (IsReplied window proxy every.version) logs every.each every.of_shards log among in
                let entry = entry_of known_verdicts window log proxy s.0.reply s.2.received in
                let e = entry.0 in
                let same : e.batch.version ≡ reply.version = entry.3 ∙ (s.2.at_version ∙ sym every.together.version) in
                let Test : List Answer → Bool = λ l. list_any (replies_at e.batch.version) l in
                let passes : is_replied together e ≡ true =
                ap (λ (proxy : ℕ). Test (slice_index_or together proxy [])) entry.2
                ∙ (ap Test (get_or_from_slice_get together proxy received [] at)
                ∙ has_reply e.batch.version received reply inside (sym same)) in
                let p = partner_of Made clips ps all.1 e (to_filter (is_replied together) chain e entry.1 passes) in
                (p.0, p.1, p.2.proxy ∙ entry.2, p.2.version ∙ same);
          },
        )
