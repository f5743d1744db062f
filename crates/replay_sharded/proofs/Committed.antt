-- What the combined answers report as committed is serializable: the batches that have a combined reply are those of which every shard has
-- processed a clip, so the law of `shards` speaks of them.
use Rattle.std.specs.Prelude.{◌≡◌, ◌<◌, ◌≤◌, ℕ, suc, ℤ, negsuc, List, [], ◌∷◌, length, take, drop, Some, slice_get, IsSomeAnd, Contains}
use Rattle.std.specs.List.{AllZip}
use Rattle.std.proofs.Common.{refl, sym, ap, subst, ◌∙◌, inl, inr, arith}
use Rattle.std.proofs.lemmas.Option.{same_Some, slice_get_within}
use Rattle.keys.proofs.callers.Lists.{some_at as element_at}
use Rattle.keyspace.specs.declared.answer.Answer.{Answer}
use Rattle.keyspace.specs.declared.answer.Answer.TheVariants as answer
use Rattle.keyspace.specs.declared.batch.Batch.{Batch}
use Rattle.keyspace.specs.declared.reply.Entry.{Entry}
use Rattle.keyspace.specs.declared.reply.Reply.{Reply}
use Rattle.keyspace.specs.declared.reply.Verdict.TheVariants.{Committed}
use Rattle.keyspace.specs.Processed.{Processed}
use Rattle.keyspace.specs.Run.{Step, run}
use Rattle.serial.specs.Replies.{AnswersReportVerdicts, IsCommittedAt, ReportsCommitted}
use Rattle.serial.specs.Serial.{IsSerializable}
use Rattle.serial.specs.Shards.{IsRising, Shard, shards}
use Rattle.serial.proofs.callers.Reading.{partner, some_at, split_at, the_value}
use Rattle.shards.specs.declared.shard_reply.ShardReply.{ShardReply}
use Rattle.shards.specs.Clips.{IsBatchClip, IsTxnClip}
use Rattle.shards.specs.Combined.{IsCombined}
use Rattle.shards.specs.Laws.{AreCombinedAmongOthers, AreRepliesTo, IsOfChain}
use Rattle.replay_sharded.specs.Sharded.{CommitsSerializably, IsLogOfShard, RepeatsAreEqual}
use Rattle.replay_sharded.proofs.CommittedLists.{
  HasVersionOf,
  IsIn,
  all_in,
  chain_rises,
  contains,
  from_contains,
  index_of,
  is_in,
  of_all_in,
  partner_before,
  partner_of,
  rises_among,
  rises_later,
  rises_same,
  zip_beside,
  zip_second,
  zip_weaker,
}
use Rattle.replay_sharded.proofs.CommittedParts.{AreReplied, IsOfTogether, IsPartOf, all_of, part_of, replied_batches}
use Rattle.replay_sharded.proofs.CommittedReplies.{IsOfAll, IsReplied, one_each}
use Rattle.replay_sharded.proofs.CommittedVerdicts.{HasSameReply, committed_by}
use Rattle.replay_sharded.proofs.Logs.{choose, zip_at}
use Rattle.replay_sharded.proofs.Resolved.{AreMergedOf}
use Rattle.replay_sharded.proofs.Sizes.{some_shard}
use Rattle.replay_sharded.proofs.Taking.{zip_length}

-- what all shards commit is serializable (`shards::laws::serializable_among_others`)
abbrev pub AreSerializableAmongOthers : Type 0
AreSerializableAmongOthers =
    (window : ℤ) (points : List (List ℕ)) (each : List (List Processed)) (ps : List Processed)
    → AreCombinedAmongOthers window points each ps → IsSerializable ps

-- a shard's list of clips, in the order of the batches
abbrev AreClips : List Processed → Shard → List Processed → Type 0
AreClips ps shard own = AllZip (λ p c. IsBatchClip shard p.batch c.batch) ps own

record IsOwnList (window : ℤ) (ps : List Processed) (log : List Step) (own : List Processed) : Type 0 where
  shard : Shard
  parts : AllZip (IsPartOf window shard log) ps own
  of_chain : IsOfChain window own

-- a clip has the entries of its transactions
entries_of : (window : ℤ) (sent : List (List Batch)) (shard : Shard) (log : List Step) → IsLogOfShard window sent shard log
    → (p c : Processed) → IsPartOf window shard log p c → length c.reply.entries ≡ length p.batch.txns
entries_of window sent shard log own p c is =
    let chain = (run window log).processed in
    let at = index_of chain c is.there in
    let judged = (own.chain (take at.0 chain) c (drop (suc at.0) chain) (split_at chain at.0 c at.1)).judged in
    judged.count ∙ zip_length (IsTxnClip shard) p.batch.txns c.batch.txns is.clip.txns

module _ (known_verdicts : AnswersReportVerdicts) (points : List (List ℕ)) (window : ℤ) (sent : List (List Batch)) (logs : List (List Step))
    (together : List (List Answer)) (count : length together ≡ length sent)
    (of : AllZip (IsLogOfShard window sent) (shards points) logs) (merged : AreMergedOf points window sent logs together)
    (once : RepeatsAreEqual sent) (ps : List Processed) (are : AreReplied sent together ps) where
  -- one shard
  own_list : (shard : Shard) (log : List Step) → IsIn logs log → IsLogOfShard window sent shard log
      → (own : List Processed) × IsOwnList window ps log own × AreClips ps shard own
  own_list shard log among own =
      let Part : Processed → Processed → Type 0 = IsPartOf window shard log in
      let chain = (run window log).processed in
      let parts =
      choose Part ps (λ place p at.
      part_of known_verdicts points window sent logs together count of merged once shard log among own p (are.each p (is_in ps place p at))) in
      let rises =
      rises_same (negsuc 0) ps parts.0 (zip_weaker Part HasVersionOf (λ p c is. is.clip.version) ps parts.0 parts.1) are.rises in
      let inside =
      rises_among (negsuc 0) parts.0 chain rises (chain_rises window [] chain own.chain)
      (λ c of_own. (partner_before Part ps parts.0 parts.1 c of_own).2.there) in (
        parts.0,
        record { shard = shard; parts = parts.1; of_chain = (chain, own.chain, inside) },
        zip_weaker Part (λ p c. IsBatchClip shard p.batch c.batch) (λ p c is. is.clip) ps parts.0 parts.1,
      )

  -- all of them
  own_lists : (some : List Shard) (rest : List (List Step)) → AllZip (IsLogOfShard window sent) some rest
      → ((log : List Step) → IsIn rest log → IsIn logs log)
      → (each : List (List Processed)) × AllZip (AreClips ps) some each × AllZip (IsOwnList window ps) rest each
  own_lists [] [] zip all = ([], tt, tt)
  own_lists [] (log ∷ rest) zip all = absurd zip
  own_lists (shard ∷ some) [] zip all = absurd zip
  own_lists (shard ∷ some) (log ∷ rest) zip all =
      let first = own_list shard log (all log (inl refl)) zip.0 in
      let later = own_lists some rest zip.1 (λ other inside. all other (inr inside)) in
      (first.0 ∷ later.0, (first.2, later.1), (first.1, later.2))

  -- one shard's reply to a batch is that of its clip
  one_of : (i : ℕ) (p : Processed) → slice_get ps i ≡ Some p → IsOfTogether sent together p → (version : ℤ)
      → p.reply.version ≡ version → (log : List Step) (own : List Processed) (s : ShardReply) → IsOwnList window ps log own
      → IsReplied window p.proxy version log s → IsSomeAnd (slice_get own i) (λ c. s.reply ≡ c.reply)
  one_of i p at is version same log own s list replied =
      let c = partner (IsPartOf window list.shard log) ps own list.parts i p at in
      some_at (λ (c : Processed). s.reply ≡ c.reply) (slice_get own i) c.0 c.1
      (one_each known_verdicts window log p.proxy s.reply c.0.reply replied.received c.2.received
      (replied.at_version ∙ (sym same ∙ (is.version ∙ sym c.2.at_version))))

  -- a combined reply to a proxy is that of all shards
  combined : (p : Processed) (is : IsOfTogether sent together p) (reply : Reply) → IsIn is.received (answer.Reply reply)
      → IsOfAll window logs p.proxy reply
  combined p is reply inside =
      all_of known_verdicts points window sent logs together count of merged p.proxy is.own is.received reply is.sent_at is.at inside

  module _ (first : Shard) (log : List Step) (among : IsIn logs log) (own : IsLogOfShard window sent first log) where
    -- it has an entry per transaction
    count_of : (p : Processed) → IsOfTogether sent together p → (reply : Reply) → IsOfAll window logs p.proxy reply
        → reply.version ≡ p.batch.version → length reply.entries ≡ length p.batch.txns
    count_of p is reply all same =
        let s = partner_of (IsReplied window p.proxy all.version) logs all.each all.of_shards log among in
        let c = part_of known_verdicts points window sent logs together count of merged once first log among own p is in
        let one : s.0.reply ≡ c.0.reply =
        one_each known_verdicts window log p.proxy s.0.reply c.0.reply s.2.received c.1.received
        (s.2.at_version ∙ (sym all.together.version ∙ (same ∙ sym c.1.at_version))) in
        sym (of_all_in (λ (t : ShardReply). length t.reply.entries ≡ length reply.entries) all.each s.0 all.together.count s.1)
        ∙ (ap (λ (r : Reply). length r.entries) one ∙ entries_of window sent first log own p c.0 c.1)

    replies_to : (each : List (List Processed)) → AllZip (IsOwnList window ps) logs each → (i : ℕ) (p : Processed)
        → slice_get ps i ≡ Some p
        → (replies : List ShardReply) × AreRepliesTo i each replies × IsCombined p.batch replies p.reply
    replies_to each lists i p at =
        let is = are.each p (is_in ps i p at) in
        let all = combined p is p.reply is.replied in (
          all.each,
          zip_beside (IsOwnList window ps) (IsReplied window p.proxy all.version)
              (λ (own : List Processed) (s : ShardReply). IsSomeAnd (slice_get own i) (λ c. s.reply ≡ c.reply)) logs each all.each
              (λ log own s inside list replied. one_of i p at is all.version all.together.version log own s list replied) lists
              all.of_shards,
          record {
            version = is.version;
            count = count_of p is p.reply all is.version;
            entries = all.together.entries;
          },
        )

    -- what a combined reply reports as committed is of these batches
    reported : (proxy : ℕ) (received : List Answer) (version : ℤ) (j : ℕ) → slice_get together proxy ≡ Some received
        → ReportsCommitted received version j → IsCommittedAt ps proxy version j
    reported proxy received version j at reports =
        let r = reports.reply in
        let inside = from_contains received (answer.Reply r) reports.is_received in
        let entry = are.all proxy received r at inside in
        let p = entry.0 in
        let is = are.each p entry.1 in
        let same : received ≡ is.received =
        same_Some received is.received (sym at ∙ (ap (λ (q : ℕ). slice_get together q) (sym entry.2) ∙ is.at)) in
        let one = combined p is r (subst (λ (l : List Answer). IsIn l (answer.Reply r)) same inside) in
        let other = combined p is p.reply is.replied in
        let zip : AllZip HasSameReply one.each other.each =
        zip_beside (IsReplied window p.proxy one.version) (IsReplied window p.proxy other.version) HasSameReply logs one.each
        other.each
        (λ log s t inside first second. one_each known_verdicts window log p.proxy s.reply t.reply first.received second.received
        (first.at_version
        ∙ (sym one.together.version
        ∙ (sym entry.3 ∙ (sym is.version ∙ (other.together.version ∙ sym second.at_version))))))
        one.of_shards other.of_shards in
        let e = the_value (λ (e : Entry). e.verdict ≡ Committed) (slice_get r.entries j) reports.verdict in
        let within = slice_get_within r.entries j e.0 e.1 in
        let one_count = count_of p is r one (sym entry.3) in
        let other_count = count_of p is p.reply other is.version in
        let f = element_at p.reply.entries j (omega (arith, within, one_count, other_count)) in
        let txn = element_at p.batch.txns j (omega (arith, within, one_count)) in
        let verdict =
        committed_by one.each other.each j e.0.verdict f.0.verdict zip (one.together.entries j e.0 e.1).verdict e.2
        (other.together.entries j f.0 f.1).verdict in
        let index = index_of ps p entry.1 in
        record {
          index = index.0;
          entry = p;
          txn = txn.0;
          committed = record {
            batch = index.1;
            txn = txn.1;
            verdict = some_at (λ (e : Entry). e.verdict ≡ Committed) (slice_get p.reply.entries j) f.0 f.1 verdict;
          };
          of_proxy = entry.2;
          at_version = entry.3 ∙ reports.at_version;
        }

  -- and the other way round
  all_reported : (proxy : ℕ) (received : List Answer) (version : ℤ) (j : ℕ) → slice_get together proxy ≡ Some received
      → IsCommittedAt ps proxy version j → ReportsCommitted received version j
  all_reported proxy received version j at committed =
      let p = committed.entry in
      let is = are.each p (is_in ps committed.index p committed.committed.batch) in
      let same : is.received ≡ received =
      same_Some is.received received (sym is.at ∙ (ap (λ (q : ℕ). slice_get together q) committed.of_proxy ∙ at)) in
      record {
        reply = p.reply;
        is_received =
            contains received (answer.Reply p.reply) (subst (λ (l : List Answer). IsIn l (answer.Reply p.reply)) same is.replied);
        at_version = is.version ∙ committed.at_version;
        verdict = committed.committed.verdict;
      }

-- there is a shard
first_log : (window : ℤ) (sent : List (List Batch)) (some : List Shard) (rest : List (List Step)) → 1 ≤ length some
    → AllZip (IsLogOfShard window sent) some rest
    → (shard : Shard) × (log : List Step) × IsIn rest log × IsLogOfShard window sent shard log
first_log window sent [] rest one zip = absurd (omega (arith, one))
first_log window sent (shard ∷ some) [] one zip = absurd zip
first_log window sent (shard ∷ some) (log ∷ rest) one zip = (shard, log, inl refl, zip.0)

pub serializable : AnswersReportVerdicts → AreSerializableAmongOthers → (points : List (List ℕ)) (window : ℤ) (sent : List (List Batch))
    (logs : List (List Step)) (together : List (List Answer)) → IsRising [] points → length together ≡ length sent
    → AllZip (IsLogOfShard window sent) (shards points) logs → AreMergedOf points window sent logs together → RepeatsAreEqual sent
    → CommitsSerializably sent together
serializable known_verdicts law points window sent logs together rising count of merged once =
    let first = first_log window sent (shards points) logs (some_shard [] points) of in
    let found = replied_batches known_verdicts points window sent logs together count of merged first.0 first.1 first.2 first.3 in
    let ps = found.0 in
    let are = found.1 in
    let lists =
    own_lists known_verdicts points window sent logs together count of merged once ps are (shards points) logs of (λ log inside. inside) in
    record {
      processed = ps;
      were_sent =
          all_in (λ (p : Processed). IsSomeAnd (slice_get sent p.proxy) (λ own. Contains own p.batch)) ps (λ p inside.
          let is = are.each p inside in
          some_at (λ (own : List Batch). Contains own p.batch) (slice_get sent p.proxy) is.own is.sent_at
          (contains is.own p.batch is.is_sent));
      rises = rises_later (negsuc 0) ps are.rises;
      proxies = all_in (λ (p : Processed). p.proxy < length together) ps (λ p inside.
          let is = are.each p inside in
          slice_get_within together p.proxy is.received is.at);
      serializable = law window points lists.0 ps (record {
        rising = rising;
        one_each = zip_length (AreClips ps) (shards points) lists.0 lists.1;
        chains = zip_second (IsOwnList window ps) (IsOfChain window) (λ log own list. list.of_chain) logs lists.0 lists.2;
        clips = λ m shard own at there. zip_at (AreClips ps) (shards points) lists.0 m shard own lists.1 at there;
        replies =
            replies_to known_verdicts points window sent logs together count of merged once ps are first.0 first.1 first.2 first.3 lists.0
            lists.2;
      });
      reported = reported known_verdicts points window sent logs together count of merged once ps are first.0 first.1 first.2 first.3;
      all_reported = all_reported known_verdicts points window sent logs together count of merged once ps are;
    }
