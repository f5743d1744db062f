-- One batch more.
use Rattle.std.proofs.Common.{◌≡◌, ℕ, ℤ, List, [], ◌∷◌, ◌++◌, length, map, Option, Some, None, All, refl, sym, ap, subst, ◌∙◌, append_assoc}
use Rattle.std.specs.Prelude.{flat_map}
use Rattle.std.proofs.lemmas.List.{append-nil, map_push}
use Rattle.std.proofs.lemmas.List.Concat.{flat_map-append}
use Rattle.std.proofs.lemmas.List.Elements.{All-append, All-cons, All-nil}
use Rattle.keyspace.specs.declared.batch.Batch.{Batch}
use Rattle.keyspace.specs.declared.reply.Reply.{Reply}
use Rattle.batches_report.specs.Answered.{Answered, AreLeft, batches_with_replies, answered_after, answered_with, reply_unless_seen}
use Rattle.batches_report.specs.JudgedTxns.{Fits, JudgedTxn, txns_in, txns_of}
use Rattle.batches_report.specs.Rows.{row_of}
use Rattle.batches_report.specs.Tallied.{Counts, IsTally}
use Rattle.batches_report.specs.declared.row.TxnRow.{TxnRow}
use Rattle.batches_report.specs.declared.tally.Tally.{Tally}
use Rattle.batches_report.specs.declared.txn_tally.TxnTally.{TxnTally}

abbrev versions : List Batch → List ℤ
versions bs = map (λ (b : Batch). b.version) bs

after_last : (rs : List Reply) (seen : List ℤ) (bs : List Batch) (b : Batch) → answered_after rs seen (bs ++ b ∷ [])
    ≡ answered_after rs seen bs ++ answered_with b (reply_unless_seen rs (seen ++ versions bs) b.version)
after_last rs seen [] b =
    append-nil (answered_with b (reply_unless_seen rs seen b.version))
    ∙ ap (λ (s : List ℤ). answered_with b (reply_unless_seen rs s b.version)) (sym (append-nil seen))
after_last rs seen (c ∷ bs) b =
    let first = answered_with c (reply_unless_seen rs seen c.version) in
    let next = seen ++ c.version ∷ [] in
    ap (λ (t : List Answered). first ++ t) (after_last rs next bs b)
    ∙ sym (append_assoc first (answered_after rs next bs) (answered_with b (reply_unless_seen rs (next ++ versions bs) b.version)))
    ∙ ap (λ (s : List ℤ). (first ++ answered_after rs next bs) ++ answered_with b (reply_unless_seen rs s b.version))
    (append_assoc seen (c.version ∷ []) (versions bs))

answered_last : (rs : List Reply) (bs : List Batch) (b : Batch) (found : Option Reply) → found ≡ reply_unless_seen rs (versions bs) b.version
    → batches_with_replies rs (bs ++ b ∷ []) ≡ batches_with_replies rs bs ++ answered_with b found
answered_last rs bs b found is = after_last rs [] bs b ∙ ap (λ (o : Option Reply). batches_with_replies rs bs ++ answered_with b o) (sym is)

left_last : (rs : List Reply) (bs : List Batch) (b : Batch) (tally : Tally) → AreLeft rs (versions bs ++ b.version ∷ []) tally.left
    → AreLeft rs (versions (bs ++ b ∷ [])) tally.left
left_last rs bs b tally left = subst (λ (vs : List ℤ). AreLeft rs vs tally.left) (sym (map_push (λ (x : Batch). x.version) bs b)) left

-- a batch without a reply changes nothing but the versions that were seen
pub tally_unanswered : (rs : List Reply) (bs : List Batch) (b : Batch) (old new : Tally) → IsTally rs bs old
    → None ≡ reply_unless_seen rs (versions bs) b.version → AreLeft rs (versions bs ++ b.version ∷ []) new.left
    → new.rows.items ≡ old.rows.items → new.txns ≡ old.txns → IsTally rs (bs ++ b ∷ []) new
tally_unanswered rs bs b old new tally none left rows txns =
    let same : batches_with_replies rs (bs ++ b ∷ []) ≡ batches_with_replies rs bs = answered_last rs bs b None none ∙ append-nil (batches_with_replies rs bs) in record {
      left = left_last rs bs b new left;
      fit = subst (All Fits) (sym same) tally.fit;
      rows = rows ∙ tally.rows ∙ ap (map (λ (a : Answered). row_of a.batch a.reply)) (sym same);
      txns = subst (λ (t : TxnTally). Counts (txns_in (batches_with_replies rs (bs ++ b ∷ []))) t) (sym txns)
          (subst (λ (them : List Answered). Counts (txns_in them) old.txns) (sym same) tally.txns);
    }

-- a batch with a reply
pub tally_answered : (rs : List Reply) (bs : List Batch) (b : Batch) (r : Reply) (old new : Tally) → IsTally rs bs old
    → Some r ≡ reply_unless_seen rs (versions bs) b.version → AreLeft rs (versions bs ++ b.version ∷ []) new.left
    → length r.entries ≡ length b.txns → new.rows.items ≡ old.rows.items ++ row_of b r ∷ []
    → ((js : List JudgedTxn) → Counts js old.txns → Counts (js ++ txns_of b r) new.txns) → IsTally rs (bs ++ b ∷ []) new
tally_answered rs bs b r old new tally some left fits rows txns =
    let before = batches_with_replies rs bs in
    let a : Answered = record { batch = b; reply = r } in
    let more : batches_with_replies rs (bs ++ b ∷ []) ≡ before ++ a ∷ [] = answered_last rs bs b (Some r) some in
    let one : All Fits (a ∷ []) = All-cons Fits a [] fits (All-nil Fits) in
    let all_txns : txns_in (before ++ a ∷ []) ≡ txns_in before ++ txns_of b r =
    flat_map-append (λ (x : Answered). txns_of x.batch x.reply) before (a ∷ [])
    ∙ ap (λ (t : List JudgedTxn). txns_in before ++ t) (append-nil (txns_of b r)) in record {
      left = left_last rs bs b new left;
      fit = subst (All Fits) (sym more) (All-append Fits before (a ∷ []) tally.fit one);
      rows = rows ∙ ap (λ (t : List TxnRow). t ++ row_of b r ∷ []) tally.rows
          ∙ sym (map_push (λ (x : Answered). row_of x.batch x.reply) before a)
          ∙ ap (map (λ (x : Answered). row_of x.batch x.reply)) (sym more);
      txns = subst (λ (js : List JudgedTxn). Counts js new.txns) (sym (ap txns_in more ∙ all_txns)) (txns (txns_in before) tally.txns);
    }

-- a reply more changes nothing but the replies that are left
pub tally_reply : (rs more : List Reply) (old new : Tally) → IsTally rs [] old → AreLeft more [] new.left → new.rows.items ≡ old.rows.items
    → new.txns ≡ old.txns → IsTally more [] new
tally_reply rs more old new tally left rows txns = record {
  left = left;
  fit = tally.fit;
  rows = rows ∙ tally.rows;
  txns = subst (λ (t : TxnTally). Counts [] t) (sym txns) tally.txns;
}
