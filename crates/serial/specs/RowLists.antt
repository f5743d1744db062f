-- The lists of processed batches of the worked examples: logs as the reference resolver processes them, and lists like them with
-- other verdicts.
use Rattle.std.specs.Prelude.{
  ℕ,
  ◌≤◌,
  false,
  true,
  List,
  [],
  ◌∷◌,
  map,
  pos,
  negsuc,
  refl,
}
use Rattle.std.proofs.Common.{subst, sym}
use Rattle.std.proofs.lemmas.List.{length-map}
use Rattle.keyspace.specs.declared.TheConstants.{WINDOW}
use Rattle.keyspace.specs.declared.batch.TheConstants.{MAX_TXNS}
use Rattle.keys.specs.declared.range.Range.{Range}
use Rattle.keyspace.specs.declared.txn.Txn.{Txn}
use Rattle.keyspace.specs.declared.reply.Verdict.{Verdict}
use Rattle.keyspace.specs.declared.reply.Verdict.TheVariants.{Conflict, TooOld, Committed}
use Rattle.keyspace.specs.declared.reply.Entry.{Entry}
use Rattle.keyspace.specs.declared.reply.Reply.{Reply}
use Rattle.keyspace.specs.Processed.{Processed}
use Rattle.keyspace.specs.Judge.{without_places}
use Rattle.keyspace.specs.Run.{Step, Take, run}
use Rattle.keyspace.specs.Rows.{Limits, letter, range, txn, batch, sent, opening, ab, bc, cd, xy, nothing}

-- The same list with other verdicts.

-- the reply with other entries, one for each
abbrev pub reply_by : (Entry → Entry) → Reply → Reply
reply_by entry r = record {
  version = r.version;
  entries = map entry r.entries;
  natural = r.natural;
  few = subst (λ (n : ℕ). n ≤ MAX_TXNS) (sym (length-map r.entries entry)) r.few;
}

abbrev pub processed_by : (Entry → Entry) → Processed → Processed
processed_by entry p = record p { reply = reply_by entry p.reply }

abbrev pub committed_if_conflict : Verdict → Entry → Entry
committed_if_conflict Conflict e = without_places Committed
committed_if_conflict TooOld e = e
committed_if_conflict Committed e = e

-- each conflict made committed
abbrev pub with_conflicts_committed : List Processed → List Processed
with_conflicts_committed ps = map (processed_by (λ e. committed_if_conflict e.verdict e)) ps

-- one verdict per batch, for all its transactions
abbrev pub with_verdicts : List Verdict → List Processed → List Processed
with_verdicts [] ps = ps
with_verdicts (verdict ∷ verdicts) [] = []
with_verdicts (verdict ∷ verdicts) (p ∷ ps) = processed_by (λ e. without_places verdict) p ∷ with_verdicts verdicts ps

-- the list with its second and third batch in each other's place
abbrev pub with_batches_swapped : List Processed → List Processed
with_batches_swapped (o ∷ p ∷ q ∷ ps) = o ∷ q ∷ p ∷ ps
with_batches_swapped ps = ps

module _ (limits : Limits) where
  -- [d, e), [m, n)
  abbrev pub de : Range
  de = range limits (letter 100) (letter 101) refl

  abbrev pub mn : Range
  mn = range limits (letter 109) (letter 110) refl

  -- Version 0: nothing. Version 100: W[a,b). Version 200, of the same proxy: R[a,b)@100 W[b,c); R[a,b)@50 W[x,y), which requests a
  -- report; R[m,m)@0 W[m,n). Version 300, of another proxy: R[c,d)@100 W[c,d), which nothing has written since; R[b,c)@200 W[d,e).
  abbrev pub all_kinds : List Step
  all_kinds =
      opening limits
      ∷ sent limits 0 100 (txn limits 0 false [] (ab limits ∷ []) refl ∷ []) refl
      ∷ sent limits 100 200 (txn limits 100 false (ab limits ∷ []) (bc limits ∷ []) refl
      ∷ txn limits 50 true (ab limits ∷ []) (xy limits ∷ []) refl
      ∷ txn limits 0 false (nothing limits ∷ []) (mn ∷ []) refl ∷ []) refl
      ∷ Take 1 (batch limits (pos 200) 300 (negsuc 0)
      (txn limits 100 false (cd limits ∷ []) (cd limits ∷ []) refl
      ∷ txn limits 200 false (bc limits ∷ []) (de ∷ []) refl ∷ []) refl) ∷ []

  abbrev pub chain : List Processed
  chain = (run WINDOW all_kinds).processed

  -- one transaction for each of the versions 100, 200, 300 and 400
  abbrev pub four : Txn → Txn → Txn → Txn → List Step
  four t u v w =
      opening limits ∷ sent limits 0 100 (t ∷ []) refl ∷ sent limits 100 200 (u ∷ []) refl
      ∷ sent limits 200 300 (v ∷ []) refl
      ∷ sent limits 300 400 (w ∷ []) refl ∷ []

  abbrev pub chain_of : Txn → Txn → Txn → Txn → List Processed
  chain_of t u v w = (run WINDOW (four t u v w)).processed
