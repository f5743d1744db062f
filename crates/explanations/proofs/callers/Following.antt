-- Lemmas for callers: a history that is pushed the batches of a chain.
use Rattle.std.proofs.Common.{◌≡◌, ℕ, ◌<◌, Bool, true, false, cond, List, [], ◌∷◌, ◌++◌, length, Option, Some, None, slice_get, refl, sym, ap, subst, ◌∙◌, arith, append_assoc}
use Rattle.std.specs.Prelude.{ℤ, ◌≤ℤ◌, ◌<ℤ◌, ◌-ℤ◌, pos, All, IfSome, int_lt}
use Rattle.std.specs.Int.{int_max}
use Rattle.std.proofs.lemmas.Int.{ints}
use Rattle.std.proofs.lemmas.Option.{none-some, same_Some, slice_get_within}
use Rattle.std.proofs.lemmas.List.Elements.{All-head, All-tail}
use Rattle.keys.specs.declared.range.Range.{Range}
use Rattle.keyspace.specs.declared.txn.Txn.{Txn}
use Rattle.keyspace.specs.declared.batch.Batch.{Batch}
use Rattle.keyspace.specs.declared.reply.Entry.{Entry}
use Rattle.keyspace.specs.declared.reply.Verdict.{Verdict}
use Rattle.keyspace.specs.declared.reply.Verdict.TheVariants.{Conflict}
use Rattle.keyspace.specs.Processed.{Processed}
use Rattle.keyspace.specs.Chain.{IsChain}
use Rattle.keyspace.specs.Writes.{writes, earlier}
use Rattle.keyspace.specs.Judged.{edge, HasVerdict, IsTooOld}
use Rattle.explanations.specs.Explains.{explaining_writes, newest_of}
use Rattle.explanations.specs.History.{FollowsChain, HistoryState, Keeps}
use Rattle.keys.proofs.callers.Numbers.{natural_above, at_most_itself, max_rises}
use Rattle.explanations.proofs.Explaining.{dropped_explain_nothing}
use Rattle.explanations.proofs.Rising.{Precedes, versions_below, newest_of-more}

-- the batches before the last are a chain too
pub chain_before : (window : ℤ) (ps : List Processed) (p : Processed) → IsChain window (ps ++ p ∷ []) → IsChain window ps
chain_before window ps p chain before q after split =
    chain before q (after ++ p ∷ [])
    (ap (λ (qs : List Processed). qs ++ p ∷ []) split ∙ append_assoc before (q ∷ after) (p ∷ []))

-- the parts of a processed batch
pub same_processed : (p q : Processed) → p.proxy ≡ q.proxy → p.batch ≡ q.batch → p.reply ≡ q.reply → p ≡ q
same_processed p q proxy batch reply = λ i. record { proxy = proxy i; batch = batch i; reply = reply i }

-- edges in a chain

max_natural : (d : ℤ) → pos 0 ≤ℤ int_max d (pos 0)
max_natural d = go (int_lt (pos 0) d) refl
  where
    go : (x : Bool) → int_lt (pos 0) d ≡ x → pos 0 ≤ℤ cond x d (pos 0)
    go true e = natural_above d e
    go false e = at_most_itself (pos 0)

max_below : (a b : ℤ) → a ≤ℤ b → int_max a b ≤ℤ b
max_below a b h = go (int_lt b a)
  where
    go : (x : Bool) → cond x a b ≤ℤ b
    go true = h
    go false = at_most_itself b

less_by : (a b window : ℤ) → a <ℤ b → (a -ℤ window) ≤ℤ (b -ℤ window)
less_by a b window h = omega (arith, ints)

through : (a b c : ℤ) → a ≤ℤ b → b ≤ℤ c → a ≤ℤ c
through a b c h k = omega (arith, ints)

edge_rises : (window : ℤ) (a b : Batch) → a.version <ℤ b.version → edge window a ≤ℤ edge window b
edge_rises window a b h =
    max_rises (a.version -ℤ window) (b.version -ℤ window) (less_by a.version b.version window h)

newest_precedes : (ps : List Processed) (p : Processed) (b : Batch) → newest_of ps ≡ Some b → All (Precedes p) ps
    → b.version <ℤ p.batch.version
newest_precedes [] p b is all = absurd cc
newest_precedes (q ∷ []) p b is all =
    subst (λ (x : Batch). x.version <ℤ p.batch.version) (same_Some q.batch b is) (All-head (Precedes p) q [] all)
newest_precedes (q ∷ r ∷ ps) p b is all = newest_precedes (r ∷ ps) p b is (All-tail (Precedes p) q (r ∷ ps) all)

edge_before : (h : HistoryState) (ps : List Processed) (p : Processed) → FollowsChain h ps → All (Precedes p) ps
    → h.edge ≤ℤ edge h.window p.batch
edge_before h ps p follows all = go (newest_of ps) refl
  where
    go : (o : Option Batch) → newest_of ps ≡ o → h.edge ≤ℤ edge h.window p.batch
    go None is =
        subst (λ (z : ℤ). z ≤ℤ edge h.window p.batch) (sym (follows.natural is)) (max_natural (p.batch.version -ℤ h.window))
    go (Some b) is =
        through h.edge (edge h.window b) (edge h.window p.batch)
        (subst (λ (o : Option Batch). IfSome o (λ x. h.edge ≤ℤ edge h.window x)) is follows.edge)
        (edge_rises h.window b p.batch (newest_precedes ps p b is all))

-- a history before and after one more batch of the chain was pushed
module _ (h g : HistoryState) (p : Processed) (same_window : g.window ≡ h.window)
    (keeps : (ps : List Processed) → Keeps ps h → Keeps (ps ++ p ∷ []) g) (edge_is : g.edge ≡ int_max h.edge (edge h.window p.batch))
    (ps : List Processed) (chain : IsChain h.window (ps ++ p ∷ [])) (follows : FollowsChain h ps) where
  pub edge_within : g.edge ≤ℤ edge g.window p.batch
  edge_within =
      subst (λ (w : ℤ). g.edge ≤ℤ edge w p.batch) (sym same_window)
      (subst (λ (z : ℤ). z ≤ℤ edge h.window p.batch) (sym edge_is)
      (max_below h.edge (edge h.window p.batch) (edge_before h ps p follows (versions_below h.window ps p chain))))

  -- it follows the longer chain
  pub follows_more : FollowsChain g (ps ++ p ∷ [])
  follows_more = record {
    keeps = keeps ps follows.keeps;
    edge = subst (λ (o : Option Batch). IfSome o (λ b. g.edge ≤ℤ edge g.window b)) (sym (newest_of-more ps p)) edge_within;
    natural = λ none. absurd (none-some p.batch (sym none ∙ newest_of-more ps p));
  }

-- the batches that a history keeps explain its newest batch as all batches do

below_from_test : (a b : ℤ) → int_lt a b ≡ true → a <ℤ b
below_from_test a b h = grind arith

through_test : (a b c : ℤ) → a ≤ℤ b → int_lt c b ≡ false → a ≤ℤ c
through_test a b c h e = grind (arith, ints)

at_most_unless : (a b c : ℤ) → a ≤ℤ b → (c <ℤ b → ⊥) → a ≤ℤ c
at_most_unless a b c h never = go (int_lt c b) refl
  where
    go : (test : Bool) → int_lt c b ≡ test → a ≤ℤ c
    go true e = absurd (never (below_from_test c b e))
    go false e = through_test a b c h e

module _ (window : ℤ) (ps : List Processed) (p : Processed) (h : HistoryState) (chain : IsChain window (ps ++ p ∷ []))
    (keeps : Keeps (ps ++ p ∷ []) h) (newest_is : newest_of h.kept ≡ Some p.batch) (low : h.edge ≤ℤ edge window p.batch) where
  -- a transaction that conflicts isn't too old
  young : (j : ℕ) (t : Txn) (e : Entry) → slice_get p.batch.txns j ≡ Some t → slice_get p.reply.entries j ≡ Some e
      → e.verdict ≡ Conflict → IsTooOld (edge window p.batch) t → ⊥
  young j t e at_t at_e is =
      let judged : HasVerdict (edge window p.batch) (writes ps) (earlier p.batch p.reply j) t Conflict =
      subst (λ (v : Verdict). HasVerdict (edge window p.batch) (writes ps) (earlier p.batch p.reply j) t v) is
      ((chain ps p [] refl).judged.verdicts j t e at_t at_e) in
      judged.0

  pub same_explaining : (j : ℕ) (t : Txn) (e : Entry) → slice_get p.batch.txns j ≡ Some t → slice_get p.reply.entries j ≡ Some e
      → e.verdict ≡ Conflict → (i : ℕ) (range : Range) → slice_get t.reads i ≡ Some range
      → explaining_writes (ps ++ p ∷ []) p.batch j i ≡ explaining_writes h.kept p.batch j i
  same_explaining j t e at_t at_e is i range read =
      let inside : i < length t.reads = slice_get_within t.reads i range read in
      let some : 0 < length t.reads = omega (arith, inside) in
      let readable : h.edge ≤ℤ t.snapshot =
      at_most_unless h.edge (edge window p.batch) t.snapshot low (λ old. young j t e at_t at_e is (some, old)) in
      dropped_explain_nothing window (ps ++ p ∷ []) h chain keeps p.batch newest_is j i t at_t readable
