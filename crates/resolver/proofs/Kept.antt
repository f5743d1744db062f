-- Which replies are kept once one more batch is processed.
use Rattle.std.proofs.Common.{
  ◌≡◌,
  ℕ,
  Bool,
  true,
  false,
  not,
  ◌&&◌,
  ◌||◌,
  ◌==◌,
  cond,
  List,
  [],
  ◌∷◌,
  ◌++◌,
  Option,
  Some,
  None,
  sym,
  ap,
  ◌∙◌,
  refl,
  inl,
  inr,
  arith,
}
use Rattle.std.specs.Prelude.{ℤ, int_le, ◌≤ℤ◌}
use Rattle.std.specs.Ordering.{int_eq}
use Rattle.std.proofs.lemmas.Bool.{and_parts, cond-false, cond_both, cases_Bool, eqb-true, or_right}
use Rattle.std.proofs.lemmas.Bool.Decides.{Decides-int_eq}
use Rattle.std.proofs.lemmas.Int.{ints}
use Rattle.std.proofs.lemmas.List.Folds.{list_any-append}
use Rattle.keyspace.specs.declared.reply.Reply.{Reply}
use Rattle.keyspace.specs.Processed.{Processed}
use Rattle.keyspace.specs.Found.{is_received, kept_reply}
use Rattle.resolver.specs.Core.{kept_also}

-- the first, or else the second
abbrev or_else : Option Reply → Option Reply → Option Reply
or_else (Some reply) other = Some reply
or_else None other = other

or_else-none : (first : Option Reply) → or_else first None ≡ first
or_else-none (Some reply) = refl
or_else-none None = refl

or_else-cond : (test : Bool) (reply : Reply) (rest other : Option Reply)
    → cond test (Some reply) (or_else rest other) ≡ or_else (cond test (Some reply) rest) other
or_else-cond true reply rest other = refl
or_else-cond false reply rest other = refl

or_else-own : (test : Bool) (reply : Reply) (before : Option Reply) → (test ≡ true → before ≡ None)
    → or_else before (cond test (Some reply) None) ≡ cond test (Some reply) before
or_else-own true reply before none = ap (λ first. or_else first (Some reply)) (none refl)
or_else-own false reply before none = or_else-none before

or-false : (a : Bool) → (a || false) ≡ a
or-false true = refl
or-false false = refl

pub and-true : (a : Bool) → (a && true) ≡ a
and-true true = refl
and-true false = refl

and-false : (a : Bool) → (a && false) ≡ false
and-false true = refl
and-false false = refl

module _ (p : Processed) (proxy : ℕ) (version : ℤ) where
  -- the batch says that its proxy has received all up to the version
  abbrev gives_up : Bool
  gives_up = (p.proxy == proxy) && int_le version p.batch.received

  -- the batch has the version, and is the proxy's
  abbrev is_own : Bool
  is_own = (p.proxy == proxy) && int_eq p.batch.version version

  received_more : (ps : List Processed)
      → is_received (ps ++ p ∷ []) proxy version ≡ (is_received ps proxy version || gives_up)
  received_more ps =
      list_any-append (λ q. (q.proxy == proxy) && int_le version q.batch.received) ps (p ∷ [])
      ∙ ap (λ given. is_received ps proxy version || given) (or-false gives_up)

  kept_one : kept_reply (p ∷ []) proxy version ≡ cond is_own (Some p.reply) None
  kept_one = ap (λ test. cond test (Some p.reply) None) (and-true is_own)

  -- the batch gives up what was kept of its proxy up to the version
  kept_given_up : gives_up ≡ true → (ps : List Processed)
      → kept_reply (ps ++ p ∷ []) proxy version ≡ kept_reply (p ∷ []) proxy version
  kept_given_up up [] = refl
  kept_given_up up (q ∷ ps) =
      let own = (q.proxy == proxy) && int_eq q.batch.version version in
      let received : is_received (ps ++ p ∷ []) proxy version ≡ true =
      received_more ps ∙ or_right (is_received ps proxy version) gives_up up in
      cond-false (own && not (is_received (ps ++ p ∷ []) proxy version)) (Some q.reply)
      (kept_reply (ps ++ p ∷ []) proxy version)
      (ap (λ given. own && not given) received ∙ and-false own)
      ∙ kept_given_up up ps

  -- and else leaves it
  kept_else : gives_up ≡ false → (ps : List Processed)
      → kept_reply (ps ++ p ∷ []) proxy version
      ≡ or_else (kept_reply ps proxy version) (kept_reply (p ∷ []) proxy version)
  kept_else up [] = refl
  kept_else up (q ∷ ps) =
      let own = (q.proxy == proxy) && int_eq q.batch.version version in
      let received : is_received (ps ++ p ∷ []) proxy version ≡ is_received ps proxy version =
      received_more ps ∙ ap (λ given. is_received ps proxy version || given) up
      ∙ or-false (is_received ps proxy version) in
      ap (λ given. cond (own && not given) (Some q.reply) (kept_reply (ps ++ p ∷ []) proxy version)) received
      ∙ ap (cond (own && not (is_received ps proxy version)) (Some q.reply)) (kept_else up ps)
      ∙ or_else-cond (own && not (is_received ps proxy version)) q.reply (kept_reply ps proxy version)
      (kept_reply (p ∷ []) proxy version)

  -- if none is kept of the batch's version, its reply goes first as well as last
  own_first : (ps : List Processed) → kept_reply ps p.proxy p.batch.version ≡ None
      → or_else (kept_reply ps proxy version) (cond is_own (Some p.reply) None)
      ≡ cond is_own (Some p.reply) (kept_reply ps proxy version)
  own_first ps absent = or_else-own is_own p.reply (kept_reply ps proxy version) (λ own.
      let parts = and_parts (p.proxy == proxy) (int_eq p.batch.version version) own in
      ap (λ q. kept_reply ps q version) (sym (eqb-true p.proxy proxy parts.0))
      ∙ ap (kept_reply ps p.proxy) (sym ((Decides-int_eq p.batch.version version).0 parts.1)) ∙ absent)

  -- one more is kept where none was kept of its version
  pub kept_more : (ps : List Processed) → p.reply.version ≡ p.batch.version
      → kept_reply ps p.proxy p.batch.version ≡ None
      → kept_reply (ps ++ p ∷ []) proxy version
      ≡ kept_also p.proxy p.batch.received p.reply (kept_reply ps) proxy version
  kept_more ps same absent =
      elim (cases_Bool gives_up) [
        | inl up ↦ kept_given_up up ps ∙ kept_one
            ∙ ap (λ given. cond is_own (Some p.reply) (cond given None (kept_reply ps proxy version))) (sym up)
        | inr up ↦ kept_else up ps ∙ ap (or_else (kept_reply ps proxy version)) kept_one ∙ own_first ps absent
            ∙ ap (λ given. cond is_own (Some p.reply) (cond given None (kept_reply ps proxy version))) (sym up)
      ]
      ∙ ap (λ v. cond ((p.proxy == proxy) && int_eq v version) (Some p.reply)
      (cond gives_up None (kept_reply ps proxy version))) (sym same)

-- none is kept if no reply is
pub none_kept : (o : Option Reply) → ((reply : Reply) → o ≡ Some reply → ⊥) → o ≡ None
none_kept (Some reply) none = absurd (none reply refl)
none_kept None none = refl

-- what is kept with one more is up to its version, if the others are
pub kept_also_past : (proxy : ℕ) (received : ℤ) (reply : Reply) (before : ℕ → ℤ → Option Reply)
    (p : ℕ) (v : ℤ)
    → ((old : Reply) → before p v ≡ Some old → v ≤ℤ reply.version)
    → (kept : Reply) → kept_also proxy received reply before p v ≡ Some kept → v ≤ℤ reply.version
kept_also_past proxy received reply before p v past kept =
    cond_both ((proxy == p) && int_eq reply.version v) (Some reply)
    (cond ((proxy == p) && int_le v received) None (before p v)) (λ o. o ≡ Some kept → v ≤ℤ reply.version)
    (λ own is.
    let same = (Decides-int_eq reply.version v).0 (and_parts (proxy == p) (int_eq reply.version v) own).1 in
    omega (arith, ints, same))
    (λ own. cond_both ((proxy == p) && int_le v received) None (before p v)
    (λ o. o ≡ Some kept → v ≤ℤ reply.version) (λ given is. cc) (λ given. past kept))
