-- A core that starts at a version, as the reference resolver is after the opening log.
use Rattle.std.proofs.Common.{◌≡◌, ℕ, zero, suc, ◌<◌, ◌&&◌, ◌==◌, true, false, cond, List, [], ◌∷◌, length, replicate, Some, None, refl, sym, ap, ◌∙◌, inl, inr, arith}
use Rattle.std.specs.Prelude.{ℤ, pos, negsuc, ◌≤ℤ◌, ◌<ℤ◌}
use Rattle.std.specs.Ordering.{int_eq}
use Rattle.std.proofs.lemmas.Bool.{and_parts, cond_both, cases_Bool, eqb-true}
use Rattle.std.proofs.lemmas.Bool.Decides.{Decides-int_eq}
use Rattle.std.proofs.lemmas.Int.{ints}
use Rattle.std.proofs.lemmas.List.{length-replicate}
use Rattle.std.proofs.lemmas.List.Elements.{All-nil}
use Rattle.keyspace.specs.declared.answer.Answer.{Answer}
use Rattle.keyspace.specs.declared.answer.Answer.TheVariants as reported
use Rattle.keyspace.specs.declared.reply.Reply.{Reply}
use Rattle.keyspace.specs.declared.reply.Verdict.TheVariants.{Committed}
use Rattle.keyspace.specs.Writes.{Write}
use Rattle.keyspace.specs.Judge.{judge, without_places}
use Rattle.keyspace.specs.Leaving.{Held}
use Rattle.keyspace.specs.Found.{kept_reply}
use Rattle.keyspace.specs.Run.{run, answers_to, part}
use Rattle.keyspace.proofs.callers.Judging.{reply_same}
use Rattle.chain.specs.Replies.{Kept, reply_of}
use Rattle.conflict.specs.ConflictSet.{SetState, Remembers}
use Rattle.conflict.specs.Unknown.{unknown_until}
use Rattle.resolver.specs.Owed.{OwedView, owed_to}
use Rattle.resolver.specs.Core.{core_of, IsCore, IsIn}
use Rattle.resolver.specs.OpeningLog.{opening_batch, opening_log, OpeningsStart}
use Rattle.resolver.proofs.Answered.{answers_to-one}
use Rattle.resolver.proofs.Kept.{and-true}

-- the least version but 0 is -1
none_before : (n : ℕ) → negsuc 0 ≤ℤ negsuc n → negsuc n ≡ negsuc 0
none_before n from =
    let none : n ≡ 0 = omega (arith, ints, from) in
    ap negsuc none

-- the number after the last proxy is none of theirs
is_none : (proxies proxy : ℕ) → proxy < proxies → (proxies == proxy) ≡ false
is_none proxies proxy within =
    elim (cases_Bool (proxies == proxy)) [
      | inl own ↦ let same = eqb-true proxies proxy own in absurd (omega (arith, same, within))
      | inr other ↦ other
    ]

none_answered : (proxies proxy : ℕ) (a : Answer) → proxy < proxies → answers_to proxy ((proxies, a) ∷ []) ≡ []
none_answered proxies proxy a within =
    answers_to-one proxies a proxy ∙ ap (λ own. cond own (a ∷ []) []) (is_none proxies proxy within)

-- what a repeat finds after the opening log: the reply to the opening batch, if the log has one
pub kept_opening : (window : ℤ) (proxies : ℕ) (version : ℤ) (reply : Reply) → pos 0 ≤ℤ version
    → reply.version ≡ version → reply.entries ≡ without_places Committed ∷ [] → (p : ℕ) (v : ℤ)
    → cond ((proxies == p) && int_eq reply.version v) (Some reply) None
    ≡ kept_reply (run window (opening_log proxies version)).processed p v
kept_opening window proxies (pos n) reply natural version entries p v =
    let judged = judge window [] (opening_batch n) in
    ap (λ (r : Reply). cond ((proxies == p) && int_eq r.version v) (Some r) None)
    (reply_same reply judged version entries)
    ∙ ap (λ test. cond test (Some judged) None) (sym (and-true ((proxies == p) && int_eq (pos n) v)))
kept_opening window proxies (negsuc n) reply natural version entries p v = absurd (omega (arith, ints, natural))

pub kept_start : (window : ℤ) (proxies : ℕ) (version : ℤ) → version <ℤ pos 0 → (p : ℕ) (v : ℤ)
    → kept_reply (run window (opening_log proxies version)).processed p v ≡ None
kept_start window proxies (pos n) below p v = absurd (omega (arith, ints, below))
kept_start window proxies (negsuc n) below p v = refl

-- and that reply isn't of a version still to come
kept_past : (window : ℤ) (proxies : ℕ) (version : ℤ) (p : ℕ) (v : ℤ) (reply : Reply)
    → kept_reply (run window (opening_log proxies version)).processed p v ≡ Some reply → v ≤ℤ version
kept_past window proxies (pos n) p v reply =
    let own = (proxies == p) && int_eq (pos n) v in
    cond_both (own && true) (Some (judge window [] (opening_batch n))) None (λ o. o ≡ Some reply → v ≤ℤ pos n)
    (λ test is.
    let same = (Decides-int_eq (pos n) v).0 (and_parts (proxies == p) (int_eq (pos n) v) (and_parts own true test).0).1 in
    omega (arith, ints, same))
    (λ test is. cc)
kept_past window proxies (negsuc n) p v reply = λ is. cc

-- nothing is owed to any proxy
none_owed : (proxies proxy : ℕ) → owed_to proxy (replicate proxies []) ≡ []
none_owed zero proxy = refl
none_owed (suc proxies) zero = refl
none_owed (suc proxies) (suc proxy) = none_owed proxies proxy

module _ (window : ℤ) (proxies : ℕ) (set : SetState) (held : List Held) (replies : Kept) (owed : OwedView)
    (none_held : held ≡ []) (none : owed.answers ≡ replicate proxies []) where
  pub is_core : (version : ℤ) → set.stop ≡ None → set.resolved ≡ version → (ws : List Write) → Remembers set ws
      → ((p : ℕ) (v : ℤ) → reply_of replies p v ≡ kept_reply (run window (opening_log proxies version)).processed p v)
      → IsCore (core_of set version held replies owed None)
  is_core version continues resolved ws remembers kept_is = record {
    takes_more = λ _. continues;
    resolved = λ _. omega (arith, ints, resolved);
    remembers = (ws, remembers);
    known = rw none_held (All-nil (λ (h : Held). h.0 < length owed.answers));
    past = λ p v reply is. kept_past window proxies version p v reply (sym (kept_is p v) ∙ is);
  }

  nothing_owed : (proxy : ℕ) → owed_to proxy owed.answers ≡ []
  nothing_owed proxy = ap (λ (all : List (List Answer)). owed_to proxy all) none ∙ none_owed proxies proxy

  pub is_in_opening : (version : ℤ) → negsuc 0 ≤ℤ version → Remembers set (unknown_until version)
      → ((p : ℕ) (v : ℤ) → reply_of replies p v ≡ kept_reply (run window (opening_log proxies version)).processed p v)
      → IsIn (run window (opening_log proxies version)) (λ _. []) (core_of set version held replies owed None)
  is_in_opening (pos n) from remembers kept_is = record {
    version = refl;
    held = none_held;
    kept = kept_is;
    remembers = remembers;
    answers = λ proxy within.
        let many = ap length none ∙ length-replicate proxies [] in
        nothing_owed proxy
        ∙ sym (none_answered proxies proxy (reported.Reply (judge window [] (opening_batch n)))
        (omega (arith, within, many)));
  }
  is_in_opening (negsuc n) from remembers kept_is = record {
    version = none_before n from;
    held = none_held;
    kept = kept_is;
    remembers = remembers;
    answers = λ proxy within. nothing_owed proxy;
  }

pub none_sent : (proxies n proxy : ℕ) → proxy < proxies → part (opening_log proxies (pos n)) proxy ≡ []
none_sent proxies n proxy within =
    ap (λ own. cond own (opening_batch n ∷ []) []) (is_none proxies proxy within)

pub openings_start : OpeningsStart
openings_start window proxies (pos n) from = record {
  at = refl;
  unknown = refl;
  none_held = refl;
  none_sent = none_sent proxies n;
  none_answered = λ proxy within.
      none_answered proxies proxy (reported.Reply (judge window [] (opening_batch n))) within;
}
openings_start window proxies (negsuc n) from = record {
  at = sym (none_before n from);
  unknown = refl;
  none_held = refl;
  none_sent = λ proxy within. refl;
  none_answered = λ proxy within. refl;
}
