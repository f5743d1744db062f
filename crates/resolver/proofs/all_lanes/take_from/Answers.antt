use Rattle.std.proofs.Common.{◌<◌, length, Option, Some, None, inl, inr, arith}
use Rattle.std.specs.Prelude.{IfNone}
use Rattle.std.proofs.lemmas.Bool.{cases_lt}
use Rattle.std.proofs.lemmas.Option.{IfSome_then}
use Rattle.resolver.specs.Lanes.{ComesBefore}
use Rattle.resolver.proofs.Finding.{Between, Either, FindsNone-as, FindsOne-as, FindsNone-then, FindsOne-then}
use Rattle.resolver.proofs.all_lanes.take_from.Goals as goal

IfNone_then : {X : Type 0} (r : Option X) {P Q : Type 0} → IfNone r P → (P → Q) → IfNone r Q
IfNone_then None p then = then p
IfNone_then (Some x) p then = p

pub returns-in-Some-clause-found : goal.returns-in-Some-clause-found
returns-in-Some-clause-found c =
    let first = c.args.first in
    let proxy = c.in-Some.found.0 in
    let found = c.in-Some.ensures.found in
    FindsOne-as (Between first proxy) (λ q. ComesBefore first q proxy)
    (λ q _. (inl, λ b. elim b [ inl one ↦ one | inr two ↦ absurd (omega (arith, two.0, found.0)) ])) proxy
    c.in-Some.found.1 found.2

pub returns-in-None-clause-found : goal.returns-in-None-clause-found
returns-in-None-clause-found c =
    let first = c.args.first in
    let all_lanes = c.args.all_lanes.now in
    IfSome_then c.take_between-in-None.result c.take_between-in-None.ensures.found
    (λ x found.
    FindsOne-as (Either (Between first (length all_lanes)) (Between 0 x.0)) (λ q. ComesBefore first q x.0)
    (λ q inside. (
      λ b. elim b [
        | inl one ↦ inr (found.1, inl one.0)
        | inr two ↦ inr (found.1, inr two.1)
      ],
      λ b. elim b [
        | inl one ↦ absurd (omega (arith, one, found.1))
        | inr two ↦ elim two.1 [
          | inl late ↦ inl (late, inside)
          | inr early ↦ inr (omega arith, early)
        ]
      ],
    )) x.0 x.1
    (FindsOne-then (Between first (length all_lanes)) (Between 0 x.0)
    (λ q one two. omega (arith, one.0, two.1, found.1)) x.0 x.1 (λ one. omega (arith, one.0, found.1))
    c.in-None.ensures.none found.2))

pub returns-in-None-clause-none : goal.returns-in-None-clause-none
returns-in-None-clause-none c =
    let first = c.args.first in
    let all_lanes = c.args.all_lanes.now in
    IfNone_then c.take_between-in-None.result c.take_between-in-None.ensures.none
    (λ none.
    FindsNone-as (Either (Between first (length all_lanes)) (Between 0 first)) (λ q. q < length all_lanes)
    (λ q inside. (
      λ _. inside,
      λ _. elim (cases_lt q first) [
        | inl early ↦ inr (omega arith, early)
        | inr late ↦ inl (late, inside)
      ],
    ))
    (FindsNone-then (Between first (length all_lanes)) (Between 0 first)
    (λ q one two. omega (arith, one.0, two.1)) c.in-None.ensures.none none))
