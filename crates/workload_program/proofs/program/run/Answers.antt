use Rattle.std.proofs.Common.{◌≡◌, ◌∙◌, ◌≤◌, false, inl, inr, length, sym, true}
use Rattle.std.proofs.lemmas.Bool.{cases_lt}
use Rattle.workload_program.specs.declared.fault.Fault.TheVariants.{Memory, Write}
use Rattle.workload_program.proofs.program.run.Goals as goal

pub returns-in-Ok-false-clause-written : goal.returns-in-Ok-false-clause-written
returns-in-Ok-false-clause-written g c = λ done long.
    let is = c.in-Ok-false.is in
    let refused = c.in-Ok-false.field-0-test in
    inr (c.write_asked.ensures.nothing cc, c.answer.ensures.shown done)

pub returns-in-Ok-false-clause-reported : goal.returns-in-Ok-false-clause-reported
returns-in-Ok-false-clause-reported g c = λ one. elim (c.answer.ensures.memory one) [
  | inl failed ↦ (Write, (c.answer.ensures.failed failed).1)
  | inr reported ↦ (Memory, reported)
]

pub returns-in-Ok-false-clause-mistaken : goal.returns-in-Ok-false-clause-mistaken
returns-in-Ok-false-clause-mistaken g c = λ two.
    let is = c.in-Ok-false.is in
    let refused = c.in-Ok-false.field-0-test in
    let long : 2 ≤ length c.args.words.now = elim (cases_lt (length c.args.words.now) 2) [
      | inl short ↦ let bad : true ≡ false = sym (c.in-Ok-false.ensures.usage short).0 ∙ refused in absurd cc
      | inr least ↦ least
    ] in (long, c.write_asked.ensures.nothing cc)

pub returns-in-Ok-false-clause-broken_off : goal.returns-in-Ok-false-clause-broken_off
returns-in-Ok-false-clause-broken_off g c = λ one long.
    let is = c.in-Ok-false.is in
    let refused = c.in-Ok-false.field-0-test in inr (c.write_asked.ensures.nothing cc)
