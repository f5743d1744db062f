use Rattle.std.proofs.Common.{◌≡◌, ℕ, ◌+◌, ◌≤◌, ◌<◌, ◌∙◌, arith}
use Rattle.arena.specs.Arena.{slots_of, spare_of, wanted_of}
use Rattle.arena.proofs.Slots.{at_each}
use Rattle.arena.proofs.arena.Arena.reserve.Goals as goal

-- the slots of the loop's own size, which are as before until it fills them up
filled : {counted wanted before at now : ℕ} (slots : ℕ) → counted ≡ wanted → at ≡ before
    → (at < counted → now < counted + slots) → before < wanted → now < wanted + slots
filled {counted} {wanted} {before} {at} {now} slots same as_before most few =
    let grown = most (omega (arith, same, as_before, few)) in
    omega (arith, grown, same)

pub returns-in_err-fill_up-clause-no_more : goal.returns-in_err-fill_up-clause-no_more
returns-in_err-fill_up-clause-no_more g c = λ s.
    let own = c.loop-size.size in
    let counted = c.in_ok-wanted.ensures.counts own c.loop-size-test.true in
    at_each (λ s. wanted_of c.args.lengths.now s ≤ spare_of c.args.self.now s
    → spare_of c.fill_up.new.self s ≡ spare_of c.args.self.now s) own s
    (λ has. c.fill_up.ensures.no_more (omega (arith, counted, c.loop-size.invariant.no_more own has))
    ∙ c.loop-size.invariant.no_more own has)
    (λ other has. c.fill_up.ensures.other_sizes s other ∙ c.loop-size.invariant.no_more s has)

pub returns-in_err-fill_up-clause-most : goal.returns-in_err-fill_up-clause-most
returns-in_err-fill_up-clause-most g c = λ s.
    let own = c.loop-size.size in
    let counted = c.in_ok-wanted.ensures.counts own c.loop-size-test.true in
    at_each (λ s. s < 10 → spare_of c.args.self.now s < wanted_of c.args.lengths.now s
    → spare_of c.fill_up.new.self s < wanted_of c.args.lengths.now s + slots_of s) own s
    (λ _ few. filled (slots_of own) counted (c.loop-size.invariant.later own (omega arith)) c.fill_up.ensures.most few)
    (λ other size few. omega (
      arith,
      c.fill_up.ensures.other_sizes s other,
      c.loop-size.invariant.most s size few,
    ))

pub loop-size-preserved : goal.loop-size-preserved
loop-size-preserved g c =
    let own = c.loop-size.size in
    let counted = c.in_ok-wanted.ensures.counts own c.loop-size-test.true in
    record {
      records = c.fill_up.ensures.records ∙ c.loop-size.invariant.records;
      room = λ s. at_each (λ s. s < own + 1
          → wanted_of c.args.lengths.now s ≤ spare_of c.fill_up.new.self s) own s
          (λ below. omega (arith, counted, c.in_ok-fill_up.ensures.room))
          (λ other below. omega (
            arith,
            c.fill_up.ensures.other_sizes s other,
            c.loop-size.invariant.room s (omega arith),
          ));
      stays = λ s. at_each (λ s. spare_of c.args.self.now s ≤ spare_of c.fill_up.new.self s) own s
          (omega (arith, c.fill_up.ensures.spare_stays, c.loop-size.invariant.stays own))
          (λ other. omega (arith, c.fill_up.ensures.other_sizes s other, c.loop-size.invariant.stays s));
      no_more = λ s. at_each (λ s. wanted_of c.args.lengths.now s ≤ spare_of c.args.self.now s
          → spare_of c.fill_up.new.self s ≡ spare_of c.args.self.now s) own s
          (λ has. c.fill_up.ensures.no_more (omega (arith, counted, c.loop-size.invariant.no_more own has))
          ∙ c.loop-size.invariant.no_more own has)
          (λ other has. c.fill_up.ensures.other_sizes s other ∙ c.loop-size.invariant.no_more s has);
      most = λ s. at_each (λ s. s < 10 → spare_of c.args.self.now s < wanted_of c.args.lengths.now s
          → spare_of c.fill_up.new.self s < wanted_of c.args.lengths.now s + slots_of s) own s
          (λ _ few. filled (slots_of own) counted (c.loop-size.invariant.later own (omega arith)) c.fill_up.ensures.most few)
          (λ other size few. omega (
            arith,
            c.fill_up.ensures.other_sizes s other,
            c.loop-size.invariant.most s size few,
          ));
      later = λ s following. c.fill_up.ensures.other_sizes s (λ same. omega (arith, same, following))
          ∙ c.loop-size.invariant.later s (omega arith);
    }
