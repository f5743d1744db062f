use Rattle.std.proofs.Common.{◌≡◌, ◌≤◌, ◌*◌, ◌/◌, ◌%◌, ℕ, List, take, get_or, ap, sym, ◌∙◌, arith, get_or-take, take-take}
use Rattle.std.specs.Int.{w32, w64, to_be_bytes}
use Rattle.boundaries.proofs.HeadOrder.{take_fewer, upper_half}
use Rattle.boundaries.proofs.node.heads.same_head_bytes.Goals as goal

-- A number is written with the first four bytes of the one that has it as its upper half.
raised : (h : ℕ) → to_be_bytes w32 h ≡ take 4 (to_be_bytes w64 (h * 4294967296))
raised h = let same : h ≡ h * 4294967296 / 4294967296 = omega arith in ap (to_be_bytes w32) same ∙ upper_half (h * 4294967296)

pub returns : goal.returns
returns c =
    let a_is : c.from.result * 4294967296 % 18446744073709551616 ≡ a * 4294967296 = omega (arith, c.from.ensures, c.ranges.a) in
    let b_is : c.from-2.result * 4294967296 % 18446744073709551616 ≡ b * 4294967296 = omega (arith, c.from-2.ensures, c.ranges.b) in
    let have_prefix : take r (to_be_bytes w64 (a * 4294967296)) ≡ take r (to_be_bytes w64 (b * 4294967296)) =
    rw (a_is, b_is) at c.same_bytes.ensures.same in
    let few : m ≤ 4 = omega (arith, c.min.ensures) in
    let first = λ (h : ℕ). ap (take m) (raised h) ∙ take-take m 4 (to_be_bytes w64 (h * 4294967296)) few in
    record {
      within = few;
      same = first a ∙ take_fewer m r _ _ (omega (arith, c.min.ensures)) have_prefix ∙ sym (first b);
      differ = λ less e.
          let all : m ≡ r = omega (arith, c.min.ensures, less) in
          let at = λ (h : ℕ). ap (λ (l : List ℕ). get_or l m 0) (raised h)
          ∙ get_or-take 4 (to_be_bytes w64 (h * 4294967296)) m 0 less
          ∙ ap (λ k. get_or (to_be_bytes w64 (h * 4294967296)) k 0) all in
          c.same_bytes.ensures.differ (omega (arith, all, less))
          (ap (λ x. get_or (to_be_bytes w64 x) r 0) a_is ∙ sym (at a) ∙ e ∙ at b
          ∙ sym (ap (λ x. get_or (to_be_bytes w64 x) r 0) b_is));
    }
  where
    open c use {same_bytes.{result as r}, min.{result as m}, args.{a, b}}
