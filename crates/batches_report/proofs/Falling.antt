-- Counts that fall.
use Rattle.std.proofs.Common.{◌≡◌, ℕ, ◌<◌, ◌≤◌, Bool, true, false, cond, ◌==◌, Bor, List, length, get_or, refl, sym, ap, ◌∙◌, true≢false, arith, Ordering, Less, Equal, Greater}
use Rattle.std.specs.Prelude.{nat_lt}
use Rattle.std.specs.Cmp.{IsStrictWeakOrder, nat_cmp_total}
use Rattle.std.specs.Fn.{Called, ComparesAs}
use Rattle.std.proofs.lemmas.Fn.{always_returns_same}
use denote.Param.Members.{Mut}
use Rattle.std.specs.List.Sorted.{IsSortedBy}
use Rattle.std.specs.Ordering.{is_lt, nat_cmp}
use Rattle.std.proofs.lemmas.List.Sorted.{IsStrictWeakOrder-flip, ranks_by, sorted_far}
use Rattle.batches_report.specs.declared.top.Hot.{Hot}
use Rattle.batches_report.specs.Hottest.{Fall}

not_less : (a b : ℕ) → is_lt (nat_cmp a b) ≡ false → b ≤ a
not_less a b test = go (nat_lt a b) refl
  where
    go : (c : Bool) → nat_lt a b ≡ c → b ≤ a
    go true is = absurd (true≢false (sym (ap (λ c. is_lt (cond c Less (cond (a == b) Equal Greater))) is) ∙ test))
    go false is = grind arith

pub fall_from_sort : (hot : List Hot) → IsSortedBy (λ x y. is_lt (nat_cmp y.count x.count)) hot → Fall hot
fall_from_sort hot sorted = λ i j d up within.
    not_less (get_or hot i d).count (get_or hot j d).count
    (sorted_far (λ x y. is_lt (nat_cmp y.count x.count)) (IsStrictWeakOrder-flip _ (ranks_by nat_cmp_total (λ (x : Hot). x.count))) hot sorted i j d up within)

-- from the clause of `sort_by`, if each call compares the counts, the second one first
pub fall_from_sort_by : {F : Type 0} {g : Mut F (Bor Hot × (Bor Hot × Unit {0})) Ordering} {f : F} (hot : List Hot)
    → ((lt : Hot → Hot → Bool) → IsStrictWeakOrder lt → ComparesAs g lt f → IsSortedBy lt hot)
    → ((a : Bor Hot × (Bor Hot × Unit {0})) (r : Ordering) (f' : F) → Called g f a r f'
    → (r ≡ nat_cmp a.1.0.now.count a.0.now.count) × (f' ≡ f)) → Fall hot
fall_from_sort_by {g = g} {f = f} hot sorted calls =
    fall_from_sort hot
    (sorted (λ x y. is_lt (nat_cmp y.count x.count)) (IsStrictWeakOrder-flip _ (ranks_by nat_cmp_total (λ (x : Hot). x.count)))
    (always_returns_same g (λ a r. is_lt r ≡ is_lt (nat_cmp a.1.0.now.count a.0.now.count)) f
    (λ a r f' k. (ap is_lt (calls a r f' k).0, (calls a r f' k).1))))
