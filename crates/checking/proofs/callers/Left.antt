-- What is left of a list from a place on.
use Rattle.std.specs.Prelude.{◌≡◌, ℕ, zero, suc, ◌+◌, List, [], ◌∷◌, drop, length, map}
use Rattle.std.proofs.Common.{refl, ap, sym, ◌∙◌, add-one, inl, inr, arith}
use Rattle.keyspace.specs.declared.reply.Reply.{Reply}
use Rattle.checking.specs.Check.{TakesMemory, count_at}

after_first : {X : Type 0} (xs : List X) (place : ℕ) (x : X) (rest : List X) → x ∷ rest ≡ drop place xs
    → rest ≡ drop (suc place) xs
after_first [] zero x rest is = cc
after_first [] (suc place) x rest is = cc
after_first (y ∷ ys) zero x rest is = ap (drop 1) is
after_first (y ∷ ys) (suc place) x rest is = after_first ys place x rest is

-- the same, one place on
pub left_after : {X : Type 0} (xs : List X) (place : ℕ) (x : X) (rest left : List X) → left ≡ x ∷ rest → left ≡ drop place xs
    → rest ≡ drop (place + 1) xs
left_after xs place x rest left first is =
    after_first xs place x rest (sym first ∙ is) ∙ ap (λ n. drop n xs) (sym (add-one place))

count_first : {W X : Type 0} (view : W → List X) (ws : List W) (place : ℕ) (w : W) (rest : List W) → w ∷ rest ≡ drop place ws
    → count_at (map view ws) place ≡ length (view w)
count_first view [] zero w rest is = cc
count_first view [] (suc place) w rest is = cc
count_first view (v ∷ vs) zero w rest is = ap (λ l. count_at (map view l) 0) (sym is)
count_first view (v ∷ vs) (suc place) w rest is = count_first view vs place w rest is

-- the first that is left stands at the place
pub count_at_left : {W X : Type 0} (view : W → List X) (ws : List W) (place : ℕ) (w : W) (rest left : List W)
    → left ≡ w ∷ rest → left ≡ drop place ws → count_at (map view ws) place ≡ length (view w)
count_at_left view ws place w rest left first is = count_first view ws place w rest (sym first ∙ is)

-- one of the two lists at the place isn't empty
pub takes_at : (expected recorded : List (List Reply)) (proxy n m : ℕ) → count_at expected proxy ≡ n → count_at recorded proxy ≡ m
    → (n ≡ 0 → m ≡ 0 → ⊥) → TakesMemory expected recorded proxy
takes_at expected recorded proxy zero zero count others some = absurd (some refl refl)
takes_at expected recorded proxy (suc n) m count others some = inl (omega (arith, count))
takes_at expected recorded proxy zero (suc m) count others some = inr (inl (omega (arith, others)))
