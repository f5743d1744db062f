-- A line with one more member.
use Rattle.std.specs.Prelude.{◌≡◌, ◌≢◌, ℕ, ◌-◌, List, [], ◌∷◌, ◌++◌, codes, length, take}
use Rattle.std.proofs.Common.{refl, sym, ap, ◌∙◌, arith}
use Rattle.std.proofs.Math.Seq.{take-append_seam}
use Rattle.std.proofs.lemmas.List.{length-append}
use Rattle.replay_output.specs.Notes.{with_member}

-- the member is put before the end of the text
pub member_added : (old member kept new : List ℕ) → old ≢ [] → member ≢ [] → old ≡ kept ++ codes "}\n"
    → new ≡ kept ++ codes "," ++ member ++ codes "}\n" → new ≡ with_member old member
member_added [] member kept new shown some split added = absurd (shown refl)
member_added (letter ∷ text) [] kept new shown some split added = absurd (some refl)
member_added (letter ∷ text) (first ∷ member) kept new shown some split added =
    let count : length text - 1 ≡ length kept = omega (arith, ap length split, length-append kept (codes "}\n")) in
    let front : take (length text - 1) (letter ∷ text) ≡ kept =
    ap (λ (n : ℕ). take n (letter ∷ text)) count
    ∙ ap (take (length kept)) split
    ∙ take-append_seam kept (codes "}\n") in
    added ∙ ap (λ (xs : List ℕ). xs ++ codes "," ++ (first ∷ member) ++ codes "}\n") (sym front)
