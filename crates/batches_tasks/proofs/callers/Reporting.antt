-- The texts on standard error, in sequence.
use Rattle.std.proofs.Common.{◌≡◌, ◌⊎◌, inl, inr, ℕ, ◌<◌, List, [], ◌∷◌, ◌++◌, Option, refl, sym, ap, ◌∙◌, append_assoc, arith}
use Rattle.wire.proofs.callers.Given.{appends_none, appends_then}
use Rattle.batches_tasks.specs.ErrorText.{ReportsText, ReportsLine}

pub reports_none : (given : Option (List ℕ)) (failures : ℕ) → ReportsText given given failures failures
reports_none given failures = inr (refl, ([], appends_none given))

pub reports_then : (a b c : Option (List ℕ)) (f g h : ℕ) → ReportsText a b f g → ReportsText b c g h → ReportsText a c f h
reports_then a b c f g h (inl lt) (inl more) = inl (omega arith)
reports_then a b c f g h (inl lt) (inr q) = inl (omega (arith, q.0))
reports_then a b c f g h (inr p) (inl more) = inl (omega (arith, p.0))
reports_then a b c f g h (inr p) (inr q) = inr (q.0 ∙ p.0, (p.1.0 ++ q.1.0, appends_then a b c p.1.0 q.1.0 p.1.1 q.1.1))

pub line_after : (a b c : Option (List ℕ)) (f g h : ℕ) → ReportsText a b f g → ReportsLine b c g h → ReportsLine a c f h
line_after a b c f g h (inl lt) (inl more) = inl (omega arith)
line_after a b c f g h (inl lt) (inr q) = inl (omega (arith, q.0))
line_after a b c f g h (inr p) (inl more) = inl (omega (arith, p.0))
line_after a b c f g h (inr p) (inr q) =
    let line = q.1.0 in
    let is_line = q.1.1 in
    inr (
      q.0 ∙ p.0,
      (
        p.1.0 ++ line,
        (p.1.0 ++ is_line.0, ap (λ (t : List ℕ). p.1.0 ++ t) is_line.1 ∙ sym (append_assoc p.1.0 is_line.0 (10 ∷ []))),
        appends_then a b c p.1.0 line p.1.1 q.1.2,
      ),
    )
