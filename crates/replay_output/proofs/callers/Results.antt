-- Lemmas for callers: what is known at an error, weakened.
use Rattle.std.specs.Prelude.{Result, Ok, Err, OnErr}

pub on_err_weaker : {T E P Q : Type 0} (r : Result T E) → (P → Q) → OnErr r P → OnErr r Q
on_err_weaker (Ok x) weaker holds = tt
on_err_weaker (Err e) weaker holds = weaker holds
