-- Two results of the same variant, as one and the other after `map_err`.
use Rattle.std.specs.Prelude.{◌≡◌, Result, Ok, Err, is_ok, OnOk, OnErr}
use Rattle.std.proofs.Common.{ap}

pub on_ok_also : {S T E F P Q : Type 0} (first : Result S E) (second : Result T F) → is_ok second ≡ is_ok first
    → (P → Q) → OnOk first P → OnOk second Q
on_ok_also first (Err f) same weaker holds = tt
on_ok_also (Ok x) (Ok y) same weaker holds = weaker holds
on_ok_also (Err e) (Ok y) same weaker holds = cc

pub at_err_also : {S T E F P : Type 0} (first : Result S E) (second : Result T F) (f : F)
    → is_ok second ≡ is_ok first → second ≡ Err f → OnErr first P → P
at_err_also (Ok x) second f same is holds = let clash = ap is_ok is in cc
at_err_also (Err e) second f same is holds = holds

pub on_err : {T E Q : Type 0} (r : Result T E) → Q → OnErr r Q
on_err (Ok x) q = tt
on_err (Err e) q = q
