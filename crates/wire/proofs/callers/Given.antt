-- Lemmas for callers: bytes that a writer reports, from one write to the next.
use Rattle.std.proofs.Common.{◌≡◌, ℕ, ◌+◌, Bool, true, false, List, [], ◌++◌, take, drop, Option, Some, None, sym, ap, ◌∙◌, append_assoc}
use Rattle.std.specs.Prelude.{if◌then◌else◌, IfSome, Result, Ok, Err, IfErr, OnErr}
use Rattle.std.specs.Io.KnownBytes.{Keeps, Appends}
use Rattle.std.proofs.Math.Seq.{take-add}
use Rattle.std.proofs.lemmas.List.{append-nil}

pub appends_none : (a : Option (List ℕ)) → Appends a a []
appends_none None = tt
appends_none (Some xs) = sym (append-nil xs)

pub appends_then : (a b c : Option (List ℕ)) (bs cs : List ℕ) → Appends a b bs → Appends b c cs
    → Appends a c (bs ++ cs)
appends_then None b c bs cs h k = tt
appends_then (Some xs) None c bs cs h k = absurd h
appends_then (Some xs) (Some ys) None bs cs h k = absurd k
appends_then (Some xs) (Some ys) (Some zs) bs cs h k =
    k ∙ ap (λ (x : List ℕ). x ++ cs) h ∙ append_assoc xs bs cs

pub keeps_appends : (a b c : Option (List ℕ)) (bs : List ℕ) → Keeps a b → Appends b c bs → Appends a c bs
keeps_appends None b c bs h k = tt
keeps_appends (Some xs) None c bs h k = absurd h
keeps_appends (Some xs) (Some ys) None bs h k = absurd k
keeps_appends (Some xs) (Some ys) (Some zs) bs h k = k ∙ ap (λ (x : List ℕ). x ++ bs) h

pub appends_nothing : (a b : Option (List ℕ)) → Appends a b [] → Keeps a b
appends_nothing None b h = tt
appends_nothing (Some xs) None h = absurd h
appends_nothing (Some xs) (Some ys) h = h ∙ append-nil xs

-- as a writer reports its bytes only under a test
pub reported_appends : (hidden : Bool) (a b c : Option (List ℕ)) (bs : List ℕ) → Keeps a b → Appends b c bs
    → Appends (if hidden then None else a) (if hidden then None else c) bs
reported_appends true a b c bs h k = tt
reported_appends false a b c bs h k = keeps_appends a b c bs h k

pub reported_keeps : (hidden after : Bool) (a b : Option (List ℕ)) → hidden ≡ false → Keeps a b
    → IfSome (if after then None else b) (λ _. Keeps (if hidden then None else a) (if after then None else b))
reported_keeps true after a b e h = cc
reported_keeps false true a b e h = tt
reported_keeps false false a None e h = tt
reported_keeps false false a (Some ys) e h = h

-- one write more of a longer slice
pub written_more : (a b c : Option (List ℕ)) (bytes : List ℕ) (written n : ℕ)
    → Appends a b (take written bytes)
    → Appends b c (take n (drop written bytes)) → Appends a c (take (written + n) bytes)
written_more a b c bytes written n h k =
    rw (take-add written n bytes) (appends_then a b c (take written bytes) (take n (drop written bytes)) h k)

-- a failed write leaves what was written before it
pub prefix : (a b c : Option (List ℕ)) (bytes : List ℕ) (written : ℕ) → Appends a b (take written bytes)
    → IfSome c (λ _. Keeps b c) → IfSome c (λ _. (n : ℕ) × Appends a c (take n bytes))
prefix a b None bytes written h k = tt
prefix None b (Some zs) bytes written h k = (written, tt)
prefix (Some xs) None (Some zs) bytes written h k = absurd h
prefix (Some xs) (Some ys) (Some zs) bytes written h k = (written, k ∙ h)

-- what is known at an error, weakened
pub on_err_weaker : {T E P Q : Type 0} (r : Result T E) → (P → Q) → OnErr r P → OnErr r Q
on_err_weaker (Ok x) weaker holds = tt
on_err_weaker (Err e) weaker holds = weaker holds

pub on_err : {T E P : Type 0} (r : Result T E) → P → OnErr r P
on_err (Ok x) holds = tt
on_err (Err e) holds = holds

-- what is known at every error
pub at_any_err : {T E : Type 0} {P : E → Type 0} (r : Result T E) → ((e : E) → P e) → IfErr r P
at_any_err (Ok x) holds = tt
at_any_err (Err e) holds = holds e
