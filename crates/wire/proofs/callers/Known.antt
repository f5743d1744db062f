-- Lemmas for callers: bytes that a reader reports, from one read to the next.
use Rattle.std.proofs.Common.{◌≡◌, ℕ, Bool, true, false, List, [], ◌++◌, Option, Some, None, refl, sym, ap, ◌∙◌, append_assoc, append-nil}
use Rattle.std.specs.Prelude.{if◌then◌else◌, IfSome}
use Rattle.std.specs.Io.KnownBytes.{Keeps, Consumes, IsAtEnd}

pub keeps_same : (a : Option (List ℕ)) → Keeps a a
keeps_same None = tt
keeps_same (Some xs) = refl

pub keeps_then : (a b c : Option (List ℕ)) → Keeps a b → Keeps b c → Keeps a c
keeps_then None b c h k = tt
keeps_then (Some xs) None c h k = absurd h
keeps_then (Some xs) (Some ys) None h k = absurd k
keeps_then (Some xs) (Some ys) (Some zs) h k = k ∙ h

pub keeps_consumes : (a b c : Option (List ℕ)) (bs : List ℕ) → Keeps a b → Consumes b c bs → Consumes a c bs
keeps_consumes None b c bs h k = tt
keeps_consumes (Some xs) None c bs h k = absurd h
keeps_consumes (Some xs) (Some ys) None bs h k = absurd k
keeps_consumes (Some xs) (Some ys) (Some zs) bs h k = sym h ∙ k

pub consumes_keeps : (a b c : Option (List ℕ)) (bs : List ℕ) → Consumes a b bs → Keeps b c → Consumes a c bs
consumes_keeps None b c bs h k = tt
consumes_keeps (Some xs) None c bs h k = absurd h
consumes_keeps (Some xs) (Some ys) None bs h k = absurd k
consumes_keeps (Some xs) (Some ys) (Some zs) bs h k = h ∙ ap (λ (x : List ℕ). bs ++ x) (sym k)

pub consumes_none : (a : Option (List ℕ)) → Consumes a a []
consumes_none None = tt
consumes_none (Some xs) = refl

pub consumes_then : (a b c : Option (List ℕ)) (bs cs : List ℕ) → Consumes a b bs → Consumes b c cs
    → Consumes a c (bs ++ cs)
consumes_then None b c bs cs h k = tt
consumes_then (Some xs) None c bs cs h k = absurd h
consumes_then (Some xs) (Some ys) None bs cs h k = absurd k
consumes_then (Some xs) (Some ys) (Some zs) bs cs h k =
    h ∙ ap (λ (x : List ℕ). bs ++ x) k ∙ sym (append_assoc bs cs zs)

-- as a reader reports its bytes only under a test
pub reported_consumes : (hidden : Bool) (a b c : Option (List ℕ)) (bs : List ℕ) → Keeps a b → Consumes b c bs
    → Consumes (if hidden then None else a) (if hidden then None else c) bs
reported_consumes true a b c bs h k = tt
reported_consumes false a b c bs h k = keeps_consumes a b c bs h k

-- nothing was left, if nothing is left after nothing was taken
pub none_before : (a b : Option (List ℕ)) (bs : List ℕ) → Consumes a b bs → bs ≡ [] → IsAtEnd b → IsAtEnd a
none_before None b bs h e end = tt
none_before (Some xs) None bs h e end = absurd h
none_before (Some xs) (Some ys) bs h e end = h ∙ ap (λ (x : List ℕ). x ++ ys) e ∙ end

-- the bytes that were taken are all, if nothing is left
pub all_taken : (left now : Option (List ℕ)) (bytes : List ℕ) → Consumes left now bytes → IsAtEnd now → IfSome left (λ all. all ≡ bytes)
all_taken None now bytes taken end = tt
all_taken (Some xs) None bytes taken end = absurd taken
all_taken (Some xs) (Some ys) bytes taken end = taken ∙ ap (λ (t : List ℕ). bytes ++ t) end ∙ append-nil bytes
