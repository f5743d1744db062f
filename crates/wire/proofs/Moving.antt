-- Bytes that were taken and appended to those that were held, chunk after chunk.
use Rattle.std.proofs.Common.{◌≡◌, ℕ, ◌+◌, ◌<◌, ◌≤◌, List, [], ◌++◌, length, take, Option, Some, None, sym, ap, subst, ◌∙◌, append_assoc, arith}
use Rattle.std.specs.Prelude.{IfSome}
use Rattle.std.specs.Io.KnownBytes.{Consumes, Keeps}
use Rattle.std.proofs.lemmas.List.{append-nil, length-append, length-take, take-take, take-append-le, take_all}
use Rattle.std.proofs.Math.Seq.{take-append-add}
use Rattle.wire.specs.Filling.{MovesInto, TakesFewer}
use Rattle.wire.proofs.callers.Known.{consumes_none, consumes_then, consumes_keeps}

pub moves_none : (a : Option (List ℕ)) (held : List ℕ) → MovesInto a a held held
moves_none a held = ([], sym (append-nil held), consumes_none a)

pub moves_then : (a b c : Option (List ℕ)) (held more all : List ℕ) → MovesInto a b held more
    → MovesInto b c more all → MovesInto a c held all
moves_then a b c held more all p q = (
  p.0 ++ q.0,
  q.1 ∙ ap (λ (x : List ℕ). x ++ q.0) p.1 ∙ append_assoc held p.0 q.0,
  consumes_then a b c p.0 q.0 p.2 q.2,
)

pub moves_all : (a b : Option (List ℕ)) (all : List ℕ) → MovesInto a b [] all → Consumes a b all
moves_all a b all p = subst (Consumes a b) (sym p.1) p.2

pub grows : (a b : Option (List ℕ)) (held all : List ℕ) → MovesInto a b held all → length held ≤ length all
grows a b held all p = omega (arith, ap length p.1, length-append held p.0)

pub fewer_none : (a : Option (List ℕ)) (most : ℕ) → 0 < most → TakesFewer most a a
fewer_none None most some = tt
fewer_none (Some xs) most some = ([], some, consumes_none (Some xs))

pub fewer_weaker : (less most : ℕ) (a b : Option (List ℕ)) → less ≤ most → TakesFewer less a b → TakesFewer most a b
fewer_weaker less most a None le fewer = tt
fewer_weaker less most a (Some ys) le fewer = (fewer.0, omega (arith, fewer.1, le), fewer.2)

pub fewer_then : (a b c : Option (List ℕ)) (held more : List ℕ) (most last : ℕ) → MovesInto a b held more
    → TakesFewer last b c → length more + last ≤ length held + most → TakesFewer most a c
fewer_then a b None held more most last p q le = tt
fewer_then a b (Some zs) held more most last p q le = (
  p.0 ++ q.0,
  omega (arith, length-append p.0 q.0, q.1, ap length p.1, length-append held p.0, le),
  consumes_then a b (Some zs) p.0 q.0 p.2 q.2,
)

-- a read more into the slice after what was read before
pub taken_more : (a b c : Option (List ℕ)) (room part after : List ℕ) (count more : ℕ) → count ≤ length room
    → after ≡ take count room ++ part → Consumes a b (take count room) → Consumes b c (take more part)
    → Consumes a c (take (count + more) after)
taken_more a b c room part after count more there is h k =
    let front = take count room in
    let len : length front ≡ count = omega (arith, length-take count room) in
    let same : take (count + more) after ≡ front ++ take more part =
    ap (take (count + more)) is ∙ ap (λ (n : ℕ). take (n + more) (front ++ part)) (sym len)
    ∙ take-append-add front part more in
    subst (Consumes a c) (sym same) (consumes_then a b c front (take more part) h k)

pub fewer_kept : (a b c : Option (List ℕ)) (bytes : List ℕ) (most : ℕ) → Consumes a b bytes
    → IfSome c (λ _. Keeps b c) → length bytes < most → TakesFewer most a c
fewer_kept a b None bytes most h k lt = tt
fewer_kept a b (Some zs) bytes most h k lt = (bytes, lt, consumes_keeps a b (Some zs) bytes h k)

-- bytes that are read into the memory after those that are held
pub filled : (held count room : ℕ) (front old read post rest : List ℕ) → front ≡ old → held ≡ length old
    → count ≤ length read → held + count ≤ room
    → take (held + count) (take room ((front ++ (read ++ post)) ++ rest)) ≡ old ++ take count read
filled held count room front old read post rest kept len few within =
    take-take (held + count) room ((front ++ (read ++ post)) ++ rest) within
    ∙ ap (λ (f : List ℕ). take (held + count) ((f ++ (read ++ post)) ++ rest)) kept
    ∙ ap (λ (x : List ℕ). take (held + count) x)
    (append_assoc old (read ++ post) rest ∙ ap (λ (t : List ℕ). old ++ t) (append_assoc read post rest))
    ∙ ap (λ (n : ℕ). take (n + count) (old ++ (read ++ (post ++ rest)))) len
    ∙ take-append-add old (read ++ (post ++ rest)) count
    ∙ ap (λ (t : List ℕ). old ++ t) (take-append-le count read (post ++ rest) few)

-- what was held stays where the memory grows
pub held_stays : (held room : ℕ) (old zeros made : List ℕ) → held ≡ length old → held ≤ room
    → made ≡ take room old ++ zeros → take held made ≡ old
held_stays held room old zeros made len le is =
    let least : held ≤ length (take room old) = omega (arith, length-take room old, len, le) in
    ap (λ (x : List ℕ). take held x) is ∙ take-append-le held (take room old) zeros least
    ∙ take-take held room old le ∙ take_all held old (omega (arith, len))
