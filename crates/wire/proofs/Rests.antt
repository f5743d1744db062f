-- What is still to be read, and where in the frame it begins.
use Rattle.std.proofs.Common.{◌≡◌, ℕ, ◌+◌, ◌-◌, List, ◌++◌, length, take, drop, sym, ap, ◌∙◌, append_assoc, arith}
use Rattle.std.proofs.lemmas.List.{length-append, drop-take}
use Rattle.keyspace.specs.storage.Tables.{bytes_at}
use Rattle.wire.specs.Lying.{IsRestOf, index_of}
use Rattle.wire.proofs.Taken.{Takes}

pub rest_following : (frame a b : List ℕ) → IsRestOf frame (a ++ b) → IsRestOf frame b
rest_following frame a b r = (r.0 ++ a, r.1 ∙ sym (append_assoc r.0 a b))

pub rest_parts : (frame bytes text rest : List ℕ) → IsRestOf frame bytes → bytes ≡ text ++ rest → IsRestOf frame (text ++ rest)
rest_parts frame bytes text rest r e = (r.0, r.1 ∙ ap (λ (b : List ℕ). r.0 ++ b) e)

-- what was taken from the front leaves a rest
pub rest_after : (frame bytes text rest : List ℕ) → IsRestOf frame bytes → Takes bytes text rest → IsRestOf frame rest
rest_after frame bytes text rest r t = rest_following frame text rest (rest_parts frame bytes text rest r t.parts)

pub front_length : (frame rest : List ℕ) (r : IsRestOf frame rest) → length frame ≡ length r.0 + length rest
front_length frame rest r = ap length r.1 ∙ length-append r.0 rest

-- the rest begins after what was taken
pub index_after : (frame bytes text rest : List ℕ) → IsRestOf frame bytes → Takes bytes text rest
    → index_of frame rest ≡ index_of frame bytes + length text
index_after frame bytes text rest r t =
    let all : length frame ≡ length r.0 + length bytes = front_length frame bytes r in
    let parts : length bytes ≡ length text + length rest = ap length t.parts ∙ length-append text rest in
    omega (arith, all, parts)

-- bytes from an index on, as the end of the first ones
pub bytes_by_front : (xs : List ℕ) (from count : ℕ) → bytes_at xs from count ≡ drop from (take (from + count) xs)
bytes_by_front xs from count =
    let n : (from + count) - from ≡ count = omega arith in
    rw n (sym (drop-take from count xs))
