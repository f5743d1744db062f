-- Lines of split points, one after another.
use Rattle.std.proofs.Common.{◌≡◌, ℕ, Bool, true, false, List, [], ◌∷◌, ◌++◌, Option, Some, None, refl, sym, ap, subst, ◌∙◌, append_assoc}
use Rattle.std.specs.Prelude.{Result, Ok, Err, IfOk, IfSome, ◌==◌, if◌then◌else◌}
use Rattle.std.proofs.lemmas.List.{append-nil}
use Rattle.std.specs.Io.BufRead.{take_through, drop_through}
use Rattle.std.specs.Io.KnownBytes.{IsAtEnd}
use Rattle.batches_tasks.specs.Points.{ArePointLines, TakesPoint}

through_parts : (byte : ℕ) (xs : List ℕ) → xs ≡ take_through byte xs ++ drop_through byte xs
through_parts byte [] = refl
through_parts byte (x ∷ xs) =
    elim (x == byte) as (λ b. x ∷ xs ≡ (if b then x ∷ [] else x ∷ take_through byte xs) ++ (if b then xs else drop_through byte xs)) [
      | true ↦ refl
      | false ↦ ap (λ (t : List ℕ). x ∷ t) (through_parts byte xs)
    ]

-- whatever keys the bytes left spell: with those that were read before them, they are the keys of all bytes
abbrev pub KeysSoFar : Option (List ℕ) → Option (List ℕ) → List (List ℕ) → Type 0
KeysSoFar left now keys =
    (more : List (List ℕ)) → IfSome now (λ bytes. ArePointLines bytes more) → IfSome left (λ bytes. ArePointLines bytes (keys ++ more))

pub no_keys : (left : Option (List ℕ)) → KeysSoFar left left []
no_keys left more rest = rest

with_first : (now next : Option (List ℕ)) (key : List ℕ) (more : List (List ℕ)) → TakesPoint now next key
    → IfSome next (λ bytes. ArePointLines bytes more) → IfSome now (λ bytes. ArePointLines bytes (key ∷ more))
with_first None next key more taken rest = tt
with_first (Some xs) next key more taken rest = (
  drop_through 10 xs,
  through_parts 10 xs,
  taken.0,
  subst (λ (left : Option (List ℕ)). IfSome left (λ bytes. ArePointLines bytes more)) taken.1 rest,
)

pub one_key_more : (left now next : Option (List ℕ)) (keys all : List (List ℕ)) (key : List ℕ) → KeysSoFar left now keys
    → TakesPoint now next key → all ≡ keys ++ key ∷ [] → KeysSoFar left next all
one_key_more left now next keys all key so_far taken pushed more rest =
    subst (λ (ks : List (List ℕ)). IfSome left (λ bytes. ArePointLines bytes ks))
    (sym (ap (λ (t : List (List ℕ)). t ++ more) pushed ∙ append_assoc keys (key ∷ []) more))
    (so_far (key ∷ more) (with_first now next key more taken rest))

at_end_none : (now : Option (List ℕ)) → IsAtEnd now → IfSome now (λ bytes. ArePointLines bytes [])
at_end_none None end = tt
at_end_none (Some xs) end = end

pub all_keys : (left now : Option (List ℕ)) (keys : List (List ℕ)) → KeysSoFar left now keys → IsAtEnd now
    → IfSome left (λ bytes. ArePointLines bytes keys)
all_keys left now keys so_far end =
    subst (λ (ks : List (List ℕ)). IfSome left (λ bytes. ArePointLines bytes ks)) (append-nil keys)
    (so_far [] (at_end_none now end))

-- what is known of a value, weakened
pub if_ok_weaker : {T E : Type 0} (P Q : T → Type 0) (r : Result T E) → ((x : T) → P x → Q x) → IfOk r P → IfOk r Q
if_ok_weaker P Q (Ok x) weaker holds = weaker x holds
if_ok_weaker P Q (Err e) weaker holds = tt
