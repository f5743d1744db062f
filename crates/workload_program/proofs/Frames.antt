-- The file after the frame of one more batch.
use Rattle.std.proofs.Common.{◌≡◌, ◌∙◌, ℕ, ◌+◌, ◌<◌, ◌≤◌, suc, List, [], ◌++◌, take, drop, Option, None, Some, refl, sym, ap, subst, arith, append_assoc}
use Rattle.std.specs.Prelude.{Result, Ok, Err, IfSome, OnErr}
use Rattle.std.proofs.lemmas.List.{append-nil, take-append-drop}
use Rattle.std.specs.Io.KnownBytes.{Appends, Keeps}
use Rattle.keyspace.specs.declared.batch.Batch.{Batch}
use Rattle.wire.specs.declared.version.WireVersion.TheVariants.{One}
use Rattle.wire.specs.Spelling.{SpellsBatch}
use Rattle.wire.proofs.callers.Given.{appends_then}
use Rattle.workload_program.specs.declared.shape.Shape.{Shape}
use Rattle.workload_program.specs.Chain.{IsBatchOf, AreFrames, BreaksOff}

-- what was written so far: the frames of all batches below this number
abbrev pub SoFar : Shape → ℕ → ℕ → Option (List ℕ) → Option (List ℕ) → Type 0
SoFar shape count number before after =
    (bytes : List ℕ) × AreFrames shape count number bytes × Appends before after bytes

pub one_more : (shape : Shape) (count number : ℕ) (batch : Batch) (last : List ℕ)
    (before between after : Option (List ℕ)) → SoFar shape count number before between
    → IsBatchOf shape count number batch → SpellsBatch One last batch → Appends between after last
    → SoFar shape count (number + 1) before after
one_more shape count number batch last before between after so_far is_batch spelled grown =
    let bytes = so_far.0 in
    let next : suc number ≡ number + 1 = omega arith in (
      bytes ++ last,
      subst (λ (n : ℕ). AreFrames shape count n (bytes ++ last)) next
          (bytes, last, batch, refl, so_far.1, is_batch, spelled),
      appends_then before between after bytes last so_far.2 grown,
    )

-- what is written so far is a prefix
pub so_far_breaks : (shape : Shape) (count number batches : ℕ) (before after : Option (List ℕ)) → number ≤ batches
    → SoFar shape count number before after → BreaksOff shape count batches before after
so_far_breaks shape count number batches before None few so_far = tt
so_far_breaks shape count number batches before (Some given) few so_far = (
  number,
  few,
  so_far.0,
  [],
  subst (λ (bytes : List ℕ). AreFrames shape count number bytes) (sym (append-nil so_far.0)) so_far.1,
  so_far.2,
)

-- what is written so far and a prefix of one more frame are a prefix
pub write_breaks : (shape : Shape) (count number batches : ℕ) (batch : Batch) (last : List ℕ)
    (before between after : Option (List ℕ)) → number < batches → SoFar shape count number before between
    → IsBatchOf shape count number batch → SpellsBatch One last batch
    → IfSome after (λ _. (n : ℕ) × Appends between after (take n last)) → BreaksOff shape count batches before after
write_breaks shape count number batches batch last before between None few so_far is_batch spelled part = tt
write_breaks shape count number batches batch last before between (Some given) few so_far is_batch spelled part =
    let front = so_far.0 in
    let begun = take part.0 last in
    let left = drop part.0 last in
    let entire : (front ++ begun) ++ left ≡ front ++ last =
    append_assoc front begun left ∙ ap (λ (bytes : List ℕ). front ++ bytes) (take-append-drop part.0 last) in
    let least : suc number ≤ batches = omega (arith, few) in (
      suc number,
      least,
      front ++ begun,
      left,
      (front, last, batch, entire, so_far.1, is_batch, spelled),
      appends_then before between (Some given) front begun so_far.2 part.1,
    )

-- all frames are a prefix if the flush fails
pub flush_breaks : (shape : Shape) (count batches : ℕ) (before between after : Option (List ℕ))
    → SoFar shape count batches before between → IfSome after (λ _. Keeps between after)
    → BreaksOff shape count batches before after
flush_breaks shape count batches before between None so_far kept = tt
flush_breaks shape count batches None between (Some given) so_far kept =
    so_far_breaks shape count batches batches None (Some given) (omega arith) (so_far.0, so_far.1, tt)
flush_breaks shape count batches (Some old) None (Some given) so_far kept = absurd so_far.2
flush_breaks shape count batches (Some old) (Some reported) (Some given) so_far kept =
    so_far_breaks shape count batches batches (Some old) (Some given) (omega arith)
    (so_far.0, so_far.1, kept ∙ so_far.2)

-- what holds is on each error
pub on_err : {T E : Type 0} (r : Result T E) (P : Type 0) → P → OnErr r P
on_err (Ok x) P holds = tt
on_err (Err e) P holds = holds
