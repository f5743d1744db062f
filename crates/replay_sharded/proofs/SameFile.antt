-- Known bytes are read in one way: readers that have come to their end have read the same batches.
use Rattle.std.specs.Prelude.{◌≡◌, ℕ, List, [], ◌∷◌, ◌++◌, Option, None, Some}
use Rattle.std.proofs.Common.{refl, sym, ap, subst, ◌∙◌}
use Rattle.std.proofs.lemmas.List.{append_cancel_left}
use Rattle.std.specs.Io.KnownBytes.{IsAtEnd}
use Rattle.keyspace.specs.declared.batch.Batch.{Batch}
use Rattle.wire.specs.declared.version.WireVersion.{WireVersion}
use Rattle.wire.specs.NextFrame.{TakesFrame}
use Rattle.wire.specs.Reading.{version_at_front}
use Rattle.wire.specs.Spelling.{SpellsBatch}
use Rattle.wire.specs.Batches.{GivesEach}

-- no frame begins another (`wire::laws::one_spelling`)
abbrev pub HasOneSpelling : Type 0
HasOneSpelling =
    (v w : WireVersion) (x y s t : List ℕ) (a b : Batch) → SpellsBatch v x a → SpellsBatch w y b → x ++ s ≡ y ++ t
    → (v ≡ w) × (x ≡ y) × (a ≡ b)

pub one_frame : HasOneSpelling → (bytes : List ℕ) (left right : Option (List ℕ)) (a b : Batch) → TakesFrame (Some bytes) left a
    → TakesFrame (Some bytes) right b → (a ≡ b) × (left ≡ right)
one_frame law bytes None right a b one other = absurd one.2
one_frame law bytes (Some ys) None a b one other = absurd other.2
one_frame law bytes (Some ys) (Some zs) a b one other =
    let same =
    law (version_at_front one.0) (version_at_front other.0) one.0 other.0 ys zs a b one.1 other.1 (sym one.2 ∙ other.2) in
    let rest : one.0 ++ ys ≡ one.0 ++ zs =
    sym one.2 ∙ (other.2 ∙ ap (λ (front : List ℕ). front ++ zs) (sym same.1)) in
    (same.2, ap (λ (l : List ℕ). Some l) (append_cancel_left one.0 ys zs rest))

-- a frame has bytes
some_byte : (v : WireVersion) (b : Batch) (xs : List ℕ) → SpellsBatch v [] b → ⊥
some_byte v b xs spelled = let bad = spelled.text in cc

no_frame : (left : Option (List ℕ)) (b : Batch) → TakesFrame (Some []) left b → ⊥
no_frame None b takes = takes.2
no_frame (Some ys) b takes = go takes.0 takes.1 takes.2
  where
    go : (front : List ℕ) → SpellsBatch (version_at_front front) front b → [] ≡ front ++ ys → ⊥
    go [] spelled is = some_byte (version_at_front []) b [] spelled
    go (x ∷ front) spelled is = cc

pub same_batches : HasOneSpelling → (bytes : List ℕ) (left right : Option (List ℕ)) (some other : List Batch)
    → GivesEach TakesFrame (Some bytes) left some → GivesEach TakesFrame (Some bytes) right other → IsAtEnd left → IsAtEnd right
    → some ≡ other
same_batches law bytes left right [] [] reads others ends also = refl
same_batches law bytes left right [] (b ∷ other) reads others ends also =
    let none : bytes ≡ [] = subst IsAtEnd reads ends in
    absurd (no_frame others.0 b (subst (λ (l : List ℕ). TakesFrame (Some l) others.0 b) none others.1))
same_batches law bytes left right (a ∷ some) [] reads others ends also =
    let none : bytes ≡ [] = subst IsAtEnd others also in
    absurd (no_frame reads.0 a (subst (λ (l : List ℕ). TakesFrame (Some l) reads.0 a) none reads.1))
same_batches law bytes left right (a ∷ some) (b ∷ other) reads others ends also =
    go (λ rest first second. same_batches law rest left right some other first second ends also) reads.0 others.0 reads.1 others.1
    reads.2 others.2
  where
    go : ((rest : List ℕ) → GivesEach TakesFrame (Some rest) left some → GivesEach TakesFrame (Some rest) right other → some ≡ other)
        → (between then : Option (List ℕ)) → TakesFrame (Some bytes) between a → TakesFrame (Some bytes) then b
        → GivesEach TakesFrame between left some → GivesEach TakesFrame then right other → a ∷ some ≡ b ∷ other
    go later None then one two first second = absurd one.2
    go later (Some rest) then one two first second =
        let same = one_frame law bytes (Some rest) then a b one two in
        ap (λ (x : Batch). x ∷ some) same.0
        ∙ ap (λ (l : List Batch). b ∷ l)
        (later rest first (subst (λ (o : Option (List ℕ)). GivesEach TakesFrame o right other) (sym same.1) second))
