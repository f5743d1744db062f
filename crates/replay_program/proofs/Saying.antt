-- What is said of a failure: what was found in files, and the line about it.
use Rattle.std.specs.Prelude.{◌≡◌, ◌⊎◌, ℕ, zero, suc, ◌+◌, ◌<◌, ◌≤◌, ℤ, List, [], ◌∷◌, ◌++◌, length, map, take, Option, None, Some, IfErr, IfSome, OnOk, Result, Ok, Err, slice_get, slice_index_or}
use Rattle.std.specs.Borrow.{Bor}
use Rattle.std.proofs.Common.{refl, sym, ap, subst, ◌∙◌, append-nil, append_assoc, inl, inr, arith}
use Rattle.keyspace.specs.declared.batch.Batch.{Batch}
use Rattle.limits.specs.declared.stop.Stop.TheVariants as stop
use Rattle.wire.specs.declared.error.WireError.{WireError}
use Rattle.wire.specs.declared.error.WireError.TheVariants.{Memory, Write}
use Rattle.replay_diagnosis.specs.declared.run_findings.Finding.{Finding}
use Rattle.replay_diagnosis.specs.declared.run_findings.Finding.TheVariants as found
use Rattle.replay_diagnosis.specs.declared.run_findings.RunFinding.{RunFinding}
use Rattle.replay_diagnosis.specs.declared.run_findings.RunFinding.TheVariants as run
use Rattle.replay_diagnosis.specs.Content.{FoundIn}
use Rattle.replay_diagnosis.specs.Following.{Follows, HasLeast, NoneBegins, NoneFollowsBelow}
use Rattle.replay_diagnosis.specs.Remedy.{run_remedy_line}
use Rattle.replay_tasks.specs.Replayed.{HasFailed, Took, TookPrefix, Written}
use Rattle.replay_tasks.specs.Summarized.{TookUnlessFailed}
use Rattle.replay_tasks.specs.declared.met.Met.{Met}
use Rattle.replay_program.specs.Verbose.{AreBatches, AreExamined, HaveBatches, IsExplained, IsFoundIn, IsFoundOf, IsGateFinding, IsOfFile, IsOfRun, SaysHeld}
use Rattle.keys.proofs.callers.Lists.{take_map_more}

-- one line was written, or a prefix of it, or nothing
pub said_by : {S U : Type 0} (given : S → Option (List ℕ)) (old new : S) (error : Written) (text : List ℕ) (wrote : Result U WireError)
    → error.before ≡ given old → error.after ≡ given new → OnOk wrote (Took error text)
    → IfErr wrote (λ e. (e ≡ Memory) ⊎ (e ≡ Write)) → IfErr wrote (λ e. e ≡ Memory → new ≡ old)
    → IfErr wrote (λ e. e ≡ Write → HasFailed error × TookPrefix error text)
    → (given new ≡ given old) ⊎ TookUnlessFailed error text
said_by given old new error text (Ok u) before after took either memory write = inr (inl took)
said_by given old new error text (Err e) before after took (inl is) memory write = inl (ap given (memory is))
said_by given old new error text (Err e) before after took (inr is) memory write = inr (inr (write is))

-- so the failure was explained
pub explained_by : (contents : List ℕ → Option (List ℕ)) (cannot_open : List ℕ → Type 0) (names : List (List ℕ)) (limit : ℕ) (met : Met)
    (error : Written) (text : List ℕ) → IsOfFile contents cannot_open names text ⊎ IsOfRun contents names limit met text
    → (error.after ≡ error.before) ⊎ TookUnlessFailed error text → IsExplained contents cannot_open names limit met error
explained_by contents cannot_open names limit met error text of (inl nothing) = inl nothing
explained_by contents cannot_open names limit met error text of (inr took) = inr (text, of, took)

-- so it was said that all batches are held
pub held_said : (contents : List ℕ → Option (List ℕ)) (names : List (List ℕ)) (error : Written) (least : Option ℤ) (version said : ℤ)
    → said ≡ version → AreExamined contents names least
    → ((batches : List Batch) → HasLeast batches least
    → NoneBegins batches × Follows version batches × NoneFollowsBelow version batches)
    → (error.after ≡ error.before) ⊎ TookUnlessFailed error (run_remedy_line (run.AllHeld said)) → SaysHeld contents names error
held_said contents names error least version said same examined held (inl nothing) = inl nothing
held_said contents names error least version said same examined held (inr took) =
    let of_them = held examined.0 examined.2 in
    inr (
      version,
      (examined.0, examined.1, of_them.0, of_them.1, of_them.2),
      subst (λ (v : ℤ). TookUnlessFailed error (run_remedy_line (run.AllHeld v))) same took,
    )

-- what a full gate is found to be
pub gate_found : (limit : ℕ) (met : Met) (batches : List Batch) (finding : RunFinding) → met.stop ≡ Some stop.GateFull
    → IsGateFinding batches finding → IsFoundOf limit met batches finding
gate_found limit met batches (run.AllHeld version) is found = (is, found)
gate_found limit met batches run.GateFull is found = (is, found)
gate_found limit met batches (run.ArenaFull version boundaries) is found = absurd found
gate_found limit met batches run.Output is found = absurd found

-- what holds of something, if there is one
pub weaker : {X : Type 0} {P Q : X → Type 0} (found : Option X) → ((x : X) → P x → Q x) → IfSome found P → IfSome found Q
weaker None more holds = tt
weaker (Some x) more holds = more x holds

-- what was found in a file that was opened
pub found_as : (contents : List ℕ → Option (List ℕ)) (cannot_open : List ℕ → Type 0) (name : List ℕ) (finding : Finding)
    → FoundIn (contents name) finding → IsFoundIn contents cannot_open name finding
found_as contents cannot_open name found.CannotOpen is = absurd is.next
found_as contents cannot_open name found.StandardInput is = absurd is.next
found_as contents cannot_open name found.Memory is = tt
found_as contents cannot_open name (found.Unreadable at) is = is
found_as contents cannot_open name found.Json is = is
found_as contents cannot_open name (found.Reply at) is = is
found_as contents cannot_open name (found.Truncated at missing) is = is
found_as contents cannot_open name (found.NotAFrame at fault) is = is

-- the item at an index, of mapped ones
pub get_of : {X Y : Type 0} (f : X → Y) (xs : List X) (n : ℕ) (d : X) → n < length xs
    → slice_get (map f xs) n ≡ Some (f (slice_index_or xs n d))
get_of f [] n d inside = absurd (omega (arith, inside))
get_of f (x ∷ xs) zero d inside = refl
get_of f (x ∷ xs) (suc n) d inside = get_of f xs n d (omega (arith, inside))

pub take_entire : {X Y : Type 0} (f : X → Y) (xs : List X) (n : ℕ) → length xs ≤ n → take n (map f xs) ≡ map f xs
take_entire f [] zero all = refl
take_entire f [] (suc n) all = refl
take_entire f (x ∷ xs) zero all = absurd (omega (arith, all))
take_entire f (x ∷ xs) (suc n) all = ap (λ l. f x ∷ l) (take_entire f xs n (omega (arith, all)))

module _ (contents : List ℕ → Option (List ℕ)) where
  -- one file more
  have_more : (names : List (List ℕ)) (batches : List Batch) (name : List ℕ) (own : List Batch) → HaveBatches contents names batches
      → AreBatches (contents name) own → HaveBatches contents (names ++ name ∷ []) (batches ++ own)
  have_more [] batches name own none are =
      (own, [], are, refl, ap (λ (l : List Batch). l ++ own) none ∙ sym (append-nil own))
  have_more (n ∷ names) batches name own have are =
      let first = have.0 in
      let rest = have.1 in (
        first,
        rest ++ own,
        have.2,
        have_more names rest name own have.3 are,
        ap (λ (l : List Batch). l ++ own) have.4 ∙ append_assoc first rest own,
      )

  module _ (names : List (Bor (List ℕ))) where
    abbrev texts : List (List ℕ)
    texts = map (λ name. name.now) names

    pub none_examined : (least : Option ℤ) → HasLeast [] least → AreExamined contents (take 0 texts) least
    none_examined least none = ([], refl, none)

    pub examined_more : (proxy : ℕ) (d : Bor (List ℕ)) (old new more : Option ℤ) → proxy < length names
        → ((batches others : List Batch) → HasLeast batches old → HasLeast others more → HasLeast (batches ++ others) new)
        → ((own : List Batch) × AreBatches (contents (slice_index_or names proxy d).now) own × HasLeast own more)
        → AreExamined contents (take proxy texts) old → AreExamined contents (take (proxy + 1) texts) new
    examined_more proxy d old new more inside joined own before = (
      before.0 ++ own.0,
      subst (λ (l : List (List ℕ)). HaveBatches contents l (before.0 ++ own.0))
          (sym (take_map_more (λ (name : Bor (List ℕ)). name.now) names proxy d inside))
          (have_more (take proxy texts) before.0 (slice_index_or names proxy d).now own.0 before.1 own.1),
      joined before.0 own.0 before.2 own.2,
    )
