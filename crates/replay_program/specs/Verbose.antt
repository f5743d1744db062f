-- What more is said of a run: one line about a file or about the run if it failed, or that all batches are held. This project's own.
use Rattle.std.specs.Prelude.{◌≡◌, ◌⊎◌, ℕ, negsuc, ℤ, true, List, [], ◌∷◌, ◌++◌, take, Option, Some, IfSome, slice_get}
use Rattle.keyspace.specs.declared.batch.Batch.{Batch}
use Rattle.limits.specs.declared.stop.Stop.TheVariants as stop
use Rattle.wire.specs.Upgrade.{AreFrames}
use Rattle.replay_arguments.specs.Arguments.{standard_input}
use Rattle.replay_diagnosis.specs.declared.run_findings.Finding.{Finding}
use Rattle.replay_diagnosis.specs.declared.run_findings.Finding.TheVariants as found
use Rattle.replay_diagnosis.specs.declared.run_findings.RunFinding.{RunFinding}
use Rattle.replay_diagnosis.specs.declared.run_findings.RunFinding.TheVariants as run
use Rattle.replay_diagnosis.specs.Content.{FoundIn}
use Rattle.replay_diagnosis.specs.Following.{Follows, HasLeast, NoneBegins, NoneFollowsBelow}
use Rattle.replay_diagnosis.specs.Remedy.{remedy_line, run_remedy_line}
use Rattle.replay_tasks.specs.declared.met.Met.{Met}
use Rattle.replay_tasks.specs.Replayed.{Written}
use Rattle.replay_tasks.specs.Summarized.{TookUnlessFailed}

-- the bytes are the frames of these batches, and nothing else
abbrev pub AreBatches : Option (List ℕ) → List Batch → Type 0
AreBatches bytes batches = (frames : List ℕ) × AreFrames frames batches × IfSome bytes (λ all. all ≡ frames)

-- The files of these names have the frames of these batches and nothing else: those of the first file, then those of the others.
abbrev pub HaveBatches : (List ℕ → Option (List ℕ)) → List (List ℕ) → List Batch → Type 0
HaveBatches contents [] batches = batches ≡ []
HaveBatches contents (name ∷ names) batches =
    (own rest : List Batch) × AreBatches (contents name) own × HaveBatches contents names rest × (batches ≡ own ++ rest)

-- the same, and this is the least version that one of the batches follows, if there is a batch
abbrev pub AreExamined : (List ℕ → Option (List ℕ)) → List (List ℕ) → Option ℤ → Type 0
AreExamined contents names least = (batches : List Batch) × HaveBatches contents names batches × HasLeast batches least

-- A finding is true of the file of this name. If memory was refused, nothing is said of its bytes.
abbrev pub IsFoundIn : (List ℕ → Option (List ℕ)) → (List ℕ → Type 0) → List ℕ → Finding → Type 0
IsFoundIn contents cannot_open name found.CannotOpen = cannot_open name
IsFoundIn contents cannot_open name found.StandardInput = name ≡ standard_input
IsFoundIn contents cannot_open name found.Memory = Unit {0}
IsFoundIn contents cannot_open name finding = FoundIn (contents name) finding

-- This is found in the file of this name, and the files named before it have frames of batches and nothing else.
pub record IsFirstFound (contents : List ℕ → Option (List ℕ)) (cannot_open : List ℕ → Type 0) (names : List (List ℕ)) (name : List ℕ)
    (finding : Finding) : Type 0 where
  pub proxy : ℕ
  pub named : slice_get names proxy ≡ Some name
  pub before : (batches : List Batch) × HaveBatches contents (take proxy names) batches
  pub found : IsFoundIn contents cannot_open name finding

-- what is said of a full gate, if the files have these batches
abbrev pub IsGateFinding : List Batch → RunFinding → Type 0
IsGateFinding batches (run.AllHeld version) = NoneBegins batches × Follows version batches × NoneFollowsBelow version batches
IsGateFinding batches run.GateFull = (batches ≡ []) ⊎ Follows (negsuc 0) batches
IsGateFinding batches _ = ⊥

-- a finding is true of a run that met this, with this limit of boundaries, over files with these batches
abbrev pub IsFoundOf : ℕ → Met → List Batch → RunFinding → Type 0
IsFoundOf limit met batches (run.ArenaFull version boundaries) =
    (met.stop ≡ Some stop.ArenaFull) × (met.version ≡ Some version) × (boundaries ≡ limit)
IsFoundOf limit met batches run.Output = met.output_failed ≡ true
IsFoundOf limit met batches finding = (met.stop ≡ Some stop.GateFull) × IsGateFinding batches finding

-- the line is about the first file that can't be opened or has something else than frames of batches
pub record IsOfFile (contents : List ℕ → Option (List ℕ)) (cannot_open : List ℕ → Type 0) (names : List (List ℕ)) (text : List ℕ)
    : Type 0 where
  pub name : List ℕ
  pub finding : Finding
  pub first : IsFirstFound contents cannot_open names name finding
  pub text_is : text ≡ remedy_line name finding

-- all files have frames of batches and nothing else, and the line is about the run
pub record IsOfRun (contents : List ℕ → Option (List ℕ)) (names : List (List ℕ)) (limit : ℕ) (met : Met) (text : List ℕ) : Type 0 where
  pub batches : List Batch
  pub have : HaveBatches contents names batches
  pub finding : RunFinding
  pub found : IsFoundOf limit met batches finding
  pub text_is : text ≡ run_remedy_line finding

-- Standard error was given nothing more, or one such line, or a prefix of it after which it failed.
abbrev pub IsExplained : (List ℕ → Option (List ℕ)) → (List ℕ → Type 0) → List (List ℕ) → ℕ → Met → Written → Type 0
IsExplained contents cannot_open names limit met error =
    (error.after ≡ error.before)
    ⊎ ((text : List ℕ) × (IsOfFile contents cannot_open names text ⊎ IsOfRun contents names limit met text)
    × TookUnlessFailed error text)

-- No batch of the files of these names follows version -1, so all of them are held. This is the least version that one of them follows.
abbrev pub AreHeldFrom : (List ℕ → Option (List ℕ)) → List (List ℕ) → ℤ → Type 0
AreHeldFrom contents names version =
    (batches : List Batch) × HaveBatches contents names batches
    × NoneBegins batches × Follows version batches × NoneFollowsBelow version batches

-- Standard error was given nothing more, or the line that all batches are held, or a prefix of it after which it failed.
abbrev pub SaysHeld : (List ℕ → Option (List ℕ)) → List (List ℕ) → Written → Type 0
SaysHeld contents names error =
    (error.after ≡ error.before)
    ⊎ ((version : ℤ) × AreHeldFrom contents names version × TookUnlessFailed error (run_remedy_line (run.AllHeld version)))
