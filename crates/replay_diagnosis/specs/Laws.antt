-- What each line is like, whatever was found, and why batches are held.
use Rattle.std.specs.Prelude.{◌≡◌, ℕ, ◌<◌, ◌^◌, ◌==◌, ℤ, Bool, false, List, [], ◌++◌, codes}
use Rattle.std.specs.List.{list_any}
use Rattle.std.specs.Int.{w64}
use Rattle.std.specs.Int.RustNames.{FitsSigned}
use Rattle.keyspace.specs.Run.{Step, part, run}
use Rattle.replay_diagnosis.specs.declared.position.Position.{Position}
use Rattle.replay_diagnosis.specs.declared.run_findings.Finding.{Finding}
use Rattle.replay_diagnosis.specs.declared.run_findings.Finding.TheVariants as found
use Rattle.replay_diagnosis.specs.declared.run_findings.RunFinding.{RunFinding}
use Rattle.replay_diagnosis.specs.declared.run_findings.RunFinding.TheVariants as run
use Rattle.replay_diagnosis.specs.Following.{NoneBegins}
use Rattle.replay_diagnosis.specs.Remedy.{remedy_line, run_remedy_line}

abbrev pub has_line_feed : List ℕ → Bool
has_line_feed text = list_any (λ byte. byte == 10) text

-- one line, which begins with two spaces
abbrev pub IsIndentedLine : List ℕ → Type 0
IsIndentedLine text =
    (words : List ℕ) × (text ≡ codes "  " ++ words ++ codes "\n") × (has_line_feed words ≡ false)

-- numbers of the program's types
abbrev pub PositionFits : Position → Type 0
PositionFits at = (at.frame < 2 ^ 64) × (at.offset < 2 ^ 64)

abbrev pub FindingFits : Finding → Type 0
FindingFits (found.Unreadable at) = PositionFits at
FindingFits (found.Reply at) = PositionFits at
FindingFits (found.Truncated at missing) = PositionFits at × (missing < 2 ^ 64)
FindingFits (found.NotAFrame at fault) = PositionFits at
FindingFits other = Unit {0}

abbrev pub RunFindingFits : RunFinding → Type 0
RunFindingFits (run.AllHeld version) = FitsSigned w64 version
RunFindingFits (run.ArenaFull version limit) = FitsSigned w64 version × (limit < 2 ^ 64)
RunFindingFits other = Unit {0}

abbrev pub EachRemedyIsALine : Type 0
EachRemedyIsALine = (name : List ℕ) (finding : Finding) → FindingFits finding → IsIndentedLine (remedy_line name finding)

abbrev pub EachRunRemedyIsALine : Type 0
EachRunRemedyIsALine = (finding : RunFinding) → RunFindingFits finding → IsIndentedLine (run_remedy_line finding)

-- Over a log in which no batch follows version -1, the reference resolver processes none.
abbrev pub NoneIsProcessed : Type 0
NoneIsProcessed = (window : ℤ) (log : List Step) → ((proxy : ℕ) → NoneBegins (part log proxy)) → (run window log).processed ≡ []
