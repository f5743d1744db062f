-- The command line as `clap` sees it, and what it finds at fault in the words.
use Rattle.std.specs.Prelude.{◌≡◌, ◌⊎◌, ℕ, true, List, [], ◌∷◌, codes}
use Rattle.clap.specs.Words.{App, IsAmong, Kinds, Rule, fault_of, new_app, new_rule, with_rule}
use Rattle.clap.specs.declared.error.kind.ErrorKind.{ErrorKind}
use Rattle.clap.specs.declared.error.kind.ErrorKind.TheVariants.{DisplayHelp, DisplayVersion}

-- a word that is wanted
abbrev pub word_rule : List ℕ → Rule
word_rule name = record (new_rule name) { required = true }

abbrev pub plain_app : App
plain_app = new_app (codes "workload")

-- `workload` with `--help` and `--version`
abbrev pub program_app : App
program_app = record plain_app { top = record plain_app.top { has_version = true } }

-- `workload SHAPE BATCHES TRANSACTIONS`, with `--help` and `--version`
unfoldable pub workload_app : App
workload_app =
    with_rule (with_rule (with_rule program_app (word_rule (codes "SHAPE"))) (word_rule (codes "BATCHES")))
    (word_rule (codes "TRANSACTIONS"))

-- what `clap` finds at fault in the words
unfoldable pub faults_of : List (List ℕ) → Kinds
faults_of = fault_of workload_app

-- the words ask for help or the version
abbrev pub AsksForText : List (List ℕ) → Type 0
AsksForText words =
    (kind : ErrorKind) × IsAmong kind (faults_of words) × ((kind ≡ DisplayHelp) ⊎ (kind ≡ DisplayVersion))

-- `clap` finds nothing at fault in the words but that they ask for help or the version
abbrev pub AsksForTextAlone : List (List ℕ) → Type 0
AsksForTextAlone words = (faults_of words ≡ DisplayHelp ∷ []) ⊎ (faults_of words ≡ DisplayVersion ∷ [])
