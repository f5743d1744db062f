use Rattle.std.proofs.Common.{[], ◌≡◌, ◌⊎◌, ◌∙◌, List, ℕ, ap, inl, inr, map, refl, string_bytes, subst, sym, true}
use Rattle.clap.specs.Words.{App, HasKind, IsAmong, Kinds, fault_of, is_simple_and_free, kind_of}
use Rattle.clap.specs.declared.error.kind.ErrorKind.{ErrorKind}
use Rattle.clap.specs.declared.error.kind.ErrorKind.TheVariants.{DisplayHelp, DisplayVersion, OutOfMemory}
use Rattle.workload_program.specs.Command.{faults_of, workload_app}
use Rattle.workload_program.proofs.TextAlone.{AreOfText, some_kind, shows_text}
use Rattle.workload_program.proofs.words.asked_text.Goals as goal

workload_app-free : is_simple_and_free workload_app ≡ true
unfolding workload_app
workload_app-free = refl

-- an error that shows a text isn't one of memory
is_among : (kinds : Kinds) (kind : ErrorKind) → (kind ≡ OutOfMemory) ⊎ IsAmong kind kinds
    → (kind ≡ DisplayHelp) ⊎ (kind ≡ DisplayVersion) → IsAmong kind kinds
is_among kinds kind (inr among) text = among
is_among kinds kind (inl memory) (inl help) = let bad : OutOfMemory ≡ DisplayHelp = sym memory ∙ help in absurd cc
is_among kinds kind (inl memory) (inr version) = let bad : OutOfMemory ≡ DisplayVersion = sym memory ∙ version in absurd cc

pub returns-in-DisplayHelp-clause-asked : goal.returns-in-DisplayHelp-clause-asked
unfolding faults_of
returns-in-DisplayHelp-clause-asked c =
    let words : List (List ℕ) = map string_bytes c.args.words.now in
    let kinds = c.in-Err.ensures.kinds (ap is_simple_and_free c.in_ok-command.ensures.app ∙ workload_app-free) in
    let has = subst (λ (app : App). HasKind (fault_of app words) c.in-Err.error) c.in_ok-command.ensures.app kinds in
    let kind = kind_of c.in-Err.error in
    let text : (kind ≡ DisplayHelp) ⊎ (kind ≡ DisplayVersion) =
    subst (λ (k : ErrorKind). (k ≡ DisplayHelp) ⊎ (k ≡ DisplayVersion)) c.kind.ensures c.in-DisplayHelp.is in
    (kind, is_among (fault_of workload_app words) kind has text, text)

pub returns-in_default-clause-answered : goal.returns-in_default-clause-answered
unfolding faults_of
returns-in_default-clause-answered c = λ alone.
    let words : List (List ℕ) = map string_bytes c.args.words.now in
    let kinds = c.in_default.ensures.kinds (ap is_simple_and_free c.in_ok-command.ensures.app ∙ workload_app-free) in
    let none = subst (λ (app : App). fault_of app words ≡ []) c.in_ok-command.ensures.app kinds in
    absurd (some_kind (fault_of workload_app words) alone none)

-- an error that shows no text and isn't of memory is of none of the kinds
shows_none : (kinds : Kinds) (kind : ErrorKind) → (kind ≡ OutOfMemory → ⊥) → (kind ≡ DisplayHelp → ⊥) → (kind ≡ DisplayVersion → ⊥)
    → (kind ≡ OutOfMemory) ⊎ IsAmong kind kinds → ¬ AreOfText kinds
shows_none kinds kind no_memory no_help no_version (inl memory) alone = no_memory memory
shows_none kinds kind no_memory no_help no_version (inr among) alone =
    elim (shows_text kinds kind alone among) [ inl help ↦ no_help help | inr version ↦ no_version version ]

pub returns : goal.returns
unfolding faults_of
returns c =
    let words : List (List ℕ) = map string_bytes c.args.words.now in
    let kinds = c.in-Err.ensures.kinds (ap is_simple_and_free c.in_ok-command.ensures.app ∙ workload_app-free) in
    let has = subst (λ (app : App). HasKind (fault_of app words) c.in-Err.error) c.in_ok-command.ensures.app kinds in
    let kind = kind_of c.in-Err.error in
    record {
      asked = tt;
      answered = λ alone. absurd (shows_none (fault_of workload_app words) kind
          (λ is. c.in_default-kind.not-OutOfMemory (c.kind.ensures ∙ is))
          (λ is. c.in_default-kind.not-DisplayHelp (c.kind.ensures ∙ is))
          (λ is. c.in_default-kind.not-DisplayVersion (c.kind.ensures ∙ is)) has alone);
      memory = tt;
    }
