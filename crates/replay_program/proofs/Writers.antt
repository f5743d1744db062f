-- The writers of records, and the files that they are of.
use Rattle.std.specs.Prelude.{◌≡◌, ◌⊎◌, ℕ, zero, suc, ◌+◌, ◌≤◌, List, [], ◌∷◌, ◌++◌, length, map, MatchOption, Option, Some, None, Result, Ok, Err, option_map, slice_get}
use Rattle.std.proofs.Common.{refl, sym, ap, ◌∙◌, append_assoc, inl, inr, arith}
use Rattle.std.proofs.lemmas.List.{length-map}
use Rattle.std.proofs.lemmas.Option.{none-some, same_Some, slice_get-map}
use Rattle.keys.proofs.callers.Lists.{element_of_map}
use Rattle.replay_arguments.specs.declared.opened_files.OpeningError.{OpeningError}
use Rattle.replay_arguments.specs.declared.opened_files.OpeningError.TheVariants as opening
use Rattle.replay_arguments.specs.Opening.{IsFirstRefused, contents_each, creating_line}
use Rattle.replay_stream.specs.declared.recorder.Recorder.{Recorder}
use Rattle.replay_stream.specs.Sinks.{SinkState}
use Rattle.replay_output.specs.declared.options.Options.{Options}
use Rattle.replay_output.specs.declared.start.StartError.TheVariants as start
use Rattle.replay_program.specs.Program.{AreWriters, DidNotCreate, HaveWriters, StreamsAndFails, ReportsLine}
use Rattle.replay_tasks.specs.Replayed.{DidNotStart, Written}
use Rattle.replay_program.specs.Streamed.{FailsToStream}

-- that many places, of which the first have these items
abbrev pub padded_list : {X : Type 0} → ℕ → List X → List (Option X)
padded_list zero xs = []
padded_list (suc n) [] = None ∷ padded_list n []
padded_list (suc n) (x ∷ xs) = Some x ∷ padded_list n xs

abbrev error_or : {X E : Type 0} → E → Result X E → E
error_or other (Ok x) = other
error_or other (Err e) = e

-- the error of a result
pub same_error : {X E : Type 0} (r : Result X E) (e d : E) → r ≡ Err e → r ≡ Err d → e ≡ d
same_error {X} {E} r e d is_e is_d = ap (λ (r : Result X E). error_or e r) (sym is_e ∙ is_d)

empty : {X : Type 0} (xs : List X) → length xs ≡ 0 → xs ≡ []
empty [] none = refl
empty (x ∷ xs) none = absurd (omega (arith, none))

-- the next place, by how many items were left and are left
pub padded_next : {X : Type 0} (n : ℕ) (done : List (Option X)) (xs rest : List X) (count others : ℕ) (next : Option X)
    (all : List (Option X)) → count ≡ length xs → others ≡ length rest
    → MatchOption next ((count ≡ 0) × (others ≡ 0)) (λ x. (xs ≡ x ∷ rest) × (others + 1 ≡ count))
    → done ++ padded_list (suc n) xs ≡ all → (done ++ next ∷ []) ++ padded_list n rest ≡ all
padded_next {X} n done xs rest count others None all same same_rest steps before =
    append_assoc done (None ∷ []) (padded_list n rest)
    ∙ ap (λ (l : List X). done ++ None ∷ padded_list n l) (empty rest (sym same_rest ∙ steps.1))
    ∙ ap (λ (l : List X). done ++ padded_list (suc n) l) (sym (empty xs (sym same ∙ steps.0))) ∙ before
padded_next {X} n done xs rest count others (Some x) all same same_rest steps before =
    append_assoc done (Some x ∷ []) (padded_list n rest) ∙ ap (λ (l : List X). done ++ padded_list (suc n) l) (sym steps.0) ∙ before

pub padded_at : {X : Type 0} (n : ℕ) (xs : List X) (place : ℕ) (x : X) → length xs ≤ n → slice_get xs place ≡ Some x
    → slice_get (padded_list n xs) place ≡ Some (Some x)
padded_at n [] place x few at = absurd (none-some x at)
padded_at zero (y ∷ xs) place x few at = absurd (omega (arith, few))
padded_at (suc n) (y ∷ xs) zero x few at = ap (λ (o : Option _). Some o) at
padded_at (suc n) (y ∷ xs) (suc place) x few at = padded_at n xs place x (omega (arith, few)) at

-- after the items there are none
padded_beyond : {X : Type 0} (n : ℕ) (xs : List X) (place : ℕ) (o : Option X) → length xs ≤ place
    → slice_get (padded_list n xs) place ≡ Some o → o ≡ None
padded_beyond zero xs place o beyond at = absurd (none-some o at)
padded_beyond (suc n) [] zero o beyond at = sym (same_Some None o at)
padded_beyond (suc n) [] (suc place) o beyond at = padded_beyond n [] place o (omega arith) at
padded_beyond (suc n) (x ∷ xs) zero o beyond at = absurd (omega (arith, beyond))
padded_beyond (suc n) (x ∷ xs) (suc place) o beyond at = padded_beyond n xs place o (omega (arith, beyond)) at

-- the writers that were opened stand at the numbers of their proxies
pub have_writers : {W : Type 0} (given_to : W → Option (List ℕ)) (begun : List ℕ → Option (List ℕ)) (names : List (List ℕ))
    (opened : List W) (places : ℕ) → map given_to opened ≡ contents_each begun names → length names ≤ places
    → HaveWriters begun names (map (option_map given_to) (padded_list places opened))
have_writers {W} given_to begun names opened places are few =
    let count : length opened ≡ length names = sym (length-map opened given_to) ∙ ap length are ∙ length-map names begun in
    record {
      each = λ proxy name at.
          let there : slice_get (map given_to opened) proxy ≡ Some (begun name) =
          ap (λ l. slice_get l proxy) are ∙ slice_get-map begun names proxy ∙ ap (option_map begun) at in
          let w = element_of_map given_to opened proxy (begun name) there in
          let here = padded_at places opened proxy w.0 (omega (arith, few, count)) w.1 in
          slice_get-map (option_map given_to) (padded_list places opened) proxy ∙ ap (option_map (option_map given_to)) here
          ∙ ap (λ (b : Option (List ℕ)). Some (Some b)) w.2;
      no_more = λ proxy writer beyond at.
          let w = element_of_map (option_map given_to) (padded_list places opened) proxy writer at in
          sym w.2 ∙ ap (option_map given_to) (padded_beyond places opened proxy w.0 (omega (arith, count, beyond)) w.1);
    }

-- the files for records were not created
pub not_recorded : {Rest : Type 0} (has_created cannot_create : List ℕ → Type 0) (names : List (List ℕ)) (out error : Written)
    (cause : OpeningError)
    → ((proxy : ℕ) → cause ≡ opening.CannotOpen proxy → IsFirstRefused has_created cannot_create names proxy)
    → out.after ≡ out.before → ReportsLine error (creating_line cause)
    → DidNotCreate has_created cannot_create names out error ⊎ (DidNotStart out error ⊎ Rest)
not_recorded has_created cannot_create names out error (opening.CannotOpen proxy) first nothing reported =
    inl (record { proxy = proxy; first = first proxy refl; nothing_printed = nothing; reported = reported })
not_recorded has_created cannot_create names out error opening.Memory first nothing reported =
    inr (inl (record { cause = start.Memory; nothing_printed = nothing; reported = reported }))

-- the writers that were created were streamed to
pub recorded_and_failed : {W : Type 0} (state_of : W → SinkState) (begun : List ℕ → Option (List ℕ)) (options : Options)
    (bytes : List (Option (List ℕ))) (records : List (List ℕ)) (writers : List (Option W))
    (recorders : List (Option (Recorder W))) → AreWriters state_of begun (length bytes) records writers
    → (out error : Written) → FailsToStream state_of options bytes writers recorders out error
    → DidNotStart out error ⊎ StreamsAndFails state_of begun options bytes records recorders out error
recorded_and_failed state_of begun options bytes records writers recorders created out error (inl not_started) = inl not_started
recorded_and_failed state_of begun options bytes records writers recorders created out error (inr ran) =
    inr (record { writers = writers; opened = created; failed = ran })
