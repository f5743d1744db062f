-- Which refusal is made of which words.
use Rattle.std.specs.Prelude.{◌≡◌, ◌⊎◌, ℕ, ◌<◌, true, false, List, Option, None, Some, IfSome, Result, Ok, Err, OnErr, is_some, codes, length, map}
use Rattle.std.specs.Borrow.{Bor}
use Rattle.std.proofs.Common.{refl, sym, ap, ◌∙◌, subst, inl, inr, arith}
use Rattle.std.proofs.lemmas.Bool.{false≢true}
use Rattle.std.proofs.lemmas.List.{length-map}
use Rattle.clap.specs.Words.{IsAmong, Kinds, Row, all_of, is_simple_and_free}
use Rattle.clap.specs.declared.error.kind.ErrorKind.{ErrorKind}
use Rattle.clap.specs.declared.error.kind.ErrorKind.TheVariants.{DisplayHelp, DisplayVersion, OutOfMemory}
use Rattle.limits.specs.declared.settings.TheConstants.{MAX_PROXIES}
use Rattle.replay_arguments.specs.declared.arguments.refusal.ArgumentsRefusal.{ArgumentsRefusal}
use Rattle.replay_arguments.specs.declared.arguments.refusal.ArgumentsRefusal.TheVariants.{Memory, Refused, Shown}
use Rattle.replay_arguments.specs.Arguments.{
  HasFiles,
  HasRecords,
  HasRecordsEach,
  HasReplies,
  HasRepliesEach,
  HasStream,
  HoldsForm,
  HoldsStream,
  IsRefusalBy,
  IsRefusalOf,
  IsRequest,
  is_kept,
}
use Rattle.replay_arguments.specs.Command.{replay_app}
use Rattle.replay_output.specs.declared.options.form.Form.{Form}
use Rattle.replay_arguments.proofs.Getters.{bool_text_same}
use Rattle.replay_arguments.proofs.Numbers.{Some-injective}

pub replay_app-free : is_simple_and_free replay_app ≡ true
unfolding replay_app
replay_app-free = refl

request_is_no_memory : (kind : ErrorKind) → kind ≡ OutOfMemory → ¬ (IsRequest kind)
request_is_no_memory kind memory (inl help) = let bad : OutOfMemory ≡ DisplayHelp = sym memory ∙ help in cc
request_is_no_memory kind memory (inr version) = let bad : OutOfMemory ≡ DisplayVersion = sym memory ∙ version in cc

-- the refusal of an error of one of these kinds, or of want of memory
pub IsRefusalBy-of : (kinds : Kinds) (kind : ErrorKind) (refusal : ArgumentsRefusal)
    → (kind ≡ OutOfMemory) ⊎ IsAmong kind kinds → IsRefusalOf kind refusal → IsRefusalBy kinds refusal
IsRefusalBy-of kinds kind (Shown text) (inl memory) request = absurd (request_is_no_memory kind memory request)
IsRefusalBy-of kinds kind (Shown text) (inr among) request = (kind, among, request)
IsRefusalBy-of kinds kind (Refused text) (inl memory) mistake = absurd (mistake.2 memory)
IsRefusalBy-of kinds kind (Refused text) (inr among) mistake = (kind, among, mistake)
IsRefusalBy-of kinds kind Memory among memory = tt

-- what holds of an error that is returned
pub on_err : {T E P : Type 0} (r : Result T E) → P → OnErr r P
on_err (Ok value) holds = tt
on_err (Err error) holds = holds

-- no files are found
pub no_files : (rows : List Row) → all_of (codes "FILE") rows ≡ None → ¬ (HasFiles rows)
no_files rows none has = let bad : Some has.names ≡ None = sym has.found ∙ none in cc

-- the files found are none or too many
pub not_as_many : (rows : List Row) (files : List (Bor (List ℕ)))
    → all_of (codes "FILE") rows ≡ Some (map (λ file. file.now) files)
    → (length files ≡ 0) ⊎ (MAX_PROXIES < length files) → ¬ (HasFiles rows)
not_as_many rows files found (inl none) has =
    let same : has.names ≡ map (λ file. file.now) files = Some-injective (sym has.found ∙ found) in
    absurd (omega (arith, has.least, ap length same, length-map files (λ file. file.now), none))
not_as_many rows files found (inr many) has =
    let same : has.names ≡ map (λ file. file.now) files = Some-injective (sym has.found ∙ found) in
    absurd (omega (arith, has.most, ap length same, length-map files (λ file. file.now), many))

-- no files of replies are found
pub no_replies : (files : ℕ) (rows : List Row) → all_of (codes "check") rows ≡ None → ¬ (HasReplies files rows)
no_replies files rows none has = let bad : Some has.names ≡ None = sym has.found ∙ none in cc

-- the files of replies found are another number than there are files
pub other_replies : (files : ℕ) (rows : List Row) (replies : List (Bor (List ℕ)))
    → all_of (codes "check") rows ≡ Some (map (λ file. file.now) replies) → (length replies ≡ files → ⊥) → ¬ (HasReplies files rows)
other_replies files rows replies found other has =
    let same : has.names ≡ map (λ file. file.now) replies = Some-injective (sym has.found ∙ found) in
    other (omega (arith, has.as_many, ap length same, length-map replies (λ file. file.now)))

-- no other file of replies a file: the files are these, and replies are to be checked
pub not_each : (rows : List Row) (names : List (List ℕ)) → all_of (codes "FILE") rows ≡ Some names
    → is_some (all_of (codes "check") rows) ≡ true → ¬ (HasReplies (length names) rows) → ¬ (HasRepliesEach rows)
not_each rows names found check none each =
    none (subst (λ (o : Option (List (List ℕ))). IfSome o (λ files. HasReplies (length files) rows)) found (each check))

-- answers that are to be compared would be printed as they come
pub no_stream : (rows : List Row) (form : Form) → HoldsForm rows form → is_kept form ≡ true → HoldsStream rows true
    → ¬ (HasStream rows)
no_stream rows form holds kept streamed has =
    let on = bool_text_same has.0 true (Some-injective (sym has.1 ∙ streamed)) in
    false≢true (sym (has.2 on) ∙ holds.check ∙ kept)

-- files for records are of no use without a stream
pub not_streamed : (files : ℕ) (rows : List Row) → HoldsStream rows false → ¬ (HasRecords files rows)
not_streamed files rows off has = false≢true (bool_text_same false true (Some-injective (sym off ∙ has.streamed)))

-- the files for records found are another number than there are files
pub other_records : (files : ℕ) (rows : List Row) (records : List (Bor (List ℕ)))
    → all_of (codes "replies") rows ≡ Some (map (λ file. file.now) records) → (length records ≡ files → ⊥) → ¬ (HasRecords files rows)
other_records files rows records found other has =
    let same : has.names ≡ map (λ file. file.now) records = Some-injective (sym has.found ∙ found) in
    other (omega (arith, has.as_many, ap length same, length-map records (λ file. file.now)))

-- no file for records a file: the files are these
pub no_records_each : (rows : List Row) (names : List (List ℕ)) → all_of (codes "FILE") rows ≡ Some names
    → is_some (all_of (codes "replies") rows) ≡ true → ¬ (HasRecords (length names) rows) → ¬ (HasRecordsEach rows)
no_records_each rows names found given none each =
    none (subst (λ (o : Option (List (List ℕ))). IfSome o (λ files. HasRecords (length files) rows)) found (each given))
