-- Letters are spelled as they are, words as often as their number says, and the text of units is that of one run after another.
use Rattle.std.specs.Prelude.{◌≡◌, ℕ, zero, suc, ◌+◌, ◌-◌, ◌%◌, ◌/◌, ◌<◌, ◌≤◌, ◌⊎◌, List, [], ◌∷◌, ◌++◌, length, take, drop, slice_index_or as get_or, slice_set as set, slice_range, Option}
use Rattle.std.specs.List.{repeat}
use Rattle.std.specs.Str.{IsAscii}
use Rattle.std.specs.Io.KnownBytes.{Appends}
use Rattle.std.proofs.Math.Seq.{take-length}
use Rattle.std.proofs.lemmas.Bool.{cases_lt}
use Rattle.std.proofs.lemmas.List.{length-append, take-take, take-append-drop}
use Rattle.std.proofs.lemmas.List.Concat.{flat_map-append}
use Rattle.std.proofs.lemmas.List.Folds.{drop_split}
use Rattle.std.proofs.lemmas.Slice.{between_is}
use Rattle.std.proofs.Common.{refl, sym, ap, ◌∙◌, subst, inl, inr, append-nil, append_assoc, arith}
use Rattle.replay_output.specs.declared.line.packed.word.TheConstants.{FIRST_WORD, WORDS}
use Rattle.replay_output.specs.declared.line.packed.word.Word.{Word}
use Rattle.replay_output.specs.declared.line.packed.word.Word.TheVariants.{Committed, TooOld, Conflict, CommittedJson, TooOldJson, ConflictJson, PlacesJson}
use Rattle.replay_output.specs.Packed.{word_of_number, text_of_unit, text_of_units, times_of, word_of, word_text}
use Rattle.replay_output.proofs.Known.{Begins, begins_then, begins_within}

spelled_letter : (letter : ℕ) → letter < FIRST_WORD → text_of_unit letter ≡ letter ∷ []
spelled_letter letter ascii = grind arith

letters : (bytes : List ℕ) → IsAscii bytes → text_of_units bytes ≡ bytes
letters [] ascii = refl
letters (byte ∷ bytes) ascii =
    ap (λ (text : List ℕ). text ++ text_of_units bytes) (spelled_letter byte (ascii 0))
    ∙ ap (λ (text : List ℕ). byte ∷ text) (letters bytes (λ i. ascii (suc i)))

-- the text after letters are put after it
pub with_letters : (units bytes text now : List ℕ) → text_of_units units ≡ text → IsAscii bytes → now ≡ units ++ bytes
    → text_of_units now ≡ text ++ take (length bytes) bytes
with_letters units bytes text now is ascii pushed =
    ap text_of_units pushed
    ∙ flat_map-append text_of_unit units bytes
    ∙ ap (λ (front : List ℕ). front ++ text_of_units bytes) is
    ∙ ap (λ (back : List ℕ). text ++ back) (letters bytes ascii ∙ sym (take-length bytes))

-- the text before letters that are removed from its end
pub without_letters : (units kept end text : List ℕ) → text_of_units units ≡ text → IsAscii end → units ≡ kept ++ end
    → text ≡ text_of_units kept ++ end
without_letters units kept end text is ascii split =
    sym is ∙ ap text_of_units split ∙ flat_map-append text_of_unit kept end
    ∙ ap (λ (back : List ℕ). text_of_units kept ++ back) (letters end ascii)

spelled_word : (unit : ℕ) → FIRST_WORD ≤ unit → text_of_unit unit ≡ repeat (times_of unit) (word_text (word_of unit))
spelled_word unit word = grind arith

repeat_suc : (n : ℕ) (text : List ℕ) → repeat n text ++ text ≡ repeat (suc n) text
repeat_suc zero text = sym (append-nil text)
repeat_suc (suc n) text = append_assoc text (repeat n text) text ∙ ap (λ (more : List ℕ). text ++ more) (repeat_suc n text)

-- a text that many times, and once more
pub repeat_more : (front : List ℕ) (n : ℕ) (text : List ℕ) → (front ++ repeat n text) ++ text ≡ front ++ repeat (n + 1) text
repeat_more front n text =
    let more : suc n ≡ n + 1 = omega arith in
    append_assoc front (repeat n text) text
    ∙ ap (λ (back : List ℕ). front ++ back) (repeat_suc n text ∙ ap (λ (m : ℕ). repeat m text) more)

-- the unit that stands for the same word once more
pub once_more : (unit : ℕ) (word : Word) → FIRST_WORD ≤ unit → word_of unit ≡ word
    → text_of_unit (unit + WORDS) ≡ text_of_unit unit ++ word_text word
once_more unit word after is =
    let times : times_of (unit + WORDS) ≡ times_of unit + 1 = omega arith in
    let number : (unit + WORDS - FIRST_WORD) % WORDS ≡ (unit - FIRST_WORD) % WORDS = omega arith in
    let text = word_text (word_of unit) in
    spelled_word (unit + WORDS) (omega arith)
    ∙ ap (λ (n : ℕ). repeat (times_of (unit + WORDS)) (word_text (word_of_number n))) number
    ∙ ap (λ (n : ℕ). repeat n text) times
    ∙ sym (repeat_more [] (times_of unit) text)
    ∙ ap (λ (front : List ℕ). front ++ text) (sym (spelled_word unit after))
    ∙ ap (λ (w : Word). text_of_unit unit ++ word_text w) is

-- the text after the last unit is replaced by one that stands for more
pub with_last_replaced : (units : List ℕ) (i last more : ℕ) (text : List ℕ) → suc i ≡ length units → last ≡ get_or units i last
    → text_of_unit more ≡ text_of_unit last ++ text → text_of_units (set units i more) ≡ text_of_units units ++ text
with_last_replaced [] i last more text end is means = absurd (omega arith)
with_last_replaced (unit ∷ []) zero last more text end is means =
    append-nil (text_of_unit more) ∙ means ∙ ap (λ (u : ℕ). text_of_unit u ++ text) is
    ∙ ap (λ (front : List ℕ). front ++ text) (sym (append-nil (text_of_unit unit)))
with_last_replaced (unit ∷ next ∷ units) zero last more text end is means = absurd (omega arith)
with_last_replaced (unit ∷ units) (suc i) last more text end is means =
    ap (λ (back : List ℕ). text_of_unit unit ++ back) (with_last_replaced units i last more text (omega arith) is means)
    ∙ sym (append_assoc (text_of_unit unit) (text_of_units units) text)

-- what was printed, and then a run
pub run_printed : (units : List ℕ) (i j : ℕ) → i ≤ j
    → text_of_units (take i units) ++ text_of_units (slice_range units i j) ≡ text_of_units (take j units)
run_printed units i j le =
    let run = slice_range units i j in
    sym (flat_map-append text_of_unit (take i units) run)
    ∙ ap (λ (front : List ℕ). text_of_units (front ++ run)) (sym (take-take i j units le))
    ∙ ap (λ (back : List ℕ). text_of_units (take i (take j units) ++ back)) (between_is units i j)
    ∙ ap text_of_units (take-append-drop i (take j units))

split_run : (units : List ℕ) (i j : ℕ) → i ≤ j
    → text_of_units (take i units) ++ (text_of_units (slice_range units i j) ++ text_of_units (drop j units)) ≡ text_of_units units
split_run units i j le =
    let run = slice_range units i j in
    ap (λ (back : List ℕ). text_of_units (take i units) ++ back) (sym (flat_map-append text_of_unit run (drop j units)))
    ∙ ap (λ (back : List ℕ). text_of_units (take i units) ++ text_of_units back) (sym (drop_split units i j le))
    ∙ sym (flat_map-append text_of_unit (take i units) (drop i units))
    ∙ ap text_of_units (take-append-drop i units)

-- the units before a run were printed in full, and of the run a prefix
pub begins_run : (units : List ℕ) (i j : ℕ) → i ≤ j → (old between new : Option (List ℕ))
    → Appends old between (text_of_units (take i units)) → Begins between new (text_of_units (slice_range units i j))
    → Begins old new (text_of_units units)
begins_run units i j le old between new entire begins =
    subst (Begins old new) (split_run units i j le)
    (begins_then old between new _ _ entire
    (begins_within between new (text_of_units (slice_range units i j)) (text_of_units (drop j units)) begins))

word_some : (word : Word) → 1 ≤ length (word_text word)
word_some Committed = omega arith
word_some TooOld = omega arith
word_some Conflict = omega arith
word_some CommittedJson = omega arith
word_some TooOldJson = omega arith
word_some ConflictJson = omega arith
word_some PlacesJson = omega arith

spelled_some : (unit : ℕ) → 1 ≤ length (text_of_unit unit)
spelled_some unit = elim (cases_lt unit FIRST_WORD) [
  | inl letter ↦ omega (arith, ap length (spelled_letter unit letter))
  | inr word ↦
      let text = word_text (word_of unit) in
      let others = (unit - FIRST_WORD) / WORDS in
      let more : times_of unit ≡ suc others = omega arith in
      omega (
        arith,
        ap length (spelled_word unit word ∙ ap (λ (n : ℕ). repeat n text) more),
        length-append text (repeat others text),
        word_some (word_of unit),
      )
]

-- each unit has some text
pub no_units : (units : List ℕ) → text_of_units units ≡ [] → units ≡ []
no_units [] none = refl
no_units (unit ∷ units) none =
    absurd (omega (arith, ap length none, length-append (text_of_unit unit) (text_of_units units), spelled_some unit))

pub no_length : (units : List ℕ) → length units ≡ 0 → units ≡ []
no_length [] none = refl
no_length (unit ∷ units) none = absurd (omega (arith, none))
