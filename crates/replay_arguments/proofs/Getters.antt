-- What the typed getters of the matches read, and that the command is one of which they are known.
use Rattle.std.specs.Prelude.{◌≡◌, ℕ, ℤ, Bool, codes, true, false, List, Option, None, Some, Result, Ok, MatchBool, is_some, length, option_map, IfSome}
use Rattle.std.specs.Str.Parse.{ParsesBool, digits_value, false_text, signed_digits_value, true_text, without_leading_plus}
use Rattle.std.proofs.Common.{refl, sym, ap, ◌∙◌, arith}
use Rattle.clap.specs.Values.{bool_text}
use Rattle.clap.specs.Words.{ReadsOne, Row, all_of, is_simple, one_of, one_text, rows_of}
use Rattle.clap.specs.declared.parser.matches.Found.{Found}
use Rattle.replay_arguments.specs.Command.{replay_app}
use Rattle.replay_arguments.specs.Arguments.{HoldsForm, HoldsNumbers, IsFormOf, is_frames, is_json}
use Rattle.replay_output.specs.declared.options.form.Form.{Form}
use Rattle.replay_output.specs.declared.options.Options.{Options}
use Rattle.replay_arguments.proofs.Numbers.{Some-injective, bool_err, has_read}
use Rattle.clap.proofs.WalkLemmas.{one_text-rows}

-- what was read is what the text of the row spells
pub one_read : {T E : Type 0} (found : Found) (id : List ℕ) (gives : List ℕ → Result T E → Type 0)
    (spells : List ℕ → T) (read : T) → (one_text found id ≡ None → Some read ≡ None)
    → ((text : List ℕ) → one_text found id ≡ Some text → ReadsOne gives text (Some read))
    → ((text : List ℕ) → gives text (Ok read) → read ≡ spells text)
    → option_map spells (one_of id (rows_of found)) ≡ Some read
one_read {T} found id gives spells read none value exact =
    ap (option_map spells) (sym (one_text-rows found id)) ∙ go (one_text found id) refl
  where
    go : (o : Option (List ℕ)) → one_text found id ≡ o → option_map spells o ≡ Some read
    go None is =
        let bad : Some read ≡ None = none is in
        cc
    go (Some text) is = ap (λ (n : T). Some n) (sym (exact text (value text is)))

-- the text of a `bool` that was parsed
pub text_of_bool : (b : Bool) (text : List ℕ) → MatchBool b (text ≡ true_text) (text ≡ false_text)
    → text ≡ bool_text b
text_of_bool true text parses = parses
text_of_bool false text parses = parses

-- the same of what one text alone spells
pub text_read : {T E : Type 0} (found : Found) (id : List ℕ) (gives : List ℕ → Result T E → Type 0)
    (text_of : T → List ℕ) (read : T) → (one_text found id ≡ None → Some read ≡ None)
    → ((text : List ℕ) → one_text found id ≡ Some text → ReadsOne gives text (Some read))
    → ((text : List ℕ) → gives text (Ok read) → text ≡ text_of read)
    → one_of id (rows_of found) ≡ Some (text_of read)
text_read {T} found id gives text_of read none value exact =
    sym (one_text-rows found id) ∙ go (one_text found id) refl
  where
    go : (o : Option (List ℕ)) → one_text found id ≡ o → o ≡ Some (text_of read)
    go None is =
        let bad : Some read ≡ None = none is in
        cc
    go (Some text) is = ap (λ (t : List ℕ). Some t) (exact text (value text is))

pub replay_app-simple : is_simple replay_app ≡ true
unfolding replay_app
replay_app-simple = refl

-- options with these numbers are those that the rows hold
pub HoldsNumbers-of_parts : (rows : List Row) (made : Option Options) (capacity : ℕ) (window : ℤ) (limit : ℕ)
    → IfSome made (λ options. options.capacity ≡ capacity)
    → IfSome made (λ options. options.window ≡ window) → IfSome made (λ options. options.limit ≡ limit)
    → option_map (λ text. digits_value 10 (without_leading_plus text)) (one_of (codes "capacity") rows) ≡ Some capacity
    → option_map (signed_digits_value 10) (one_of (codes "window") rows) ≡ Some window
    → option_map (λ text. digits_value 10 (without_leading_plus text)) (one_of (codes "limit") rows) ≡ Some limit
    → IfSome made (HoldsNumbers rows)
HoldsNumbers-of_parts rows None capacity window limit a b c e f g = tt
HoldsNumbers-of_parts rows (Some options) capacity window limit a b c e f g = record {
  capacity = e ∙ ap (λ (n : ℕ). Some n) (sym a);
  window = f ∙ ap (λ (n : ℤ). Some n) (sym b);
  limit = g ∙ ap (λ (n : ℕ). Some n) (sym c);
}

pub bool_text_same : (a b : Bool) → bool_text a ≡ bool_text b → a ≡ b
bool_text_same true true e = refl
bool_text_same false false e = refl
bool_text_same true false e = absurd (omega (arith, ap length e))
bool_text_same false true e = absurd (omega (arith, ap length e))

-- a form with these switches is the one that the rows hold
pub HoldsForm-of_parts : (rows : List Row) (made : Option Form) (frames json check : Bool)
    → IfSome made (λ form. IsFormOf form frames json check)
    → one_of (codes "frames") rows ≡ Some (bool_text frames) → one_of (codes "json") rows ≡ Some (bool_text json)
    → is_some (all_of (codes "check") rows) ≡ check → IfSome made (HoldsForm rows)
HoldsForm-of_parts rows None frames json check is a b c = tt
HoldsForm-of_parts rows (Some form) frames json check is a b c = record {
  frames = a ∙ ap (λ (on : Bool). Some (bool_text on)) (sym is.0);
  json = b ∙ ap (λ (on : Bool). Some (bool_text on)) (sym is.1);
  check = c ∙ sym is.2;
}

-- the switches of a form that the rows hold
pub IsFormOf-held : (rows : List Row) (form : Form) (frames json check : Bool)
    → one_of (codes "frames") rows ≡ Some (bool_text frames) → one_of (codes "json") rows ≡ Some (bool_text json)
    → is_some (all_of (codes "check") rows) ≡ check → HoldsForm rows form → IsFormOf form frames json check
IsFormOf-held rows form frames json check a b c holds =
    let first : bool_text (is_frames form) ≡ bool_text frames = Some-injective (sym holds.frames ∙ a) in
    let second : bool_text (is_json form) ≡ bool_text json = Some-injective (sym holds.json ∙ b) in
    (bool_text_same _ _ first, bool_text_same _ _ second, sym holds.check ∙ c)

pub is_some_mapped : {A B : Type 0} (f : A → B) (o : Option A) → is_some (option_map f o) ≡ is_some o
is_some_mapped f None = refl
is_some_mapped f (Some a) = refl

-- the flag that is found is the one that was read
pub flag_read : (E : Type 0) (found : Found) (id : List ℕ) (read : Option Bool) → (one_text found id ≡ None → read ≡ None)
    → ((text : List ℕ) → one_text found id ≡ Some text → ReadsOne (ParsesBool {E = E}) text read)
    → IfSome read (λ on. one_of id (rows_of found) ≡ Some (bool_text on))
flag_read E found id None none value = tt
flag_read E found id (Some on) none value =
    text_read {E = E} found id ParsesBool bool_text on none value (λ text parses. text_of_bool on text parses)

-- if none was read, none is found
pub no_flag : (E : Type 0) (found : Found) (id : List ℕ) (read : Option Bool)
    → ((text : List ℕ) → one_text found id ≡ Some text → ReadsOne (ParsesBool {E = E}) text read)
    → (on : Bool) → read ≡ None → ¬ (one_of id (rows_of found) ≡ Some (bool_text on))
no_flag E found id read value on none is =
    let reads = has_read {E = E} found id ParsesBool read value (λ text. (b : Bool) × (text ≡ bool_text b)) (λ b. Unit {0})
    (λ text b inside parses. tt) (λ text e inside parses. bool_err text e inside parses) (bool_text on, is, (on, refl)) in
    let bad : None ≡ Some reads.0 = sym none ∙ reads.1 in
    cc
