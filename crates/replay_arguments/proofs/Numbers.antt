-- What the typed getters read of texts that are within their ranges.
use Rattle.std.specs.Prelude.{◌≡◌, ℕ, ℤ, ◌≤◌, ◌≤ℤ◌, Bool, true, false, List, Option, None, Some, IsSome, Result, Ok, Err}
use Rattle.std.specs.Int.{w64}
use Rattle.std.specs.Str.Parse.{ParsesBool, ParsesSigned, ParsesUnsigned}
use Rattle.std.proofs.Common.{refl, sym, ◌∙◌, subst, arith}
use Rattle.clap.specs.Values.{IsSignedIn, IsUnsignedIn, bool_text}
use Rattle.clap.specs.Words.{ReadsOne, one_text, rows_of}
use Rattle.clap.specs.declared.parser.matches.Found.{Found}
use Rattle.clap.proofs.WalkLemmas.{one_text-rows}
use Rattle.replay_arguments.specs.Arguments.{Has}

module _ {T E : Type 0} (found : Found) (id : List ℕ) (gives : List ℕ → Result T E → Type 0) (read : Option T)
    (value : (text : List ℕ) → one_text found id ≡ Some text → ReadsOne gives text read) where
  -- such a text is read as such a value
  pub has_read : (is_text : List ℕ → Type 0) (is_value : T → Type 0)
      → ((text : List ℕ) (v : T) → is_text text → gives text (Ok v) → is_value v)
      → ((text : List ℕ) (e : E) → is_text text → ¬ (gives text (Err e)))
      → Has is_text id (rows_of found) → (v : T) × (read ≡ Some v) × is_value v
  has_read is_text is_value ok err has =
      go read (value has.0 (one_text-rows found id ∙ has.1))
    where
      go : (o : Option T) → ReadsOne gives has.0 o → (v : T) × (o ≡ Some v) × is_value v
      go (Some v) reads = (v, refl, ok has.0 v has.2 reads)
      go None reads = absurd (err has.0 reads.0 has.2 reads.1)

pub Some-injective : {X : Type 0} {x y : X} → Some x ≡ Some y → x ≡ y
Some-injective is = cc

pub is_not_none : {X : Type 0} (o : Option X) → IsSome o → o ≡ None → ⊥
is_not_none None some is = cc
is_not_none (Some x) some is = cc

abbrev pub IsIn : ℕ → ℕ → ℕ → Type 0
IsIn least most n = (least ≤ n) × (n ≤ most)

pub unsigned_ok : (E : Type 0) (least most : ℕ) (text : List ℕ) (n : ℕ) → IsUnsignedIn least most text
    → ParsesUnsigned {E = E} 64 10 text (Ok n) → IsIn least most n
unsigned_ok E least most text n inside parses =
    (omega (arith, parses.1, inside.2), omega (arith, parses.1, inside.3))

pub unsigned_err : {E : Type 0} (least most : ℕ) (text : List ℕ) (e : E) → IsUnsignedIn least most text
    → ¬ (ParsesUnsigned 64 10 text (Err e))
unsigned_err least most text e inside parses = parses (inside.0, inside.1)

abbrev pub IsSignedWithin : ℤ → ℤ → ℤ → Type 0
IsSignedWithin least most n = (least ≤ℤ n) × (n ≤ℤ most)

pub signed_ok : (E : Type 0) (least most : ℤ) (text : List ℕ) (n : ℤ) → IsSignedIn least most text
    → ParsesSigned {E = E} w64 10 text (Ok n) → IsSignedWithin least most n
signed_ok E least most text n inside parses =
    (subst (λ (z : ℤ). least ≤ℤ z) (sym parses.1) inside.2, subst (λ (z : ℤ). z ≤ℤ most) (sym parses.1) inside.3)

pub signed_err : {E : Type 0} (least most : ℤ) (text : List ℕ) (e : E) → IsSignedIn least most text
    → ¬ (ParsesSigned w64 10 text (Err e))
signed_err least most text e inside parses = parses (inside.0, inside.1)

pub bool_err : {E : Type 0} (text : List ℕ) (e : E) → ((on : Bool) × (text ≡ bool_text on))
    → ¬ (ParsesBool text (Err e))
bool_err text e (true, is) parses = parses.0 is
bool_err text e (false, is) parses = parses.1 is

-- what is read of a number that is within its range, if the reading says `also` and `rest` too
pub unsigned_read : {E : Type 0} (found : Found) (id : List ℕ) (also rest : List ℕ → Result ℕ E → Type 0) (least most : ℕ)
    (read : Option ℕ)
    → ((text : List ℕ) → one_text found id ≡ Some text
    → ReadsOne (λ t r. ParsesUnsigned {E = E} 64 10 t r × also t r × rest t r) text read)
    → Has (IsUnsignedIn least most) id (rows_of found) → (n : ℕ) × (read ≡ Some n) × IsIn least most n
unsigned_read {E} found id also rest least most read value has =
    has_read found id (λ t r. ParsesUnsigned {E = E} 64 10 t r × also t r × rest t r) read value (IsUnsignedIn least most) (IsIn least most)
    (λ text n inside parses. unsigned_ok E least most text n inside parses.0)
    (λ text e inside parses. unsigned_err {E = E} least most text e inside parses.0) has

pub signed_read : {E : Type 0} (found : Found) (id : List ℕ) (also rest : List ℕ → Result ℤ E → Type 0) (least most : ℤ)
    (read : Option ℤ)
    → ((text : List ℕ) → one_text found id ≡ Some text
    → ReadsOne (λ t r. ParsesSigned {E = E} w64 10 t r × also t r × rest t r) text read)
    → Has (IsSignedIn least most) id (rows_of found) → (n : ℤ) × (read ≡ Some n) × IsSignedWithin least most n
signed_read {E} found id also rest least most read value has =
    has_read found id (λ t r. ParsesSigned {E = E} w64 10 t r × also t r × rest t r) read value (IsSignedIn least most)
    (IsSignedWithin least most)
    (λ text n inside parses. signed_ok E least most text n inside parses.0)
    (λ text e inside parses. signed_err {E = E} least most text e inside parses.0) has
