-- Steps of reading, in sequence.
use Rattle.std.proofs.Common.{◌≡◌, ℕ, ℤ, Bool, true, false, cond, List, Result, Ok, Err, refl}
use Rattle.wire.specs.declared.error.WireError.{WireError}
use Rattle.wire.specs.Reading.{◌>>=◌, signed_at, version_at}

pub version_taken : (holds : ℤ → Bool) (bytes : List ℕ) (v : ℤ) (rest : List ℕ)
    → signed_at bytes ≡ Ok (v, rest) → holds v ≡ true → version_at holds bytes ≡ Ok (v, rest)
unfolding version_at
version_taken holds bytes v rest read test = rw (read, test) refl

-- the value of a step that did not fail
pub bind_ok : {A B : Type 0} (r : Result A WireError) (f : A → Result B WireError) (y : B) → (r >>= f) ≡ Ok y
    → (x : A) × (r ≡ Ok x) × (f x ≡ Ok y)
bind_ok (Ok x) f y e = (x, refl, e)
bind_ok (Err d) f y e = absurd cc

-- a test that a fault follows
pub passed_over : {A : Type 0} (b : Bool) (d : WireError) (r : Result A WireError) (y : A)
    → cond b (Err d) r ≡ Ok y → (b ≡ false) × (r ≡ Ok y)
passed_over true d r y e = absurd cc
passed_over false d r y e = (refl, e)

-- a test that has to hold
pub passed : {A : Type 0} (b : Bool) (d : WireError) (r : Result A WireError) (y : A)
    → cond b r (Err d) ≡ Ok y → (b ≡ true) × (r ≡ Ok y)
passed true d r y e = (refl, e)
passed false d r y e = absurd cc

abbrev done : {A : Type 0} → A → Result A WireError
done x = Ok x

pub ok_is : {A : Type 0} (x y : A) → done x ≡ done y → x ≡ y
ok_is x y e = cc
