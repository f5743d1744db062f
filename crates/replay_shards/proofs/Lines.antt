-- Lines of split points, in sequence.
use Rattle.std.specs.Prelude.{◌≡◌, ◌≢◌, ◌==◌, true, false, ℕ, zero, suc, ◌+◌, ◌<◌, List, [], ◌∷◌, ◌++◌, length, take, Option, None, Some, IfSome, slice_get, All}
use Rattle.std.proofs.Common.{refl, sym, ap, ◌∙◌, subst, inl, inr, arith, append_assoc, append-nil, take_all}
use Rattle.std.specs.Io.BufRead.{take_through}
use Rattle.std.specs.Io.KnownBytes.{Consumes, IsAtEnd}
use Rattle.std.proofs.lemmas.Bool.{cases_Bool, cases_lt, cond-true, cond-false}
use Rattle.std.proofs.lemmas.Bool.Decides.{Decides-eqb}
use Rattle.std.proofs.lemmas.List.Elements.{All-head, All-tail}
use Rattle.serial.specs.Shards.{IsRising}
use Rattle.shards.specs.SplitPoints.{IsFirstFall}
use Rattle.json_lines.specs.Ranges.{IsKeyLine}
use Rattle.replay_shards.specs.Points.{ArePointLines}

is_feed : (x : ℕ) → x ≡ 10 → (x == 10) ≡ true
is_feed x is = (Decides-eqb x 10).1 is

not_feed : (x : ℕ) → x ≢ 10 → (x == 10) ≡ false
not_feed x other = elim (cases_Bool (x == 10)) [
  | inl same ↦ absurd (other ((Decides-eqb x 10).0 same))
  | inr differs ↦ differs
]

-- up to the first line feed
pub through_feed : (xs : List ℕ) (i : ℕ) → All (λ x. x ≢ 10) (take i xs) → slice_get xs i ≡ Some 10
    → take (i + 1) xs ≡ take_through 10 xs
through_feed [] i none at = absurd (let no : ⊥ = cc in no)
through_feed (x ∷ xs) zero none at =
    let is : x ≡ 10 = cc in
    sym (cond-true _ _ _ (is_feed x is))
through_feed (x ∷ xs) (suc i) none at =
    let P = λ (x : ℕ). x ≢ 10 in
    let more : suc i + 1 ≡ suc (i + 1) = omega arith in
    ap (λ n. take n (x ∷ xs)) more
    ∙ ap (λ l. x ∷ l) (through_feed xs i (All-tail P x (take i xs) none) at)
    ∙ sym (cond-false _ _ _ (not_feed x (All-head P x (take i xs) none)))

-- without one, all
pub through_none : (xs : List ℕ) → All (λ x. x ≢ 10) xs → xs ≡ take_through 10 xs
through_none [] none = refl
through_none (x ∷ xs) none =
    let P = λ (x : ℕ). x ≢ 10 in
    ap (λ l. x ∷ l) (through_none xs (All-tail P x xs none))
    ∙ sym (cond-false _ _ _ (not_feed x (All-head P x xs none)))

-- what the rest spells completes the keys so far
abbrev pub Completes : List ℕ → List ℕ → List (List ℕ) → Type 0
Completes bytes rest keys = (more : List (List ℕ)) → ArePointLines rest more → ArePointLines bytes (keys ++ more)

pub completes_more : (bytes rest after key : List ℕ) (keys : List (List ℕ)) → Completes bytes rest keys → 0 < length rest
    → rest ≡ take_through 10 rest ++ after → IsKeyLine (take_through 10 rest) key → Completes bytes after (keys ++ key ∷ [])
completes_more bytes rest after key keys so_far some parts is more lines =
    subst (ArePointLines bytes) (sym (append_assoc keys (key ∷ []) more)) (so_far (key ∷ more) (after, some, parts, is, lines))

-- what was read to the end is all that was left
pub read_all : (a b : Option (List ℕ)) (bs : List ℕ) → Consumes a b bs → IsAtEnd b → IfSome a (λ all. all ≡ bs)
read_all None b bs consumes end = tt
read_all (Some xs) None bs consumes end = absurd consumes
read_all (Some xs) (Some ys) bs consumes end = consumes ∙ ap (λ l. bs ++ l) end ∙ append-nil bs

pub lines_read : (a : Option (List ℕ)) (bs : List ℕ) (keys : List (List ℕ)) → IfSome a (λ all. all ≡ bs) → ArePointLines bs keys
    → IfSome a (λ bytes. ArePointLines bytes keys)
lines_read None bs keys all lines = tt
lines_read (Some xs) bs keys all lines = subst (λ l. ArePointLines l keys) (sym all) lines

-- the first key that isn't after the one before it is one of the keys
pub fall_within : (points : List (List ℕ)) (index : ℕ) → IsFirstFall points index → index < length points
fall_within points index first =
    elim (cases_lt index (length points)) [
      | inl within ↦ within
      | inr past ↦ absurd (first.fall (subst (λ (keys : List (List ℕ)). IsRising [] keys)
          (take_all index points past ∙ sym (take_all (index + 1) points (omega (arith, past)))) first.before))
    ]
