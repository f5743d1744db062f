-- The least verdict of shards, in sequence.
use Rattle.std.proofs.Common.{◌≡◌, ℕ, zero, suc, ◌+◌, ◌<◌, ◌≤◌, List, [], ◌∷◌, ◌++◌, length, take, refl, sym, ap, ◌∙◌, subst, inl, inr, ◌⊎◌, arith, All}
use Rattle.std.specs.Prelude.{Some, slice_get, Any}
use Rattle.std.proofs.lemmas.List.Elements.{All-nil, All-push, All-weaker, All-head}
use Rattle.keyspace.specs.declared.reply.Verdict.{Verdict}
use Rattle.keyspace.specs.declared.reply.Verdict.TheVariants.{Conflict, TooOld, Committed}
use Rattle.keyspace.specs.declared.reply.Entry.{Entry}
use Rattle.keys.proofs.callers.SomeElement.{Any-first, Any-longer, Any-right}
use Rattle.serial.proofs.callers.Reading.{some_at, the_value}
use Rattle.shards.specs.declared.shard_reply.ShardReply.{ShardReply}
use Rattle.shards.specs.Combined.{rank, OfEntry, IsLeast}

-- the elements before an index, and the one there
pub take_next : {X : Type 0} (xs : List X) (i : ℕ) (x : X) → slice_get xs i ≡ Some x → take (i + 1) xs ≡ take i xs ++ x ∷ []
take_next [] i x at = cc
take_next (y ∷ xs) zero x at = let same : y ≡ x = cc in ap (λ z. z ∷ []) same
take_next (y ∷ xs) (suc i) x at =
    let more : suc i + 1 ≡ suc (i + 1) = omega arith in
    ap (λ n. take n (y ∷ xs)) more ∙ ap (λ ys. y ∷ ys) (take_next xs i x at)

-- an element of a list with one element more is of the list, or it is that one
pub last_or_before : {X : Type 0} (xs : List X) (x : X) (j : ℕ) (y : X) → slice_get (xs ++ x ∷ []) j ≡ Some y
    → (slice_get xs j ≡ Some y) ⊎ ((j ≡ length xs) × (x ≡ y))
last_or_before [] x zero y at = inr (refl, (let same : x ≡ y = cc in same))
last_or_before [] x (suc j) y at = absurd (let no : ⊥ = cc in no)
last_or_before (z ∷ xs) x zero y at = inl at
last_or_before (z ∷ xs) x (suc j) y at =
    elim (last_or_before xs x j y at) [
      | inl before ↦ inl before
      | inr last ↦ inr (ap suc last.0, last.1)
    ]

-- no verdict is above committed
pub greatest : (verdict : Verdict) → rank Committed ≤ rank verdict → verdict ≡ Committed
greatest Conflict h = absurd (omega (arith, h))
greatest TooOld h = absurd (omega (arith, h))
greatest Committed h = refl

pub at_most_greatest : (verdict : Verdict) → rank verdict ≤ rank Committed
at_most_greatest Conflict = omega arith
at_most_greatest TooOld = omega arith
at_most_greatest Committed = omega arith

-- none is below conflict
pub lowest : (verdict : Verdict) → rank verdict ≤ rank Conflict → verdict ≡ Conflict
lowest Conflict h = refl
lowest TooOld h = absurd (omega (arith, h))
lowest Committed h = absurd (omega (arith, h))

-- the least so far, which is committed before the first
pub record IsLeastSoFar (each : List ShardReply) (j : ℕ) (verdict : Verdict) : Type 0 where
  pub given : (verdict ≡ Committed) ⊎ Any (OfEntry j (λ e. e.verdict ≡ verdict)) each
  pub least : All (OfEntry j (λ e. rank verdict ≤ rank e.verdict)) each

of_entry : (j : ℕ) (P Q : Entry → Type 0) → ((e : Entry) → P e → Q e) → (s : ShardReply) → OfEntry j P s → OfEntry j Q s
of_entry j P Q f s h =
    let e = the_value P (slice_get s.reply.entries j) h in
    some_at Q (slice_get s.reply.entries j) e.0 e.1 (f e.0 e.2)

pub least_more : (each : List ShardReply) (j : ℕ) (least new : Verdict) (s : ShardReply) (e : Entry)
    → slice_get s.reply.entries j ≡ Some e → (new ≡ least) ⊎ (new ≡ e.verdict) → rank new ≤ rank least → rank new ≤ rank e.verdict
    → IsLeastSoFar each j least → IsLeastSoFar (each ++ s ∷ []) j new
least_more each j least new s e at one first second so_far = record {
  given = elim one [
    | inl same ↦ elim so_far.given [
      | inl committed ↦ inl (same ∙ committed)
      | inr given ↦
          let all = Any-longer (OfEntry j (λ e. e.verdict ≡ least)) each s given in
          inr (subst (λ (v : Verdict). Any (OfEntry j (λ e. e.verdict ≡ v)) (each ++ s ∷ [])) (sym same) all)
    ]
    | inr same ↦ inr (Any-right (OfEntry j (λ e. e.verdict ≡ new)) each (s ∷ [])
        (Any-first (OfEntry j (λ e. e.verdict ≡ new)) s []
        (some_at (λ (e : Entry). e.verdict ≡ new) (slice_get s.reply.entries j) e at (sym same))))
  ];
  least = All-push (OfEntry j (λ e. rank new ≤ rank e.verdict)) each s
      (All-weaker (OfEntry j (λ e. rank least ≤ rank e.verdict)) (OfEntry j (λ e. rank new ≤ rank e.verdict))
      (of_entry j (λ e. rank least ≤ rank e.verdict) (λ e. rank new ≤ rank e.verdict) (λ e h. omega (arith, h, first))) each so_far.least)
      (some_at (λ (e : Entry). rank new ≤ rank e.verdict) (slice_get s.reply.entries j) e at second);
}

pub least_none : (j : ℕ) → IsLeastSoFar [] j Committed
least_none j = record { given = inl refl; least = All-nil (OfEntry j (λ e. rank Committed ≤ rank e.verdict)) }

-- of one shard or more it is the least
pub least_all : (each : List ShardReply) (j : ℕ) (least : Verdict) → 0 < length each → IsLeastSoFar each j least → IsLeast each j least
least_all [] j least some so_far = absurd (omega (arith, some))
least_all (s ∷ each) j least some so_far = record {
  given = elim so_far.given [
    | inl committed ↦
        let P = OfEntry j (λ e. rank least ≤ rank e.verdict) in
        Any-first (OfEntry j (λ e. e.verdict ≡ least)) s each
        (of_entry j (λ e. rank least ≤ rank e.verdict) (λ e. e.verdict ≡ least)
        (λ e h. greatest e.verdict (subst (λ (v : Verdict). rank v ≤ rank e.verdict) committed h) ∙ sym committed) s
        (All-head P s each so_far.least))
    | inr given ↦ given
  ];
  least = so_far.least;
}
