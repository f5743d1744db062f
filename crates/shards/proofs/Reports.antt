-- What the shards report of a transaction, united.
use Rattle.std.proofs.Common.{◌≡◌, ◌≢◌, ℕ, zero, suc, ◌<◌, ◌≤◌, List, [], ◌∷◌, ◌++◌, length, map, get_or, refl, sym, ap, ◌∙◌, subst, inl, inr, ◌⊎◌, arith, All}
use Rattle.std.specs.Prelude.{◌↔◌, Some, slice_get, IsSomeAnd, Any, Contains}
use Rattle.std.proofs.lemmas.List.Elements.{All-get_or, All-contains, Contains-append_cases, Contains-append_left, Contains-append_right}
use Rattle.std.proofs.lemmas.Option.{slice_get-get_or, get_or_from_slice_get}
use Rattle.keyspace.specs.declared.reply.Verdict.{Verdict}
use Rattle.keyspace.specs.declared.reply.Verdict.TheVariants.{Conflict, TooOld, Committed}
use Rattle.keyspace.specs.declared.reply.Entry.{Entry}
use Rattle.keys.proofs.callers.SomeElement.{Any-none, Any-longer, Any-right, Any-first, Any-push_cases}
use Rattle.serial.proofs.callers.Reading.{some_at, the_value}
use Rattle.shards.specs.declared.shard_reply.ShardReply.{ShardReply}
use Rattle.shards.specs.Combined.{rank, OfEntry, Reports, IsLeast}
use Rattle.shards.proofs.Leasts.{lowest}

-- a list that contains nothing is empty
pub empty_list : (xs : List ℕ) → ((x : ℕ) → Contains xs x → ⊥) → xs ≡ []
empty_list [] none = refl
empty_list (x ∷ xs) none = absurd (none x (0, omega arith, refl))

-- the values of a function at the elements of a list
mapped_at : (f : ℕ → ℕ) (xs : List ℕ) (y k : ℕ) → k < length (map f xs) → get_or (map f xs) k y ≡ y
    → (x : ℕ) × Contains xs x × (f x ≡ y)
mapped_at f [] y k inside is = absurd (omega (arith, inside))
mapped_at f (x ∷ xs) y zero inside is = (x, (0, omega arith, refl), is)
mapped_at f (x ∷ xs) y (suc k) inside is =
    let later = mapped_at f xs y k (omega (arith, inside)) is in
    let inner : later.1.0 < length xs = later.1.1 in
    (later.0, (suc later.1.0, omega (arith, inner), later.1.2), later.2)

mapped_from : (f : ℕ → ℕ) (xs : List ℕ) (y : ℕ) → Contains (map f xs) y → (x : ℕ) × Contains xs x × (f x ≡ y)
mapped_from f xs y c = mapped_at f xs y c.0 c.1 c.2

mapped_to_at : (f : ℕ → ℕ) (xs : List ℕ) (x k : ℕ) → k < length xs → get_or xs k x ≡ x → Contains (map f xs) (f x)
mapped_to_at f [] x k inside is = absurd (omega (arith, inside))
mapped_to_at f (y ∷ xs) x zero inside is = (0, omega arith, ap f is)
mapped_to_at f (y ∷ xs) x (suc k) inside is =
    let later = mapped_to_at f xs x k (omega (arith, inside)) is in
    let inner : later.0 < length (map f xs) = later.1 in
    (suc later.0, omega (arith, inner), later.2)

mapped_to : (f : ℕ → ℕ) (xs : List ℕ) (x : ℕ) → Contains xs x → Contains (map f xs) (f x)
mapped_to f xs x c = mapped_to_at f xs x c.0 c.1 c.2

-- the indices of the places are what the shard reports
pub reported : (found indices : List ℕ) (j : ℕ) (s : ShardReply) (e : Entry) → slice_get s.reply.entries j ≡ Some e
    → slice_get s.reads j ≡ Some indices → All (λ place. place < length indices) e.places
    → (read : ℕ) → Contains (found ++ map (λ place. get_or indices place 0) e.places) read ↔ (Contains found read ⊎ Reports j read s)
reported found indices j s e entry reads within read = (
  λ c. elim (Contains-append_cases found (map (λ place. get_or indices place 0) e.places) read c) [
    | inl before ↦ inl before
    | inr now ↦
        let place = mapped_from (λ place. get_or indices place 0) e.places read now in
        let inside = All-contains (λ place. place < length indices) e.places place.0 within place.1 in
        let at : slice_get indices place.0 ≡ Some read = slice_get-get_or indices place.0 0 inside ∙ ap (λ r. Some r) place.2 in
        inr (some_at (λ (e : Entry). (place : ℕ) × Contains e.places place
        × IsSomeAnd (slice_get s.reads j) (λ indices. slice_get indices place ≡ Some read)) (slice_get s.reply.entries j) e entry
        (place.0, place.1, some_at (λ (indices : List ℕ). slice_get indices place.0 ≡ Some read) (slice_get s.reads j) indices reads at))
  ],
  λ h. elim h [
    | inl before ↦ Contains-append_left found (map (λ place. get_or indices place 0) e.places) read before
    | inr reports ↦
        let own = the_value (λ (e : Entry). (place : ℕ) × Contains e.places place
        × IsSomeAnd (slice_get s.reads j) (λ indices. slice_get indices place ≡ Some read)) (slice_get s.reply.entries j) reports in
        let is_entry : own.0 ≡ e = let same : Some own.0 ≡ Some e = sym own.1 ∙ entry in cc in
        let list = the_value (λ (indices : List ℕ). slice_get indices own.2.0 ≡ Some read) (slice_get s.reads j) own.2.2 in
        let is_list : list.0 ≡ indices = let same : Some list.0 ≡ Some indices = sym list.1 ∙ reads in cc in
        let at : slice_get indices own.2.0 ≡ Some read = subst (λ (xs : List ℕ). slice_get xs own.2.0 ≡ Some read) is_list list.2 in
        let place : Contains e.places own.2.0 = subst (λ (e : Entry). Contains e.places own.2.0) is_entry own.2.1 in
        let is_read : get_or indices own.2.0 0 ≡ read = get_or_from_slice_get indices own.2.0 read 0 at in
        Contains-append_right found (map (λ place. get_or indices place 0) e.places) read
        (subst (Contains (map (λ place. get_or indices place 0) e.places)) is_read
        (mapped_to (λ place. get_or indices place 0) e.places own.2.0 place))
  ],
)

-- what is found so far is what the shards so far report
abbrev pub IsUnion : ℕ → List ShardReply → List ℕ → Type 0
IsUnion j each found = (read : ℕ) → Contains found read ↔ Any (Reports j read) each

pub union_none : (j : ℕ) → IsUnion j [] []
union_none j read = (
  λ c. absurd (let lt : c.0 < 0 = c.1 in omega (arith, lt)),
  λ a. absurd (Any-none (Reports j read) a),
)

pub union_more : (j : ℕ) (each : List ShardReply) (s : ShardReply) (found new : List ℕ) → IsUnion j each found
    → ((read : ℕ) → Contains new read ↔ (Contains found read ⊎ Reports j read s)) → IsUnion j (each ++ s ∷ []) new
union_more j each s found new so_far more read = (
  λ c. elim ((more read).0 c) [
    | inl before ↦ Any-longer (Reports j read) each s ((so_far read).0 before)
    | inr now ↦ Any-right (Reports j read) each (s ∷ []) (Any-first (Reports j read) s [] now)
  ],
  λ a. elim (Any-push_cases (Reports j read) each s a) [
    | inl before ↦ (more read).1 (inl ((so_far read).1 before))
    | inr now ↦ (more read).1 (inr now)
  ],
)

-- only a conflict has a report
conflict_if : (e : Entry) (place : ℕ) → Contains e.places place → e.verdict ≡ Conflict
conflict_if e place c = by e.verdict refl
  where
    none : e.verdict ≢ Conflict → ⊥
    none other = let gone : Contains [] place = subst (λ ps. Contains ps place) (e.only_conflict other) c in
        absurd (let lt : gone.0 < 0 = gone.1 in omega (arith, lt))

    by : (v : Verdict) → e.verdict ≡ v → e.verdict ≡ Conflict
    by Conflict is = is
    by TooOld is = absurd (none (λ h. let no : TooOld ≡ Conflict = sym is ∙ h in cc))
    by Committed is = absurd (none (λ h. let no : Committed ≡ Conflict = sym is ∙ h in cc))

-- so there is none unless the least verdict is a conflict
pub no_report : (each : List ShardReply) (j : ℕ) (verdict : Verdict) (places : List ℕ) → IsLeast each j verdict → IsUnion j each places
    → verdict ≢ Conflict → places ≡ []
no_report each j verdict places least union other =
    empty_list places (λ read c.
    let a = (union read).0 c in
    let s = a.1 in
    let own = the_value (λ (e : Entry). (place : ℕ) × Contains e.places place
    × IsSomeAnd (slice_get s.reads j) (λ indices. slice_get indices place ≡ Some read)) (slice_get s.reply.entries j) a.4 in
    let bound = All-get_or (OfEntry j (λ e. rank verdict ≤ rank e.verdict)) each a.0 s a.2 least.least in
    let here = subst (OfEntry j (λ e. rank verdict ≤ rank e.verdict)) a.3 bound in
    let e = the_value (λ (e : Entry). rank verdict ≤ rank e.verdict) (slice_get s.reply.entries j) here in
    let same : e.0 ≡ own.0 = let is : Some e.0 ≡ Some own.0 = sym e.1 ∙ own.1 in cc in
    let conflict = conflict_if own.0 own.2.0 own.2.1 in
    other (lowest verdict (subst (λ (v : Verdict). rank verdict ≤ rank v) (ap (λ (e : Entry). e.verdict) same ∙ conflict) e.2)))
