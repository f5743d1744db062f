-- At most one shard is the first whose reply isn't one to the batch, for one cause.
use Rattle.std.proofs.Common.{◌≡◌, ℕ, ◌<◌, List, get_or, take, refl, sym, ap, ◌∙◌, subst, inl, inr, arith, length-take, All}
use Rattle.std.specs.Prelude.{Some, slice_get, IsSomeAnd}
use Rattle.std.proofs.lemmas.Bool.{cases_lt}
use Rattle.std.proofs.lemmas.List.{get_or-take}
use Rattle.std.proofs.lemmas.List.Elements.{All-get_or}
use Rattle.std.proofs.lemmas.Option.{slice_get_within, get_or_from_slice_get}
use Rattle.keyspace.specs.declared.batch.Batch.{Batch}
use Rattle.serial.proofs.callers.Reading.{the_value}
use Rattle.shards.specs.declared.shard_reply.ShardReply.{ShardReply}
use Rattle.shards.specs.declared.error.Misfit.{Misfit}
use Rattle.shards.specs.declared.error.Misfit.TheVariants.{Version, Count, Place}
use Rattle.shards.specs.Combined.{IsMisfit, Fits, IsFirstMisfit}

-- what fits is no misfit
fits_or_not : (b : Batch) (cause : Misfit) (s : ShardReply) → Fits b s → IsMisfit b cause s → ⊥
fits_or_not b Version s fits misfit = misfit fits.version
fits_or_not b Count s fits misfit = misfit.1 fits.count
fits_or_not b Place s fits misfit = misfit.2 fits.places

-- a misfit has one cause
one_cause : (b : Batch) (one other : Misfit) (s : ShardReply) → IsMisfit b one s → IsMisfit b other s → one ≡ other
one_cause b Version Version s h k = refl
one_cause b Version Count s h k = absurd (h k.0)
one_cause b Version Place s h k = absurd (h k.0)
one_cause b Count Version s h k = absurd (k h.0)
one_cause b Count Count s h k = refl
one_cause b Count Place s h k = absurd (h.1 k.1)
one_cause b Place Version s h k = absurd (k h.0)
one_cause b Place Count s h k = absurd (k.1 h.1)
one_cause b Place Place s h k = refl

module _ (b : Batch) (each : List ShardReply) where
  -- no earlier shard than the first is a misfit
  none_before : (n m : ℕ) (cause : Misfit) → All (Fits b) (take n each) → m < n → IsSomeAnd (slice_get each m) (IsMisfit b cause) → ⊥
  none_before n m cause fits below misfit =
      let s = the_value (IsMisfit b cause) (slice_get each m) misfit in
      let within = slice_get_within each m s.0 s.1 in
      let fit = All-get_or (Fits b) (take n each) m s.0 (omega (arith, length-take n each, within, below)) fits in
      let is : get_or (take n each) m s.0 ≡ s.0 = get_or-take n each m s.0 below ∙ get_or_from_slice_get each m s.0 s.0 s.1 in
      fits_or_not b cause s.0 (subst (Fits b) is fit) s.2

  pub one_first : (n m : ℕ) (one other : Misfit) → IsFirstMisfit b each n one → IsFirstMisfit b each m other
      → (n ≡ m) × (one ≡ other)
  one_first n m one other h k =
      elim (cases_lt n m) [
        | inl less ↦ absurd (none_before m n one k.before less h.first)
        | inr most ↦ elim (cases_lt m n) [
          | inl less ↦ absurd (none_before n m other h.before less k.first)
          | inr least ↦
              let same : n ≡ m = omega (arith, most, least) in
              let s = the_value (IsMisfit b one) (slice_get each n) h.first in
              let r = the_value (IsMisfit b other) (slice_get each m) k.first in
              let one_reply : r.0 ≡ s.0 = let e : Some r.0 ≡ Some s.0 = sym r.1 ∙ ap (slice_get each) (sym same) ∙ s.1 in cc in
              (same, one_cause b one other s.0 s.2 (subst (IsMisfit b other) one_reply r.2))
        ]
      ]

  -- if all fit, there is none
  pub none_first : (n : ℕ) (cause : Misfit) → All (Fits b) each → IsFirstMisfit b each n cause → ⊥
  none_first n cause fits h =
      let s = the_value (IsMisfit b cause) (slice_get each n) h.first in
      let within = slice_get_within each n s.0 s.1 in
      let is = get_or_from_slice_get each n s.0 s.0 s.1 in
      fits_or_not b cause s.0 (subst (Fits b) is (All-get_or (Fits b) each n s.0 within fits)) s.2
