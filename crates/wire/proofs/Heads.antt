-- Where the ranges of a transaction, and the transactions of a batch, begin in the frame.
use Rattle.std.proofs.Common.{◌≡◌, ℕ, ℤ, ◌^◌, ◌<◌, ◌≤◌, Bool, List, length, Ok, Fits, w32, arith}
use Rattle.keyspace.specs.declared.span.Span.{Span}
use Rattle.wire.specs.declared.version.WireVersion.{WireVersion}
use Rattle.wire.specs.Reading.{signed_at, marks_at, count_at, batch_kind_at, header_at}
use Rattle.wire.specs.Lying.{IsRestOf, AreApart, index_of}
use Rattle.wire.proofs.Taken.{AreBytes, signed_takes}
use Rattle.wire.proofs.Parts.{marks_take, count_takes, header_takes, version_takes_kind}
use Rattle.wire.proofs.Rests.{rest_after, index_after}
use Rattle.wire.proofs.Sealing.{apart_rises}

-- what follows the head of a transaction
pub after_head : (frame bytes : List ℕ) (snapshot : ℤ) (a : List ℕ) (marked : Bool) (b : List ℕ) (reads : ℕ) (c : List ℕ)
    (writes : ℕ) (d : List ℕ) → AreBytes bytes → IsRestOf frame bytes → signed_at bytes ≡ Ok (snapshot, a)
    → marks_at a ≡ Ok (marked, b) → count_at 1024 b ≡ Ok (reads, c) → count_at 1024 c ≡ Ok (writes, d)
    → IsRestOf frame d × (index_of frame bytes ≤ index_of frame d)
after_head frame bytes snapshot a marked b reads c writes d fits rest e f g h =
    let t = signed_takes bytes snapshot a fits e in
    let u = marks_take a (marked, b) t.0.rest_fits f in
    let v = count_takes 1024 b (reads, c) u.rest_fits g in
    let w = count_takes 1024 c (writes, d) v.0.rest_fits h in
    let r = rest_after frame bytes _ a rest t.0 in
    let s = rest_after frame a _ b r u in
    let x = rest_after frame b _ c s v.0 in (
      rest_after frame c _ d x w.0,
      omega (
        arith,
        index_after frame bytes _ a rest t.0,
        index_after frame a _ b r u,
        index_after frame b _ c s v.0,
        index_after frame c _ d x w.0,
      ),
    )

-- what follows the kind of a batch
pub after_kind : (frame bytes : List ℕ) (version : WireVersion) (a : List ℕ) → AreBytes bytes → IsRestOf frame bytes
    → batch_kind_at bytes ≡ Ok (version, a) → IsRestOf frame a
after_kind frame bytes version a fits rest e = rest_after frame bytes _ a rest (version_takes_kind bytes (version, a) fits e)

-- what follows the versions and the count of a batch
pub after_header : (frame bytes : List ℕ) (header : ℤ × ℤ × ℤ) (a : List ℕ) (count : ℕ) (b : List ℕ) → AreBytes bytes
    → IsRestOf frame bytes → header_at bytes ≡ Ok (header, a) → count_at 4096 a ≡ Ok (count, b) → IsRestOf frame b
after_header frame bytes header a count b fits rest e f =
    let t = header_takes bytes (header, a) fits e in
    let u = count_takes 4096 a (count, b) t.0.rest_fits f in
    rest_after frame a _ b (rest_after frame bytes _ a rest t.0) u.0

-- the spans of a frame are few
pub few_spans : (frame rest : List ℕ) (spans : List Span) (count : ℕ) → AreApart 0 spans (index_of frame rest)
    → length frame ≤ 4194308 → count ≡ length spans → Fits w32 count
few_spans frame rest spans count apart short e =
    let few : count < 2 ^ 32 = omega (arith, apart_rises 0 spans (index_of frame rest) apart, short, e) in
    record { fits = few }
