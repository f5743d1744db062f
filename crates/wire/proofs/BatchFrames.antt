-- The frame that is read spells its batch.
use Rattle.std.proofs.Common.{◌≡◌, ℕ, ◌+◌, ◌≤◌, cond, eqb, ltb, List, [], ◌++◌, length, take, drop, Ok, Err, refl, sym, ap, subst, ◌∙◌, arith}
use Rattle.std.specs.Prelude.{slice_index, ◌==◌, if◌then◌else◌}
use Rattle.std.proofs.lemmas.Bool.{eqb-true, ltb-false}
use Rattle.std.proofs.lemmas.List.{append-nil, nil_from_length, take_at, take-append-drop, length-append, length-take, length-drop}
use Rattle.byteorder.specs.Endian.{big_bytes, big_number}
use Rattle.keyspace.specs.declared.batch.Batch.{Batch}
use Rattle.wire.specs.declared.error.WireError.TheVariants.{Short, Long, Trailing}
use Rattle.wire.specs.declared.version.WireVersion.{WireVersion}
use Rattle.wire.specs.declared.version.WireVersion.TheVariants.{One, Two}
use Rattle.wire.specs.Fields.{BatchFields, batch_fields}
use Rattle.wire.specs.Spelling.{frame, IsShort, batch_kind, batch_body, BatchHolds, SpellsBatch}
use Rattle.wire.specs.Reading.{number_at, body_at, batch_at, all_of, read_batch, version_at_front}
use Rattle.wire.proofs.Loop.{Reading}
use Rattle.wire.proofs.Steps.{bind_ok, passed_over, passed, ok_is}
use Rattle.wire.proofs.Taken.{AreBytes, AreBytes-take, AreBytes-drop, Takes, Takes-then, back_4, number_takes}
use Rattle.wire.proofs.Parts.{TakesEach, versioned_body, VersionedHolds, batch_takes}

-- the body is that of the frame at the front
pub record IsBodyAt (bytes body : List ℕ) : Type 0 where
  pub len : length body ≡ big_number 4 bytes
  pub within : 4 + length body ≤ length bytes
  pub front : take (4 + length body) bytes ≡ frame body
  pub short : IsShort body
  pub fits : AreBytes body

pub body_is_at : (bytes body : List ℕ) → AreBytes bytes → body_at bytes ≡ Ok body → IsBodyAt bytes body
unfolding body_at
body_is_at bytes body fits e =
    let n = big_number 4 bytes in
    let after = drop 4 bytes in
    let made = take n after in
    let g = passed_over (ltb (length bytes) 4) Short
    (cond (ltb 4194304 n) (Err Long) (cond (ltb (length bytes) (4 + n)) (Err Short) (Ok made))) body e in
    let h = passed_over (ltb 4194304 n) Long (cond (ltb (length bytes) (4 + n)) (Err Short)
    (Ok made)) body g.1 in
    let k = passed_over (ltb (length bytes) (4 + n)) Short (Ok made) body h.1 in
    let there : 4 + n ≤ length bytes = ltb-false _ _ k.0 in
    let short : n ≤ 4194304 = ltb-false _ _ h.0 in
    let read : number_at 4 bytes ≡ Ok (n, after) = rw g.0 refl in
    let t = number_takes 4 back_4 bytes n after fits read in
    let second : Takes after made (drop n after) =
    record { parts = sym (take-append-drop n after); rest_fits = AreBytes-drop n after t.0.rest_fits } in
    let len : length made ≡ n = omega (arith, length-take n after, length-drop 4 bytes) in
    let entire : Takes bytes (frame made) (drop n after) =
    subst (λ (l : ℕ). Takes bytes (big_bytes 4 l ++ made) (drop n after)) (sym len)
    (Takes-then t.0 second) in
    let frame_len : length (frame made) ≡ 4 + length made = length-append (big_bytes 4 (length made)) made in
    let front : take (4 + length made) bytes ≡ frame made =
    ap (take (4 + length made)) entire.parts
    ∙ take_at (frame made) (drop n after) (4 + length made) frame_len in
    subst (λ (b : List ℕ). IsBodyAt bytes b) (ok_is made body k.1)
    (record {
      len = len;
      within = omega arith;
      front = front;
      short = omega arith;
      fits = AreBytes-take n after t.0.rest_fits;
    })

-- a value that fills a body is spelled by all of it
pub all_taken : {A : Type 0} (one : List ℕ → Reading A) (text : A → List ℕ) (Holds : A → Type 0)
    → TakesEach one text Holds
    → (body : List ℕ) (a : A) → AreBytes body → all_of (one body) ≡ Ok a → (body ≡ text a) × Holds a
all_taken {A} one text Holds each body a fits e =
    let b = bind_ok (one body) (λ x. cond (eqb (length x.1) 0) (Ok x.0) (Err Trailing)) a e in
    let g = passed (eqb (length b.0.1) 0) Trailing (Ok b.0.0) a b.2 in
    let nothing : b.0.1 ≡ [] = nil_from_length b.0.1 (eqb-true _ _ g.0) in
    let t = each body b.0 fits b.1 in
    let entire : body ≡ text b.0.0 = t.0.parts ∙ ap (λ (r : List ℕ). text b.0.0 ++ r) nothing
    ∙ append-nil (text b.0.0) in
    subst (λ (v : A). (body ≡ text v) × Holds v) (ok_is b.0.0 a g.1) (entire, t.1)

-- the wire version that was read is the one that the kind shows
kind_stands : (version : WireVersion) (batch : BatchFields) (rest : List ℕ)
    → slice_index (frame (batch_body version batch) ++ rest) 4 ≡ batch_kind version
unfolding batch_body
kind_stands version batch rest = refl

reported_kind : (version : WireVersion) (n : ℕ) → n ≡ batch_kind version → (if n == 3 then Two else One) ≡ version
reported_kind One n e = rw e refl
reported_kind Two n e = rw e refl

pub reported_again : (version : WireVersion) (bytes rest : List ℕ) (batch : Batch)
    → SpellsBatch version bytes batch
    → version_at_front (bytes ++ rest) ≡ version
reported_again version bytes rest batch s =
    let stands : slice_index (bytes ++ rest) 4 ≡ batch_kind version =
    ap (λ (x : List ℕ). slice_index (x ++ rest) 4) s.text ∙ kind_stands version (batch_fields batch) rest in
    reported_kind version (slice_index (bytes ++ rest) 4) stands

-- what is read keeps its limits
pub read_holds : (bytes : List ℕ) (x : WireVersion × BatchFields) → AreBytes bytes → read_batch bytes ≡ Ok x
    → BatchHolds x.1
unfolding read_batch
read_holds bytes x fits e =
    let b = bind_ok (body_at bytes) (λ body. all_of (batch_at body)) x e in
    let at = body_is_at bytes b.0 fits b.1 in
    (all_taken batch_at versioned_body VersionedHolds batch_takes b.0 x at.fits b.2).1

pub batch_is_spelled : (bytes : List ℕ) (version : WireVersion) (batch : Batch) (n : ℕ) → AreBytes bytes
    → read_batch bytes ≡ Ok (version, batch_fields batch) → n ≡ 4 + big_number 4 bytes
    → SpellsBatch (version_at_front bytes) (take n bytes) batch × (n ≤ length bytes)
unfolding read_batch
batch_is_spelled bytes version batch n fits e n-is =
    let fields = batch_fields batch in
    let b = bind_ok (body_at bytes) (λ body. all_of (batch_at body)) (version, fields) e in
    let at = body_is_at bytes b.0 fits b.1 in
    let taken = all_taken batch_at versioned_body VersionedHolds batch_takes b.0 (
      version,
      fields,
    ) at.fits b.2 in
    let same : n ≡ 4 + length b.0 = n-is ∙ ap (λ (l : ℕ). 4 + l) (sym at.len) in
    let spelled : SpellsBatch version (take n bytes) batch = record {
      text = ap (λ (l : ℕ). take l bytes) same ∙ at.front ∙ ap frame taken.0;
      holds = taken.1;
      short = subst IsShort taken.0 at.short;
    } in
    let reported : version_at_front bytes ≡ version =
    ap version_at_front (sym (take-append-drop n bytes))
    ∙ reported_again version (take n bytes) (drop n bytes) batch spelled in
    (subst (λ (v : WireVersion). SpellsBatch v (take n bytes) batch) (sym reported) spelled, rw same at.within)
