-- What is read as a part of a batch is spelled there, and holds what must hold.
use Rattle.std.proofs.Common.{◌≡◌, ℕ, ℤ, pos, negsuc, zero, suc, ◌^◌, ◌<◌, ◌≤◌, ◌≤ℤ◌, ◌<ℤ◌, int_le, int_lt, Bool, true, not, cond, ◌&&◌, eqb, ltb, leb, List, [], ◌∷◌, ◌++◌, length, take, drop, Result, Ok, Err, refl, sym, ap, subst, ◌∙◌, inl, inr, arith}
use Rattle.std.specs.List.{flat_map, AllByRecursion}
use Rattle.std.specs.Int.{w64}
use Rattle.std.specs.Int.RustNames.{FitsSigned}
use Rattle.std.proofs.lemmas.Bool.{eqb-true, ltb-false, leb-true}
use Rattle.std.proofs.lemmas.Bool.Decides.{eqb_tells}
use Rattle.std.proofs.lemmas.Int.{ints}
use Rattle.std.proofs.lemmas.List.{take-append-drop, length-take, length-append, get_or_default}
use Rattle.std.proofs.lemmas.List.Concat.{flat_map-cons}
use Rattle.std.proofs.lemmas.List.Elements.{All-nil, All-cons, All-append}
use Rattle.byteorder.specs.Endian.{big_bytes}
use Rattle.keys.specs.Key.{IsKey, IsBytes, is_before}
use Rattle.keys.proofs.callers.Booleans.{and_left, and_right}
use Rattle.wire.specs.declared.error.WireError.{WireError}
use Rattle.wire.specs.declared.error.WireError.TheVariants.{Kind, Marks, Count, KeyLength, Inverted, Cut, Spelling}
use Rattle.wire.specs.declared.version.WireVersion.{WireVersion}
use Rattle.wire.specs.declared.version.WireVersion.TheVariants.{One, Two}
use Rattle.wire.specs.Fields.{RangeFields, TxnFields, BatchFields}
use Rattle.wire.specs.Spelling.{key_text, ends_text, single_key, is_single_key, formed_text, range_text, marks_text, txn_text, batch_kind, header_text, batch_body, RangeHolds, TxnHolds, BatchHolds}
use Rattle.wire.specs.Reading.{◌>>=◌, number_at, version_at, count_at, marks_at, kind_at, key_at, ends_at, form_at, formed_at, range_at, many_at, txn_at, version_of_kind, batch_kind_at, header_at, fields_at, batch_at}
use Rattle.wire.proofs.Loop.{Reading}
use Rattle.wire.proofs.callers.Singles.{single_found, at_most_end}
use Rattle.wire.proofs.Steps.{bind_ok, passed_over, passed, ok_is}
use Rattle.wire.proofs.Taken.{AreBytes, AreBytes-take, AreBytes-drop, Takes, Takes-then, back_1, back_2, number_takes, version_takes}

are_all : (bytes : List ℕ) → AreBytes bytes → IsBytes bytes
are_all bytes fits k d lt = rw (get_or_default bytes k d 0 lt) (fits k)

pub at_most : (a b : ℤ) → int_le a b ≡ true → a ≤ℤ b
at_most a b h = grind (arith, ints)

pub below : (a b : ℤ) → int_lt a b ≡ true → a <ℤ b
below a b h = grind (arith, ints)

pub count_takes : (limit : ℕ) (bytes : List ℕ) (x : ℕ × List ℕ) → AreBytes bytes → count_at limit bytes ≡ Ok x
    → Takes bytes (big_bytes 2 x.0) x.1 × (x.0 ≤ limit)
unfolding count_at
count_takes limit bytes x fits e =
    let b = bind_ok (number_at 2 bytes) (λ n. cond (leb n.0 limit) (Ok n) (Err Count)) x e in
    let g = passed (leb b.0.0 limit) Count (Ok b.0) x b.2 in
    let t = number_takes 2 back_2 bytes b.0.0 b.0.1 fits b.1 in
    subst (λ (p : ℕ × List ℕ). Takes bytes (big_bytes 2 p.0) p.1 × (p.0 ≤ limit)) (ok_is b.0 x g.1) (
      t.0,
      leb-true _ _ g.0,
    )

marks_same : (n : ℕ) → n ≤ 1 → big_bytes 1 n ≡ marks_text (eqb n 1)
marks_same zero h = refl
marks_same (suc zero) h = refl
marks_same (suc (suc n)) h = absurd (omega arith)

pub marks_take : (bytes : List ℕ) (x : Bool × List ℕ) → AreBytes bytes → marks_at bytes ≡ Ok x
    → Takes bytes (marks_text x.0) x.1
unfolding marks_at
marks_take bytes x fits e =
    let b = bind_ok (number_at 1 bytes) (λ n. cond (ltb 1 n.0) (Err Marks) (Ok (eqb n.0 1, n.1))) x e in
    let g = passed_over (ltb 1 b.0.0) Marks (Ok (eqb b.0.0 1, b.0.1)) x b.2 in
    let t = number_takes 1 back_1 bytes b.0.0 b.0.1 fits b.1 in
    let same = marks_same b.0.0 (ltb-false _ _ g.0) in
    subst (λ (p : Bool × List ℕ). Takes bytes (marks_text p.0) p.1) (ok_is (eqb b.0.0 1, b.0.1) x g.1)
    (subst (λ (text : List ℕ). Takes bytes text b.0.1) same t.0)

pub kind_takes : (kind : ℕ) (bytes rest : List ℕ) → AreBytes bytes → kind_at kind bytes ≡ Ok rest
    → Takes bytes (big_bytes 1 kind) rest
unfolding kind_at
kind_takes kind bytes rest fits e =
    let b = bind_ok (number_at 1 bytes) (λ n. cond (eqb n.0 kind) (Ok n.1) (Err Kind)) rest e in
    let g = passed (eqb b.0.0 kind) Kind (Ok b.0.1) rest b.2 in
    let t = number_takes 1 back_1 bytes b.0.0 b.0.1 fits b.1 in
    let same : b.0.0 ≡ kind = eqb-true _ _ g.0 in
    let found = subst (λ (n : ℕ). Takes bytes (big_bytes 1 n) b.0.1) same t.0 in
    subst (λ (r : List ℕ). Takes bytes (big_bytes 1 kind) r) (ok_is b.0.1 rest g.1) found

one_byte : (n : ℕ) → n < 256 ^ 1 → big_bytes 1 n ≡ n ∷ []
one_byte n small = ap (λ (x : ℕ). x ∷ []) (omega arith)

-- the end of a single key that is short enough is a key
end_is_key : (key : List ℕ) → IsKey key → length key ≤ 10000 → IsKey (key ++ 0 ∷ [])
end_is_key key is_key short = record {
  bytes = All-append (λ byte. byte < 256) key (0 ∷ []) is_key.bytes
      (All-cons (λ byte. byte < 256) 0 [] (omega arith) (All-nil (λ byte. byte < 256)));
  short = omega (arith, length-append key (0 ∷ []));
}

err_is_not_ok : (version : WireVersion) (r : Result WireVersion WireError) → r ≡ Err Kind → r ≡ Ok version → ⊥
err_is_not_ok version (Ok x) e h = cc
err_is_not_ok version (Err d) e h = cc

-- a key of at most that many bytes
abbrev pub IsKeyUpTo : ℕ → List ℕ → Type 0
IsKeyUpTo limit key = IsKey key × (length key ≤ limit)

pub key_takes : (limit : ℕ) (bytes : List ℕ) (x : List ℕ × List ℕ) → limit ≤ 10001 → AreBytes bytes
    → key_at limit bytes ≡ Ok x → Takes bytes (key_text x.0) x.1 × IsKeyUpTo limit x.0
unfolding key_at
key_takes limit bytes x low fits e =
    let b = bind_ok (number_at 2 bytes) (λ n. cond (ltb limit n.0) (Err KeyLength)
    (cond (ltb (length n.1) n.0) (Err Cut) (Ok (take n.0 n.1, drop n.0 n.1)))) x e in
    let n = b.0 in
    let g = passed_over (ltb limit n.0) KeyLength
    (cond (ltb (length n.1) n.0) (Err Cut) (Ok (take n.0 n.1, drop n.0 n.1))) x b.2 in
    let h = passed_over (ltb (length n.1) n.0) Cut (Ok (take n.0 n.1, drop n.0 n.1)) x g.1 in
    let t = number_takes 2 back_2 bytes n.0 n.1 fits b.1 in
    let short : n.0 ≤ limit = ltb-false _ _ g.0 in
    let there : n.0 ≤ length n.1 = ltb-false _ _ h.0 in
    let len : length (take n.0 n.1) ≡ n.0 = omega (arith, length-take n.0 n.1) in
    let second : Takes n.1 (take n.0 n.1) (drop n.0 n.1) = record {
      parts = sym (take-append-drop n.0 n.1);
      rest_fits = AreBytes-drop n.0 n.1 t.0.rest_fits;
    } in
    let entire : Takes bytes (key_text (take n.0 n.1)) (drop n.0 n.1) =
    subst (λ (k : ℕ). Takes bytes (big_bytes 2 k ++ take n.0 n.1) (drop n.0 n.1)) (sym len)
    (Takes-then t.0 second) in
    let is_key : IsKey (take n.0 n.1) = record {
      bytes = are_all (take n.0 n.1) (AreBytes-take n.0 n.1 t.0.rest_fits);
      short = omega arith;
    } in
    subst (λ (p : List ℕ × List ℕ). Takes bytes (key_text p.0) p.1 × IsKeyUpTo limit p.0)
    (ok_is (take n.0 n.1, drop n.0 n.1) x h.1) (entire, (is_key, omega arith))

ends_take : (bytes : List ℕ) (x : RangeFields × List ℕ) → AreBytes bytes → ends_at bytes ≡ Ok x
    → Takes bytes (ends_text x.0) x.1 × RangeHolds x.0
unfolding ends_at
ends_take bytes x fits e =
    let b = bind_ok (key_at 10001 bytes) (λ begin. key_at 10001 begin.1
    >>= λ end. cond (is_before end.0 begin.0) (Err Inverted)
    (Ok (record { begin = begin.0; end = end.0 }, end.1))) x e in
    let d = bind_ok (key_at 10001 b.0.1) (λ end. cond (is_before end.0 b.0.0) (Err Inverted)
    (Ok (record { begin = b.0.0; end = end.0 }, end.1))) x b.2 in
    let made : RangeFields × List ℕ = (record { begin = b.0.0; end = d.0.0 }, d.0.1) in
    let g = passed_over (is_before d.0.0 b.0.0) Inverted (Ok made) x d.2 in
    let t = key_takes 10001 bytes b.0 (omega arith) fits b.1 in
    let u = key_takes 10001 b.0.1 d.0 (omega arith) t.0.rest_fits d.1 in
    let holds : RangeHolds made.0 = record { begin = t.1.0; end = u.1.0; ordered = ap not g.0 } in
    subst (λ (p : RangeFields × List ℕ). Takes bytes (ends_text p.0) p.1 × RangeHolds p.0)
    (ok_is made x g.1) (Takes-then t.0 u.0, holds)

-- what follows a form, read as the form shows, is spelled after that form
form_takes : (form : ℕ) (bytes : List ℕ) (x : RangeFields × List ℕ) → AreBytes bytes
    → form_at form bytes ≡ Ok x
    → (text : List ℕ) × Takes bytes text x.1 × (formed_text x.0 ≡ form ∷ text) × RangeHolds x.0
unfolding form_at formed_text
form_takes zero bytes x fits e =
    let b = bind_ok (ends_at bytes) (λ range. cond (is_single_key range.0) (Err Spelling) (Ok range)) x e in
    let g = passed_over (is_single_key b.0.0) Spelling (Ok b.0) x b.2 in
    let t = ends_take bytes b.0 fits b.1 in
    let spelled : formed_text b.0.0 ≡ 0 ∷ ends_text b.0.0 = rw g.0 refl in
    subst (λ (p : RangeFields × List ℕ). (text : List ℕ) × Takes bytes text p.1 × (formed_text p.0 ≡ 0 ∷ text)
    × RangeHolds p.0)
    (ok_is b.0 x g.1) (ends_text b.0.0, t.0, spelled, t.1)
form_takes (suc zero) bytes x fits e =
    let b = bind_ok (key_at 10000 bytes) (λ key. Ok (single_key key.0, key.1)) x e in
    let t = key_takes 10000 bytes b.0 (omega arith) fits b.1 in
    let key = b.0.0 in
    let made : RangeFields × List ℕ = (single_key key, b.0.1) in
    let found = single_found key in
    let spelled : formed_text (single_key key) ≡ 1 ∷ key_text key = rw found refl in
    let holds : RangeHolds (single_key key) = record {
      begin = t.1.0;
      end = end_is_key key t.1.0 t.1.1;
      ordered = at_most_end key;
    } in
    subst (λ (p : RangeFields × List ℕ). (text : List ℕ) × Takes bytes text p.1 × (formed_text p.0 ≡ 1 ∷ text)
    × RangeHolds p.0)
    (ok_is made x b.2) (key_text key, t.0, spelled, holds)
form_takes (suc (suc n)) bytes x fits e = absurd cc

formed_takes : (bytes : List ℕ) (x : RangeFields × List ℕ) → AreBytes bytes → formed_at bytes ≡ Ok x
    → Takes bytes (formed_text x.0) x.1 × RangeHolds x.0
unfolding formed_at
formed_takes bytes x fits e =
    let b = bind_ok (number_at 1 bytes) (λ form. form_at form.0 form.1) x e in
    let t = number_takes 1 back_1 bytes b.0.0 b.0.1 fits b.1 in
    let f = form_takes b.0.0 b.0.1 x t.0.rest_fits b.2 in
    let form : big_bytes 1 b.0.0 ≡ b.0.0 ∷ [] = one_byte b.0.0 t.1 in
    let entire : Takes bytes (big_bytes 1 b.0.0 ++ f.0) x.1 = Takes-then t.0 f.1 in
    let text : big_bytes 1 b.0.0 ++ f.0 ≡ formed_text x.0 = ap (λ (p : List ℕ). p ++ f.0) form ∙ sym f.2 in
    (subst (λ (p : List ℕ). Takes bytes p x.1) text entire, f.3)

pub range_takes : (version : WireVersion) (bytes : List ℕ) (x : RangeFields × List ℕ) → AreBytes bytes
    → range_at version bytes ≡ Ok x → Takes bytes (range_text version x.0) x.1 × RangeHolds x.0
range_takes One bytes x fits e = ends_take bytes x fits e
range_takes Two bytes x fits e = formed_takes bytes x fits e

-- as each value is spelled where it is read, so are many of them
abbrev pub TakesEach : {A : Type 0} → (List ℕ → Reading A) → (A → List ℕ) → (A → Type 0) → Type 0
TakesEach {A} one text Holds = (bytes : List ℕ) (x : A × List ℕ) → AreBytes bytes → one bytes ≡ Ok x
    → Takes bytes (text x.0) x.1 × Holds x.0

pub many_take : {A : Type 0} (one : List ℕ → Reading A) (text : A → List ℕ) (Holds : A → Type 0)
    → TakesEach one text Holds
    → (n : ℕ) (bytes : List ℕ) (x : List A × List ℕ) → AreBytes bytes → many_at one n bytes ≡ Ok x
    → Takes bytes (flat_map text x.0) x.1 × (length x.0 ≡ n) × AllByRecursion Holds x.0
unfolding many_at
many_take {A} one text Holds each zero bytes x fits e =
    subst (λ (p : List A × List ℕ). Takes bytes (flat_map text p.0) p.1 × (length p.0 ≡ 0)
    × AllByRecursion Holds p.0) (ok_is ([], bytes) x e) (
      record { parts = refl; rest_fits = fits },
      refl,
      tt,
    )
many_take {A} one text Holds each (suc n) bytes x fits e =
    let a = bind_ok (one bytes) (λ first. many_at one n first.1
    >>= λ others. Ok (first.0 ∷ others.0, others.1)) x e in
    let b = bind_ok (many_at one n a.0.1) (λ others. Ok (a.0.0 ∷ others.0, others.1)) x a.2 in
    let first = each bytes a.0 fits a.1 in
    let second = many_take one text Holds each n a.0.1 b.0 first.0.rest_fits b.1 in
    let made : List A × List ℕ = (a.0.0 ∷ b.0.0, b.0.1) in
    subst (λ (p : List A × List ℕ). Takes bytes (flat_map text p.0) p.1 × (length p.0 ≡ suc n)
    × AllByRecursion Holds p.0) (ok_is made x b.2)
    (rw flat_map-cons (Takes-then first.0 second.0), ap suc second.1, (first.1, second.2))

pub txn_takes : (version : WireVersion) (bytes : List ℕ) (x : TxnFields × List ℕ) → AreBytes bytes
    → txn_at version bytes ≡ Ok x → Takes bytes (txn_text version x.0) x.1 × TxnHolds x.0
unfolding txn_at txn_text
txn_takes version bytes x fits e =
    let one = range_at version in
    let text = range_text version in
    let b_snapshot = bind_ok (version_at (λ v. int_le (pos 0) v) bytes) (λ snapshot. marks_at snapshot.1
    >>= λ marked. count_at 1024 marked.1 >>= λ read_count. count_at 1024 read_count.1
    >>= λ write_count. many_at one read_count.0 write_count.1 >>= λ reads. many_at one write_count.0 reads.1
    >>= λ writes. Ok (
      record { snapshot = snapshot.0; marked = marked.0; reads = reads.0; writes = writes.0 },
      writes.1,
    )) x e in
    let snapshot_is = b_snapshot.0.0 in
    let b_marked = bind_ok (marks_at b_snapshot.0.1) (λ marked. count_at 1024 marked.1
    >>= λ read_count. count_at 1024 read_count.1 >>= λ write_count. many_at one read_count.0 write_count.1
    >>= λ reads. many_at one write_count.0 reads.1
    >>= λ writes. Ok (
      record {
        snapshot = snapshot_is;
        marked = marked.0;
        reads = reads.0;
        writes = writes.0;
      },
      writes.1,
    ))
    x b_snapshot.2 in
    let marked_is = b_marked.0.0 in
    let b_read_count = bind_ok (count_at 1024 b_marked.0.1) (λ read_count. count_at 1024 read_count.1
    >>= λ write_count. many_at one read_count.0 write_count.1 >>= λ reads. many_at one write_count.0 reads.1
    >>= λ writes. Ok (
      record {
        snapshot = snapshot_is;
        marked = marked_is;
        reads = reads.0;
        writes = writes.0;
      },
      writes.1,
    ))
    x b_marked.2 in
    let b_write_count = bind_ok (count_at 1024 b_read_count.0.1)
    (λ write_count. many_at one b_read_count.0.0 write_count.1
    >>= λ reads. many_at one write_count.0 reads.1
    >>= λ writes. Ok (
      record {
        snapshot = snapshot_is;
        marked = marked_is;
        reads = reads.0;
        writes = writes.0;
      },
      writes.1,
    ))
    x b_read_count.2 in
    let b_reads = bind_ok (many_at one b_read_count.0.0 b_write_count.0.1)
    (λ reads. many_at one b_write_count.0.0 reads.1
    >>= λ writes. Ok (
      record {
        snapshot = snapshot_is;
        marked = marked_is;
        reads = reads.0;
        writes = writes.0;
      },
      writes.1,
    ))
    x b_write_count.2 in
    let reads_are = b_reads.0.0 in
    let b_writes = bind_ok (many_at one b_write_count.0.0 b_reads.0.1)
    (λ writes. Ok (
      record {
        snapshot = snapshot_is;
        marked = marked_is;
        reads = reads_are;
        writes = writes.0;
      },
      writes.1,
    ))
    x b_reads.2 in
    let writes_are = b_writes.0.0 in
    let made : TxnFields × List ℕ = (
      record { snapshot = snapshot_is; marked = marked_is; reads = reads_are; writes = writes_are },
      b_writes.0.1,
    ) in
    let snapshot = version_takes (λ v. int_le (pos 0) v) bytes b_snapshot.0 fits b_snapshot.1 in
    let marked = marks_take b_snapshot.0.1 b_marked.0 snapshot.0.rest_fits b_marked.1 in
    let read_count = count_takes 1024 b_marked.0.1 b_read_count.0 marked.rest_fits b_read_count.1 in
    let write_count = count_takes 1024 b_read_count.0.1 b_write_count.0 read_count.0.rest_fits
    b_write_count.1 in
    let reads = many_take one text RangeHolds (range_takes version) b_read_count.0.0 b_write_count.0.1
    b_reads.0
    write_count.0.rest_fits b_reads.1 in
    let writes = many_take one text RangeHolds (range_takes version) b_write_count.0.0 b_reads.0.1 b_writes.0
    reads.0.rest_fits b_writes.1 in
    let ranges = Takes-then reads.0 writes.0 in
    let ranges_text = flat_map text reads_are ++ flat_map text writes_are in
    let second : Takes b_read_count.0.1 (big_bytes 2 (length writes_are) ++ ranges_text) b_writes.0.1 =
    rw writes.1 (Takes-then write_count.0 ranges) in
    let first : Takes b_marked.0.1 (big_bytes 2
    (length reads_are) ++ (big_bytes 2 (length writes_are) ++ ranges_text)) b_writes.0.1 =
    rw reads.1 (Takes-then read_count.0 second) in
    let entire : Takes bytes (txn_text version made.0) made.1 =
    Takes-then snapshot.0 (Takes-then marked first) in
    let holds : TxnHolds made.0 = record {
      snapshot_fits = snapshot.1;
      snapshot = at_most _ _ snapshot.2;
      few_reads = rw reads.1 read_count.1;
      few_writes = rw writes.1 write_count.1;
      reads = reads.2;
      writes = writes.2;
    } in
    subst (λ (p : TxnFields × List ℕ). Takes bytes (txn_text version p.0) p.1 × TxnHolds p.0)
    (ok_is made x b_writes.2) (entire, holds)

-- what must hold of the three versions of a batch
pub record HeaderHolds (previous version received : ℤ) : Type 0 where
  previous_fits : FitsSigned w64 previous
  version_fits : FitsSigned w64 version
  received_fits : FitsSigned w64 received
  previous_from : int_le (negsuc 0) previous ≡ true
  natural : int_le (pos 0) version ≡ true
  rises : int_lt previous version ≡ true
  received_from : int_le (negsuc 0) received ≡ true
  received_before : int_lt received version ≡ true

pub header_takes : (bytes : List ℕ) (x : (ℤ × ℤ × ℤ) × List ℕ) → AreBytes bytes → header_at bytes ≡ Ok x
    → Takes bytes (header_text x.0.0 x.0.1 x.0.2) x.1 × HeaderHolds x.0.0 x.0.1 x.0.2
unfolding header_at
header_takes bytes x fits e =
    let from = λ (v : ℤ). int_le (negsuc 0) v in
    let above = λ (p v : ℤ). int_le (pos 0) v && int_lt p v in
    let before = λ (w v : ℤ). int_le (negsuc 0) v && int_lt v w in
    let b_previous = bind_ok (version_at from bytes) (λ previous. version_at (above previous.0) previous.1
    >>= λ version. version_at (before version.0) version.1
    >>= λ received. Ok ((previous.0, version.0, received.0), received.1)) x e in
    let p = b_previous.0.0 in
    let b_version = bind_ok (version_at (above p) b_previous.0.1)
    (λ version. version_at (before version.0) version.1
    >>= λ received. Ok ((p, version.0, received.0), received.1)) x b_previous.2 in
    let v = b_version.0.0 in
    let b_received = bind_ok (version_at (before v) b_version.0.1)
    (λ received. Ok ((p, v, received.0), received.1)) x b_version.2 in
    let r = b_received.0.0 in
    let made : (ℤ × ℤ × ℤ) × List ℕ = ((p, v, r), b_received.0.1) in
    let previous = version_takes from bytes b_previous.0 fits b_previous.1 in
    let version = version_takes (above p) b_previous.0.1 b_version.0 previous.0.rest_fits b_version.1 in
    let received = version_takes (before v) b_version.0.1 b_received.0 version.0.rest_fits b_received.1 in
    let entire : Takes bytes (header_text p v r) b_received.0.1 =
    Takes-then previous.0 (Takes-then version.0 received.0) in
    let holds : HeaderHolds p v r = record {
      previous_fits = previous.1;
      version_fits = version.1;
      received_fits = received.1;
      previous_from = previous.2;
      natural = and_left _ _ version.2;
      rises = and_right _ _ version.2;
      received_from = and_left _ _ received.2;
      received_before = and_right _ _ received.2;
    } in
    subst (λ (y : (ℤ × ℤ × ℤ) × List ℕ). Takes bytes (header_text y.0.0 y.0.1 y.0.2) y.1
    × HeaderHolds y.0.0 y.0.1 y.0.2)
    (ok_is made x b_received.2) (entire, holds)

-- what follows the kind of a batch
abbrev pub rest_text : WireVersion → BatchFields → List ℕ
rest_text version batch =
    header_text batch.previous batch.version batch.received
    ++ (big_bytes 2 (length batch.txns) ++ flat_map (txn_text version) batch.txns)

fields_take : (version : WireVersion) (bytes : List ℕ) (x : BatchFields × List ℕ) → AreBytes bytes
    → fields_at version bytes ≡ Ok x → Takes bytes (rest_text version x.0) x.1 × BatchHolds x.0
unfolding fields_at
fields_take version bytes x fits e =
    let one = txn_at version in
    let text = txn_text version in
    let b_header = bind_ok (header_at bytes) (λ header. count_at 4096 header.1
    >>= λ count. many_at one count.0 count.1
    >>= λ txns. Ok (
      record {
        previous = header.0.0;
        version = header.0.1;
        received = header.0.2;
        txns = txns.0;
      },
      txns.1,
    )) x e in
    let header_is = b_header.0.0 in
    let b_count = bind_ok (count_at 4096 b_header.0.1) (λ count. many_at one count.0 count.1
    >>= λ txns. Ok (
      record {
        previous = header_is.0;
        version = header_is.1;
        received = header_is.2;
        txns = txns.0;
      },
      txns.1,
    ))
    x b_header.2 in
    let b_txns = bind_ok (many_at one b_count.0.0 b_count.0.1)
    (λ txns. Ok (
      record {
        previous = header_is.0;
        version = header_is.1;
        received = header_is.2;
        txns = txns.0;
      },
      txns.1,
    ))
    x b_count.2 in
    let txns_are = b_txns.0.0 in
    let made : BatchFields × List ℕ = (
      record { previous = header_is.0; version = header_is.1; received = header_is.2; txns = txns_are },
      b_txns.0.1,
    ) in
    let header = header_takes bytes b_header.0 fits b_header.1 in
    let count = count_takes 4096 b_header.0.1 b_count.0 header.0.rest_fits b_count.1 in
    let txns = many_take one text TxnHolds (txn_takes version) b_count.0.0 b_count.0.1 b_txns.0
    count.0.rest_fits b_txns.1 in
    let listed : Takes b_header.0.1 (big_bytes 2 (length txns_are) ++ flat_map text txns_are) b_txns.0.1 =
    rw txns.1 (Takes-then count.0 txns.0) in
    let entire : Takes bytes (rest_text version made.0) made.1 = Takes-then header.0 listed in
    let h = header.1 in
    let holds : BatchHolds made.0 = record {
      previous_fits = h.previous_fits;
      version_fits = h.version_fits;
      received_fits = h.received_fits;
      previous = at_most _ _ h.previous_from;
      version = at_most _ _ h.natural;
      rises = below _ _ h.rises;
      received = at_most _ _ h.received_from;
      received_before = below _ _ h.received_before;
      few = rw txns.1 count.1;
      txns = txns.2;
    } in
    subst (λ (p : BatchFields × List ℕ). Takes bytes (rest_text version p.0) p.1 × BatchHolds p.0)
    (ok_is made x b_txns.2) (entire, holds)

version_spelled : (kind : ℕ) (version : WireVersion) → version_of_kind kind ≡ Ok version
    → kind ≡ batch_kind version
version_spelled kind version e =
    elim (eqb_tells kind 1) [
      | inl one ↦ let found : version_of_kind kind ≡ Ok One = rw one.0 refl in
          one.1 ∙ ap batch_kind (ok_is One version (sym found ∙ e))
      | inr other ↦ elim (eqb_tells kind 3) [
        | inl three ↦ let found : version_of_kind kind ≡ Ok Two = rw (other.0, three.0) refl in
            three.1 ∙ ap batch_kind (ok_is Two version (sym found ∙ e))
        | inr none ↦ let found : version_of_kind kind ≡ Err Kind = rw (other.0, none.0) refl in
            absurd (err_is_not_ok version (version_of_kind kind) found e)
      ]
    ]

pub version_takes_kind : (bytes : List ℕ) (x : WireVersion × List ℕ) → AreBytes bytes → batch_kind_at bytes ≡ Ok x
    → Takes bytes (batch_kind x.0 ∷ []) x.1
unfolding batch_kind_at
version_takes_kind bytes x fits e =
    let b = bind_ok (number_at 1 bytes)
    (λ n. version_of_kind n.0 >>= λ version. Ok (version, n.1)) x e in
    let d = bind_ok (version_of_kind b.0.0) (λ version. Ok (version, b.0.1)) x b.2 in
    let t = number_takes 1 back_1 bytes b.0.0 b.0.1 fits b.1 in
    let kind : big_bytes 1 b.0.0 ≡ batch_kind d.0 ∷ [] =
    one_byte b.0.0 t.1 ∙ ap (λ (n : ℕ). n ∷ []) (version_spelled b.0.0 d.0 d.1) in
    subst (λ (p : WireVersion × List ℕ). Takes bytes (batch_kind p.0 ∷ []) p.1) (ok_is (d.0, b.0.1) x d.2)
    (subst (λ (text : List ℕ). Takes bytes text b.0.1) kind t.0)

-- a batch with the wire version that it is spelled in
abbrev pub versioned_body : WireVersion × BatchFields → List ℕ
versioned_body x = batch_body x.0 x.1

abbrev pub VersionedHolds : WireVersion × BatchFields → Type 0
VersionedHolds x = BatchHolds x.1

pub batch_takes : TakesEach batch_at versioned_body VersionedHolds
unfolding batch_at batch_body
batch_takes bytes x fits e =
    let b = bind_ok (batch_kind_at bytes) (λ kind. fields_at kind.0 kind.1
    >>= λ batch. Ok ((kind.0, batch.0), batch.1)) x e in
    let d = bind_ok (fields_at b.0.0 b.0.1) (λ batch. Ok ((b.0.0, batch.0), batch.1)) x b.2 in
    let kind = version_takes_kind bytes b.0 fits b.1 in
    let fields = fields_take b.0.0 b.0.1 d.0 kind.rest_fits d.1 in
    let made : (WireVersion × BatchFields) × List ℕ = ((b.0.0, d.0.0), d.0.1) in
    let entire : Takes bytes (batch_body b.0.0 d.0.0) d.0.1 = Takes-then kind fields.0 in
    subst (λ (p : (WireVersion × BatchFields) × List ℕ). Takes bytes (versioned_body p.0) p.1
    × VersionedHolds p.0)
    (ok_is made x d.2) (entire, fields.1)
