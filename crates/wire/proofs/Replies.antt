-- The frame that is read spells its reply, and what spells a reply is read again.
use Rattle.std.proofs.Common.{◌≡◌, ◌≢◌, ℕ, pos, zero, suc, ◌+◌, ◌^◌, ◌<◌, ◌≤◌, int_le, List, [], ◌∷◌, ◌++◌, length, take, Result, Ok, Err, refl, sym, ap, subst, ◌∙◌, append_assoc, arith}
use Rattle.std.specs.Prelude.{IfOk}
use Rattle.std.specs.List.{flat_map}
use Rattle.std.proofs.lemmas.List.{nil_from_length}
use Rattle.byteorder.specs.Endian.{big_bytes, big_number}
use Rattle.keyspace.specs.declared.reply.Verdict.{Verdict}
use Rattle.keyspace.specs.declared.reply.Verdict.TheVariants.{Conflict, TooOld, Committed}
use Rattle.keyspace.specs.declared.reply.Reply.{Reply}
use Rattle.wire.specs.declared.error.WireError.{WireError}
use Rattle.wire.specs.Fields.{EntryFields, ReplyFields, reply_fields}
use Rattle.wire.specs.Spelling.{signed_text, verdict_text, places_text, entry_text, reply_body, frame, IsShort, EntryHolds, ReplyHolds, SpellsReply}
use Rattle.wire.specs.Reading.{◌>>=◌, Gives, number_at, version_at, count_at, kind_at, many_at, verdict_of, verdict_at, most_places, places_at, entry_at, reply_at, body_at, all_of, read_reply}
use Rattle.wire.proofs.Steps.{bind_ok, ok_is}
use Rattle.wire.proofs.Taken.{AreBytes, Takes, Takes-then, back_1, number_takes, version_takes}
use Rattle.wire.proofs.Parts.{at_most, count_takes, kind_takes, many_take}
use Rattle.wire.proofs.BatchFrames.{body_is_at, all_taken}
use Rattle.wire.proofs.Again.{number_again, version_again, count_again, kind_again, many_again, at_least, body_again, all_again}
use Rattle.wire.proofs.PlaceLists.{are_places, rise, places_take, places_again}

verdict_spelled : (n : ℕ) (verdict : Verdict) → verdict_of n ≡ Ok verdict
    → big_bytes 1 n ≡ verdict_text verdict
verdict_spelled zero verdict e = subst (λ (v : Verdict). 0 ∷ [] ≡ verdict_text v)
    (ok_is Conflict verdict e) refl
verdict_spelled (suc zero) verdict e = subst (λ (v : Verdict). 1 ∷ [] ≡ verdict_text v)
    (ok_is TooOld verdict e) refl
verdict_spelled (suc (suc zero)) verdict e = subst (λ (v : Verdict). 2 ∷ [] ≡ verdict_text v)
    (ok_is Committed verdict e) refl
verdict_spelled (suc (suc (suc n))) verdict e = absurd cc

verdict_takes : (bytes : List ℕ) (x : Verdict × List ℕ) → AreBytes bytes → verdict_at bytes ≡ Ok x
    → Takes bytes (verdict_text x.0) x.1
unfolding verdict_at
verdict_takes bytes x fits e =
    let b = bind_ok (number_at 1 bytes) (λ n. verdict_of n.0 >>= λ verdict. Ok (verdict, n.1)) x e in
    let d = bind_ok (verdict_of b.0.0) (λ verdict. Ok (verdict, b.0.1)) x b.2 in
    let t = number_takes 1 back_1 bytes b.0.0 b.0.1 fits b.1 in
    let found : Takes bytes (verdict_text d.0) b.0.1 =
    subst (λ (text : List ℕ). Takes bytes text b.0.1) (verdict_spelled b.0.0 d.0 d.1) t.0 in
    subst (λ (p : Verdict × List ℕ). Takes bytes (verdict_text p.0) p.1) (ok_is (d.0, b.0.1) x d.2) found

verdict_again : (verdict : Verdict) (rest : List ℕ)
    → verdict_at (verdict_text verdict ++ rest) ≡ Ok (verdict, rest)
unfolding verdict_at
verdict_again Conflict rest = rw (number_again 1 0 rest (omega arith)) refl
verdict_again TooOld rest = rw (number_again 1 1 rest (omega arith)) refl
verdict_again Committed rest = rw (number_again 1 2 rest (omega arith)) refl

few_of : (verdict : Verdict) (n : ℕ) → n ≤ most_places verdict → n ≤ 1024
few_of Conflict n h = h
few_of TooOld n h = omega arith
few_of Committed n h = omega arith

none_of : (verdict : Verdict) (places : List ℕ) → length places ≤ most_places verdict → verdict ≢ Conflict
    → places ≡ []
none_of Conflict places h other = absurd (other refl)
none_of TooOld places h other = nil_from_length places (omega arith)
none_of Committed places h other = nil_from_length places (omega arith)

entry_takes : (bytes : List ℕ) (x : EntryFields × List ℕ) → AreBytes bytes → entry_at bytes ≡ Ok x
    → Takes bytes (entry_text x.0) x.1 × EntryHolds x.0
unfolding entry_at entry_text
entry_takes bytes x fits e =
    let b_verdict = bind_ok (verdict_at bytes) (λ verdict. count_at (most_places verdict.0) verdict.1
    >>= λ count. places_at 0 count.0 count.1
    >>= λ places. Ok (record { verdict = verdict.0; places = places.0 }, places.1)) x e in
    let b_count = bind_ok (count_at (most_places b_verdict.0.0) b_verdict.0.1)
    (λ count. places_at 0 count.0 count.1 >>= λ places. Ok
    (record { verdict = b_verdict.0.0; places = places.0 }, places.1)) x b_verdict.2 in
    let b_places = bind_ok (places_at 0 b_count.0.0 b_count.0.1)
    (λ places. Ok (record { verdict = b_verdict.0.0; places = places.0 }, places.1)) x b_count.2 in
    let made : EntryFields × List ℕ = (
      record { verdict = b_verdict.0.0; places = b_places.0.0 },
      b_places.0.1,
    ) in
    let verdict = verdict_takes bytes b_verdict.0 fits b_verdict.1 in
    let count = count_takes (most_places b_verdict.0.0) b_verdict.0.1 b_count.0 verdict.rest_fits b_count.1 in
    let places = places_take b_count.0.0 0 b_count.0.1 b_places.0 count.0.rest_fits b_places.1 in
    let listed : Takes b_verdict.0.1 (big_bytes 2
    (length b_places.0.0) ++ places_text b_places.0.0) b_places.0.1 =
    rw places.1 (Takes-then count.0 places.0) in
    let entire : Takes bytes (entry_text made.0) made.1 = Takes-then verdict listed in
    let most : length b_places.0.0 ≤ most_places b_verdict.0.0 = rw places.1 count.1 in
    let holds : EntryHolds made.0 = record {
      few = few_of b_verdict.0.0 (length b_places.0.0) most;
      only_conflict = none_of b_verdict.0.0 b_places.0.0 most;
      places =
          are_places b_places.0.0 places.2;
    } in
    subst (λ (p : EntryFields × List ℕ). Takes bytes (entry_text p.0) p.1 × EntryHolds p.0)
    (ok_is made x b_places.2) (entire, holds)

most_of : (verdict : Verdict) (places : List ℕ) → length places ≤ 1024 → (verdict ≢ Conflict → places ≡ [])
    → length places ≤ most_places verdict
most_of Conflict places few none = few
most_of TooOld places few none = let empty : places ≡ [] = none (λ e. cc) in rw empty (omega arith)
most_of Committed places few none = let empty : places ≡ [] = none (λ e. cc) in rw empty (omega arith)

entry_again : (entry : EntryFields) (rest : List ℕ) → EntryHolds entry
    → entry_at (entry_text entry ++ rest) ≡ Ok (entry, rest)
unfolding entry_at entry_text
entry_again entry rest holds =
    let verdict = verdict_text entry.verdict in
    let count = big_bytes 2 (length entry.places) in
    let places = places_text entry.places in
    let regrouped : entry_text entry ++ rest ≡ verdict ++ (count ++ (places ++ rest)) =
    append_assoc verdict (count ++ places) rest
    ∙ ap (λ (x : List ℕ). verdict ++ x) (append_assoc count places rest) in
    let most = most_of entry.verdict entry.places holds.few holds.only_conflict in
    let low : most_places entry.verdict < 256 ^ 2 = let bound =
    few_of entry.verdict (most_places entry.verdict) (omega arith) in omega arith in
    ap entry_at regrouped
    ∙ rw (
      verdict_again entry.verdict (count ++ (places ++ rest)),
      count_again (most_places entry.verdict) (length entry.places) (places ++ rest) most low,
      places_again 0 entry.places rest (rise entry.places holds.places),
    ) refl

pub reply_takes : (bytes : List ℕ) (x : ReplyFields × List ℕ) → AreBytes bytes → reply_at bytes ≡ Ok x
    → Takes bytes (reply_body x.0) x.1 × ReplyHolds x.0
unfolding reply_at reply_body
reply_takes bytes x fits e =
    let b_rest = bind_ok (kind_at 2 bytes) (λ rest. version_at (λ v. int_le (pos 0) v) rest
    >>= λ version. count_at 4096 version.1 >>= λ count. many_at entry_at count.0 count.1
    >>= λ entries. Ok (record { version = version.0; entries = entries.0 }, entries.1)) x e in
    let b_version = bind_ok (version_at (λ v. int_le (pos 0) v) b_rest.0) (λ version. count_at 4096 version.1
    >>= λ count. many_at entry_at count.0 count.1
    >>= λ entries. Ok (record { version = version.0; entries = entries.0 }, entries.1)) x b_rest.2 in
    let b_count = bind_ok (count_at 4096 b_version.0.1) (λ count. many_at entry_at count.0 count.1
    >>= λ entries. Ok (
      record { version = b_version.0.0; entries = entries.0 },
      entries.1,
    )) x b_version.2 in
    let b_entries = bind_ok (many_at entry_at b_count.0.0 b_count.0.1)
    (λ entries. Ok (record { version = b_version.0.0; entries = entries.0 }, entries.1)) x b_count.2 in
    let made : ReplyFields × List ℕ = (
      record { version = b_version.0.0; entries = b_entries.0.0 },
      b_entries.0.1,
    ) in
    let kind = kind_takes 2 bytes b_rest.0 fits b_rest.1 in
    let version = version_takes (λ v. int_le (pos 0) v) b_rest.0 b_version.0 kind.rest_fits b_version.1 in
    let count = count_takes 4096 b_version.0.1 b_count.0 version.0.rest_fits b_count.1 in
    let entries = many_take entry_at entry_text EntryHolds entry_takes b_count.0.0 b_count.0.1 b_entries.0
    count.0.rest_fits b_entries.1 in
    let listed : Takes b_version.0.1 (big_bytes 2
    (length b_entries.0.0) ++ flat_map entry_text b_entries.0.0) b_entries.0.1 =
    rw entries.1 (Takes-then count.0 entries.0) in
    let entire : Takes bytes (reply_body made.0) made.1 = Takes-then kind (Takes-then version.0 listed) in
    let holds : ReplyHolds made.0 = record {
      version_fits = version.1;
      version = at_most _ _ version.2;
      few = rw entries.1 count.1;
      entries = entries.2;
    } in
    subst (λ (p : ReplyFields × List ℕ). Takes bytes (reply_body p.0) p.1 × ReplyHolds p.0)
    (ok_is made x b_entries.2) (entire, holds)

reply_again : (reply : ReplyFields) (rest : List ℕ) → ReplyHolds reply
    → reply_at (reply_body reply ++ rest) ≡ Ok (reply, rest)
unfolding reply_at reply_body
reply_again reply rest holds =
    let version = signed_text reply.version in
    let count = big_bytes 2 (length reply.entries) in
    let entries = flat_map entry_text reply.entries in
    let regrouped : reply_body reply ++ rest ≡ 2 ∷ (version ++ (count ++ (entries ++ rest))) =
    ap (λ (x : List ℕ). 2 ∷ x) (append_assoc version (count ++ entries) rest
    ∙ ap (λ (x : List ℕ). version ++ x) (append_assoc count entries rest)) in
    ap reply_at regrouped
    ∙ rw (
      kind_again 2 (version ++ (count ++ (entries ++ rest))) (omega arith),
      version_again (λ v. int_le (pos 0) v) reply.version (count ++ (entries ++ rest)) holds.version_fits
          (at_least _ _ holds.version),
      count_again 4096 (length reply.entries) (entries ++ rest) holds.few (omega arith),
      many_again entry_at entry_text EntryHolds entry_again reply.entries rest holds.entries,
    ) refl

pub reply_frame_again : (reply : ReplyFields) (rest : List ℕ) → ReplyHolds reply → IsShort (reply_body reply)
    → read_reply (frame (reply_body reply) ++ rest) ≡ Ok reply
unfolding read_reply
reply_frame_again reply rest holds short =
    rw (
      body_again (reply_body reply) rest short,
      all_again reply_at reply_body ReplyHolds reply_again reply holds,
    ) refl

reply_is_spelled : (bytes : List ℕ) (reply : Reply) (n : ℕ) → AreBytes bytes
    → read_reply bytes ≡ Ok (reply_fields reply) → n ≡ 4 + big_number 4 bytes
    → SpellsReply (take n bytes) reply × (n ≤ length bytes)
unfolding read_reply
reply_is_spelled bytes reply n fits e n-is =
    let fields = reply_fields reply in
    let b = bind_ok (body_at bytes) (λ body. all_of (reply_at body)) fields e in
    let at = body_is_at bytes b.0 fits b.1 in
    let taken = all_taken reply_at reply_body ReplyHolds reply_takes b.0 fields at.fits b.2 in
    let same : n ≡ 4 + length b.0 = n-is ∙ ap (λ (l : ℕ). 4 + l) (sym at.len) in (
      record {
        text = ap (λ (l : ℕ). take l bytes) same ∙ at.front ∙ ap frame taken.0;
        holds = taken.1;
        short = subst IsShort taken.0 at.short;
      },
      rw same at.within,
    )

pub reply_decoded : (bytes : List ℕ) (r : Result (Reply × ℕ) WireError) → AreBytes bytes
    → Gives (λ x. reply_fields x.0) r (read_reply bytes) → IfOk r (λ x. x.1 ≡ 4 + big_number 4 bytes)
    → IfOk r (λ found. SpellsReply (take found.1 bytes) found.0) × IfOk r (λ found. found.1 ≤ length bytes)
reply_decoded bytes (Ok found) fits e used = reply_is_spelled bytes found.0 found.1 fits e used
reply_decoded bytes (Err d) fits e used = (tt, tt)
