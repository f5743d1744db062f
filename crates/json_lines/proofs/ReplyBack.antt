-- What is written of a reply reads back.
use Rattle.std.proofs.Common.{◌≡◌, ◌≢◌, ℕ, pos, ◌+◌, ◌≤◌, true, ◌&&◌, ltb, leb, List, [], ◌∷◌, map, Option, Some, refl, sym, ap, ◌∙◌, arith, w64}
use Rattle.std.specs.Int.RustNames.{FitsSigned}
use Rattle.std.proofs.lemmas.Bool.{and_from, lt-ltb, le-leb}
use Rattle.json.specs.Json.{Json}
use Rattle.json.specs.Tree.{items_depth, ItemsHaveNumbers}
use Rattle.json.specs.Value.{items_of}
use Rattle.json.proofs.Printed.Decimals.{IsNumber-decimal}
use Rattle.json.proofs.Printed.Trees.{document-print}
use Rattle.keyspace.specs.declared.reply.Verdict.{Verdict}
use Rattle.keyspace.specs.declared.reply.Verdict.TheVariants.{Conflict, TooOld, Committed}
use Rattle.wire.specs.Fields.{EntryFields, ReplyFields}
use Rattle.wire.specs.Spelling.{EntryHolds, ReplyHolds}
use Rattle.wire.proofs.callers.Numbers.{at_least}
use Rattle.wire.proofs.callers.Places.{RiseFrom, rise}
use Rattle.json_lines.specs.Values.{◌>>=◌, are_among}
use Rattle.json_lines.specs.Replies.{rising, report_in, entry_in, reply_members, reply_in, reply_of}
use Rattle.json_lines.specs.Written.{place_json, report_json, entry_with, entry_json, reply_json, reply_line}
use Rattle.json_lines.proofs.ReadBack.{integer_again, list_again, Fine, all_fine, number_fine}

rising_again : (least : ℕ) (ps : List ℕ) → RiseFrom least ps → rising least (items_of (map place_json ps)) ≡ Some ps
unfolding rising
rising_again least [] h = refl
rising_again least (p ∷ ps) h =
    let fits : FitsSigned w64 (pos p) = record { sfits = omega (arith, h.1) } in
    let test : (leb least p && ltb p 1024) ≡ true = and_from _ _ (le-leb least p h.0) (lt-ltb p 1024 h.1) in
    rw (integer_again (pos p) fits, test, rising_again (p + 1) ps h.2) refl

-- a report is that of a conflict
is_conflict : (v : Verdict) (p : ℕ) (ps : List ℕ) → (v ≢ Conflict → (p ∷ ps) ≡ []) → v ≡ Conflict
is_conflict Conflict p ps h = refl
is_conflict TooOld p ps h = let none : (p ∷ ps) ≡ [] = h (λ e. absurd cc) in absurd cc
is_conflict Committed p ps h = let none : (p ∷ ps) ≡ [] = h (λ e. absurd cc) in absurd cc

word_again : (v : Verdict) → entry_in (entry_with v []) ≡ Some (record { verdict = v; places = [] })
word_again Conflict = refl
word_again TooOld = refl
word_again Committed = refl

report_again : (p : ℕ) (ps : List ℕ) → RiseFrom 0 (p ∷ ps)
    → entry_in (report_json (p ∷ ps)) ≡ Some (record { verdict = Conflict; places = p ∷ ps })
unfolding report_in are_among
report_again p ps h = rw (rising_again 0 (p ∷ ps) h) refl

with_again : (v : Verdict) (ps : List ℕ) → (v ≢ Conflict → ps ≡ []) → RiseFrom 0 ps
    → entry_in (entry_with v ps) ≡ Some (record { verdict = v; places = ps })
with_again v [] only h = word_again v
with_again v (p ∷ ps) only h =
    report_again p ps h ∙ ap (λ (u : Verdict). Some (record { verdict = u; places = p ∷ ps })) (sym (is_conflict v p ps only))

entry_again : (entry : EntryFields) → EntryHolds entry → entry_in (entry_json entry) ≡ Some entry
unfolding entry_json
entry_again entry holds = with_again entry.verdict entry.places holds.only_conflict (rise entry.places holds.places)

reply_again : (reply : ReplyFields) → ReplyHolds reply → reply_in (reply_json reply) ≡ Some reply
unfolding reply_in reply_members reply_json are_among
reply_again reply holds =
    rw (
      integer_again reply.version holds.version_fits,
      list_again entry_in entry_json EntryHolds 4096 entry_again reply.entries holds.entries holds.few,
      at_least (pos 0) reply.version holds.version,
    ) refl

places_fine : (least : ℕ) (ps : List ℕ) → RiseFrom least ps
    → ItemsHaveNumbers (items_of (map place_json ps)) × (items_depth (items_of (map place_json ps)) ≤ 0)
places_fine least [] h = (tt, omega arith)
places_fine least (p ∷ ps) h =
    let others = places_fine (p + 1) ps h.2 in
    ((IsNumber-decimal p (omega (arith, h.1)), others.0), omega (arith, others.1))

with_fine : (v : Verdict) (ps : List ℕ) → RiseFrom 0 ps → Fine 2 (entry_with v ps)
with_fine v [] h = (tt, omega arith)
with_fine v (p ∷ ps) h = let places = places_fine 0 (p ∷ ps) h in ((places.0, tt), omega (arith, places.1))

entry_fine : (entry : EntryFields) → EntryHolds entry → Fine 2 (entry_json entry)
unfolding entry_json
entry_fine entry holds = with_fine entry.verdict entry.places (rise entry.places holds.places)

reply_fine : (reply : ReplyFields) → ReplyHolds reply → Fine 4 (reply_json reply)
unfolding reply_json
reply_fine reply holds =
    let entries = all_fine entry_json EntryHolds 2 entry_fine reply.entries holds.entries in
    ((number_fine reply.version holds.version_fits, (entries.0, tt)), omega (arith, entries.1))

-- the line of a reply spells it
pub reply_line_again : (reply : ReplyFields) → ReplyHolds reply → reply_of (reply_line reply) ≡ Some reply
reply_line_again reply holds =
    let fine = reply_fine reply holds in
    ap (λ (o : Option Json). o >>= reply_in) (document-print (reply_json reply) fine.0 (omega (arith, fine.1)))
    ∙ reply_again reply holds
