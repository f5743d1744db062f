-- Values with the same fields are one: the facts that their types carry have one proof each.
use Rattle.std.proofs.Common.{◌≡◌, ◌≢◌, ◌≤◌, ℕ, ℤ, pos, ◌≤ℤ◌, List, [], length, ap}
use Rattle.std.specs.Coded.{le_prop, Coded-set, coded_list, coded_ℕ}
use lib.Dec.{T_prop}
use mathlib.Core.HLevel.{is_prop→PathP}
use Rattle.keyspace.specs.declared.batch.Batch.{Batch}
use Rattle.keyspace.specs.declared.reply.Verdict.{Verdict}
use Rattle.keyspace.specs.declared.reply.Verdict.TheVariants.{Conflict}
use Rattle.keyspace.specs.declared.reply.Entry.{Entry}
use Rattle.keyspace.specs.declared.reply.Reply.{Reply}
use Rattle.keyspace.proofs.callers.SameFields.{same_batch as same_value, same_list}
use Rattle.wire.specs.Fields.{BatchFields, batch_fields, EntryFields, entry_fields, ReplyFields, reply_fields}

le_int_prop : (a b : ℤ) → IsProp (a ≤ℤ b)
le_int_prop a b = hlevel T_prop

few_prop : (n limit : ℕ) → IsProp (n ≤ limit)
few_prop n limit = hlevel le_prop

pub same_batch : (a b : Batch) → batch_fields a ≡ batch_fields b → a ≡ b
same_batch a b e =
    same_value a b (ap (λ (x : BatchFields). x.previous) e) (ap (λ (x : BatchFields). x.version) e)
    (ap (λ (x : BatchFields). x.received) e) (ap (λ (x : BatchFields). x.txns) e)

only_conflict_prop : (verdict : Verdict) (places : List ℕ) → IsProp (verdict ≢ Conflict → places ≡ [])
only_conflict_prop verdict places = hlevel (Coded-set (coded_list coded_ℕ))

same_entry : (a b : Entry) → entry_fields a ≡ entry_fields b → a ≡ b
same_entry a b e =
    let verdict = ap (λ (x : EntryFields). x.verdict) e in
    let places = ap (λ (x : EntryFields). x.places) e in
    λ i. record {
      verdict = verdict i;
      places = places i;
      only_conflict = is_prop→PathP (λ j. verdict j ≢ Conflict
          → places j ≡ []) (λ j. only_conflict_prop (verdict j) (places j)) a.only_conflict b.only_conflict i;
    }

pub same_reply : (a b : Reply) → reply_fields a ≡ reply_fields b → a ≡ b
same_reply a b e =
    let version = ap (λ (x : ReplyFields). x.version) e in
    let entries = same_list entry_fields same_entry a.entries b.entries
    (ap (λ (x : ReplyFields). x.entries) e) in
    λ i. record {
      version = version i;
      entries = entries i;
      natural = is_prop→PathP (λ j. pos 0 ≤ℤ version j)
          (λ j. le_int_prop (pos 0) (version j)) a.natural b.natural i;
      few = is_prop→PathP (λ j. length (entries j) ≤ 4096)
          (λ j. few_prop (length (entries j)) 4096) a.few b.few i;
    }
