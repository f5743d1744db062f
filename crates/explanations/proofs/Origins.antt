-- The committed writes with their origins: those of one transaction more, their versions, and that they are the writes of the reference
-- resolver.
use Rattle.std.proofs.Common.{◌≡◌, ℕ, zero, suc, ◌+◌, List, [], ◌∷◌, ◌++◌, map, take, refl, sym, ap, ◌∙◌, append_assoc, append-nil, arith}
use Rattle.std.specs.Prelude.{ℤ, All, Some, slice_get}
use Rattle.std.proofs.lemmas.List.{map-append}
use Rattle.std.proofs.lemmas.List.Elements.{All-nil, All-append, All-head, All-tail, All-map}
use Rattle.keys.specs.declared.range.Range.{Range}
use Rattle.keyspace.specs.declared.txn.Txn.{Txn}
use Rattle.keyspace.specs.declared.reply.Entry.{Entry}
use Rattle.keyspace.specs.Processed.{Processed}
use Rattle.keyspace.specs.Writes.{Write, writes, writes_of, at_version, committed_ranges, counted_ranges}
use Rattle.explanations.specs.Written.{Written, written_by, written_from, written_in, all_written}

abbrev pub written_at : ℕ → ℤ → ℕ → Range → Written
written_at proxy version txn range = record { proxy = proxy; version = version; txn = txn; range = range }

abbrev pub write_at : ℤ → Range → Write
write_at version range = record { range = range; version = version }

abbrev pub without_origin : Written → Write
without_origin w = record { range = w.range; version = w.version }

same_by : (proxy : ℕ) (version : ℤ) (txn : ℕ) (ranges : List Range)
    → map without_origin (written_by proxy version txn ranges) ≡ at_version version ranges
same_by proxy version txn [] = refl
same_by proxy version txn (range ∷ ranges) = ap (λ ws. write_at version range ∷ ws) (same_by proxy version txn ranges)

same_from : (proxy : ℕ) (version : ℤ) (txn : ℕ) (ts : List Txn) (es : List Entry)
    → map without_origin (written_from proxy version txn ts es) ≡ at_version version (committed_ranges ts es)
same_from proxy version txn [] es = refl
same_from proxy version txn (t ∷ ts) [] = refl
same_from proxy version txn (t ∷ ts) (e ∷ es) =
    let own = counted_ranges e.verdict t.writes in
    map-append without_origin (written_by proxy version txn own) (written_from proxy version (txn + 1) ts es)
    ∙ ap (λ ws. ws ++ map without_origin (written_from proxy version (txn + 1) ts es)) (same_by proxy version txn own)
    ∙ ap (λ ws. at_version version own ++ ws) (same_from proxy version (txn + 1) ts es)
    ∙ sym (map-append (write_at version) own (committed_ranges ts es))

pub same_writes : (ps : List Processed) → map without_origin (all_written ps) ≡ writes ps
same_writes [] = refl
same_writes (p ∷ ps) =
    map-append without_origin (written_in p) (all_written ps)
    ∙ ap (λ ws. ws ++ map without_origin (all_written ps)) (same_from p.proxy p.batch.version 0 p.batch.txns p.reply.entries)
    ∙ ap (λ ws. writes_of p.batch p.reply ++ ws) (same_writes ps)

-- what holds of its version
abbrev pub IsWrittenAt : (ℤ → Type 0) → Written → Type 0
IsWrittenAt P w = P w.version

abbrev pub IsProcessedAt : (ℤ → Type 0) → Processed → Type 0
IsProcessedAt P p = P p.batch.version

from_at : (P : ℤ → Type 0) (proxy : ℕ) (version : ℤ) (txn : ℕ) (ts : List Txn) (es : List Entry) → P version
    → All (IsWrittenAt P) (written_from proxy version txn ts es)
from_at P proxy version txn [] es h = All-nil (IsWrittenAt P)
from_at P proxy version txn (t ∷ ts) [] h = All-nil (IsWrittenAt P)
from_at P proxy version txn (t ∷ ts) (e ∷ es) h =
    let own = counted_ranges e.verdict t.writes in
    All-append (IsWrittenAt P) (written_by proxy version txn own) (written_from proxy version (txn + 1) ts es)
    (All-map (IsWrittenAt P) (written_at proxy version txn) own (λ k d l. h))
    (from_at P proxy version (txn + 1) ts es h)

-- the writes of a batch have its version
pub in_at : (P : ℤ → Type 0) (p : Processed) → P p.batch.version → All (IsWrittenAt P) (written_in p)
in_at P p h = from_at P p.proxy p.batch.version 0 p.batch.txns p.reply.entries h

pub all_at : (P : ℤ → Type 0) (ps : List Processed) → All (IsProcessedAt P) ps → All (IsWrittenAt P) (all_written ps)
all_at P [] h = All-nil (IsWrittenAt P)
all_at P (p ∷ ps) h =
    All-append (IsWrittenAt P) (written_in p) (all_written ps) (in_at P p (All-head (IsProcessedAt P) p ps h))
    (all_at P ps (All-tail (IsProcessedAt P) p ps h))

more_from : (proxy : ℕ) (version : ℤ) (first last : ℕ) (ts : List Txn) (es : List Entry) (n : ℕ) (t : Txn) (e : Entry)
    → last ≡ first + n → slice_get ts n ≡ Some t → slice_get es n ≡ Some e
    → written_from proxy version first (take (suc n) ts) (take (suc n) es)
    ≡ written_from proxy version first (take n ts) (take n es) ++ written_by proxy version last (counted_ranges e.verdict t.writes)
more_from proxy version first last [] es n t e same at_t at_e = absurd cc
more_from proxy version first last (s ∷ ts) [] n t e same at_t at_e = absurd cc
more_from proxy version first last (s ∷ ts) (f ∷ es) zero t e same at_t at_e =
    let same_t : s ≡ t = cc in
    let same_e : f ≡ e = cc in
    let same_txn : first ≡ last = omega arith in
    append-nil (written_by proxy version first (counted_ranges f.verdict s.writes))
    ∙ ap (λ (txn : ℕ). written_by proxy version txn (counted_ranges f.verdict s.writes)) same_txn
    ∙ ap (λ (x : Entry). written_by proxy version last (counted_ranges x.verdict s.writes)) same_e
    ∙ ap (λ (x : Txn). written_by proxy version last (counted_ranges e.verdict x.writes)) same_t
more_from proxy version first last (s ∷ ts) (f ∷ es) (suc n) t e same at_t at_e =
    let own = written_by proxy version first (counted_ranges f.verdict s.writes) in
    ap (λ ws. own ++ ws) (more_from proxy version (first + 1) last ts es n t e (omega arith) at_t at_e)
    ∙ sym (append_assoc own (written_from proxy version (first + 1) (take n ts) (take n es))
    (written_by proxy version last (counted_ranges e.verdict t.writes)))

-- the writes of a transaction more
pub written_more : (proxy : ℕ) (version : ℤ) (ts : List Txn) (es : List Entry) (n : ℕ) (t : Txn) (e : Entry)
    → slice_get ts n ≡ Some t → slice_get es n ≡ Some e
    → written_from proxy version 0 (take (n + 1) ts) (take (n + 1) es)
    ≡ written_from proxy version 0 (take n ts) (take n es) ++ written_by proxy version n (counted_ranges e.verdict t.writes)
written_more proxy version ts es n t e at_t at_e =
    let next : n + 1 ≡ suc n = omega arith in
    ap (λ k. written_from proxy version 0 (take k ts) (take k es)) next
    ∙ more_from proxy version 0 n ts es n t e (omega arith) at_t at_e
