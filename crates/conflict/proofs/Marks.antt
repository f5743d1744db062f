-- The marks of what a batch writes.
use Rattle.std.proofs.Common.{◌≡◌, ℕ, zero, suc, ◌+◌, ◌-◌, ◌<◌, ◌≤◌, Bool, true, false, cond, List, [], ◌∷◌, ◌++◌, length, get_or, take, drop, replicate, refl, sym, ap, subst, ◌∙◌, arith}
use Rattle.std.specs.List.{AllZip}
use Rattle.std.proofs.lemmas.List.{append_assoc, drop-drop, drop_at, flat_map_more, length-append, length-drop, length-replicate, length-take, length-take-le, replicate-append-replicate, take-append-drop, take_all, take_at, take_more}
use Rattle.std.proofs.lemmas.List.Folds.{length-flat_map-take}
use Rattle.keys.specs.declared.range.Range.{Range}
use Rattle.keys.proofs.callers.Picked.{picked-append, picked-replicate}
use Rattle.keyspace.specs.declared.reply.Verdict.{Verdict}
use Rattle.keyspace.specs.declared.reply.Verdict.TheVariants.{Conflict, TooOld, Committed}
use Rattle.keyspace.specs.declared.txn.Txn.{Txn}
use Rattle.keyspace.specs.declared.reply.Entry.{Entry}
use Rattle.keyspace.specs.Writes.{counted_ranges, committed_ranges}
use Rattle.keyspace.specs.storage.BatchRanges.{marks_of_txn, ranges_in, ranges_of_txn, write_marks}
use Rattle.conflict.specs.Union.{marked_ranges}
use Rattle.conflict.proofs.JudgedTo.{committed_push}

-- whether the writes of the verdict count
abbrev pub counts : Verdict → Bool
counts Committed = true
counts TooOld = false
counts Conflict = false

counted_if : (verdict : Verdict) (ranges : List Range) → cond (counts verdict) ranges [] ≡ counted_ranges verdict ranges
counted_if Committed ranges = refl
counted_if TooOld ranges = refl
counted_if Conflict ranges = refl

-- the marks of the ranges of one transaction
abbrev pub own_marks : Txn → Entry → List Bool
own_marks t e = replicate (length t.reads) false ++ replicate (length t.writes) (counts e.verdict)

own_count : (t : Txn) (e : Entry) → length (own_marks t e) ≡ length (ranges_of_txn t)
own_count t e = omega (
  arith,
  length-append (replicate (length t.reads) false) (replicate (length t.writes) (counts e.verdict)),
  length-replicate (length t.reads) false,
  length-replicate (length t.writes) (counts e.verdict),
  length-append t.reads t.writes,
)

own_picked : (t : Txn) (e : Entry) → marked_ranges (own_marks t e) (ranges_of_txn t) ≡ counted_ranges e.verdict t.writes
own_picked t e =
    picked-append (replicate (length t.reads) false) (replicate (length t.writes) (counts e.verdict)) t.reads t.writes
    (length-replicate (length t.reads) false)
    ∙ ap (λ rs. rs ++ marked_ranges (replicate (length t.writes) (counts e.verdict)) t.writes) (picked-replicate false t.reads)
    ∙ picked-replicate (counts e.verdict) t.writes
    ∙ counted_if e.verdict t.writes

-- what is marked as written is a write range
abbrev Determines : Bool → Bool → Type 0
Determines mark is_write = mark ≡ true → is_write ≡ true

determine-append : (marks more writes others : List Bool) → AllZip Determines marks writes → AllZip Determines more others
    → AllZip Determines (marks ++ more) (writes ++ others)
determine-append [] more [] others first second = second
determine-append [] more (w ∷ writes) others first second = absurd first
determine-append (m ∷ marks) more [] others first second = absurd first
determine-append (m ∷ marks) more (w ∷ writes) others first second =
    (first.0, determine-append marks more writes others first.1 second)

-- all are write ranges, or none is
determine-replicate : (n : ℕ) (mark is_write : Bool) → Determines mark is_write → AllZip Determines (replicate n mark) (replicate n is_write)
determine-replicate zero mark is_write determines = tt
determine-replicate (suc n) mark is_write determines = (determines, determine-replicate n mark is_write determines)

own_determine : (t : Txn) (e : Entry) → AllZip Determines (own_marks t e) (marks_of_txn t)
own_determine t e =
    determine-append (replicate (length t.reads) false) (replicate (length t.writes) (counts e.verdict))
    (replicate (length t.reads) false) (replicate (length t.writes) true)
    (determine-replicate (length t.reads) false false (λ same. same))
    (determine-replicate (length t.writes) (counts e.verdict) true (λ _. refl))

-- by the index
pub determined_at : (marks writes : List Bool) → AllZip Determines marks writes → (index : ℕ) → get_or marks index false ≡ true
    → get_or writes index false ≡ true
determined_at [] [] all index marked = cc
determined_at [] (w ∷ writes) all index marked = absurd all
determined_at (m ∷ marks) [] all index marked = absurd all
determined_at (m ∷ marks) (w ∷ writes) all zero marked = all.0 marked
determined_at (m ∷ marks) (w ∷ writes) all (suc index) marked = determined_at marks writes all.1 index marked

-- The marks are those of the ranges of the first transactions.
pub record AreMarksOf (marks : List Bool) (txns : List Txn) (entries : List Entry) : Type 0 where
  pub written : marked_ranges marks (ranges_in txns) ≡ committed_ranges txns entries
  pub count : length marks ≡ length (ranges_in txns)
  pub determine : AllZip Determines marks (write_marks txns)

marks_push : (marks : List Bool) (ts : List Txn) (es : List Entry) (t : Txn) (e : Entry) → length ts ≡ length es
    → AreMarksOf marks ts es → AreMarksOf (marks ++ own_marks t e) (ts ++ t ∷ []) (es ++ e ∷ [])
marks_push marks ts es t e same were =
    let more : ranges_in ts ++ ranges_of_txn t ≡ ranges_in (ts ++ t ∷ []) = flat_map_more ranges_of_txn [] ts t in
    record {
      written = ap (marked_ranges (marks ++ own_marks t e)) (sym more)
          ∙ picked-append marks (own_marks t e) (ranges_in ts) (ranges_of_txn t) were.count
          ∙ ap (λ rs. rs ++ marked_ranges (own_marks t e) (ranges_of_txn t)) were.written
          ∙ ap (λ rs. committed_ranges ts es ++ rs) (own_picked t e)
          ∙ sym (committed_push ts es t e same);
      count = omega (
        arith,
        ap length more,
        length-append marks (own_marks t e),
        own_count t e,
        length-append (ranges_in ts) (ranges_of_txn t),
        were.count,
      );
      determine = subst (AllZip Determines (marks ++ own_marks t e)) (flat_map_more marks_of_txn [] ts t)
          (determine-append marks (own_marks t e) (write_marks ts) (marks_of_txn t) were.determine (own_determine t e));
    }

-- so are those of one transaction more
pub marks_next : (marks new : List Bool) (txns : List Txn) (entries : List Entry) (i : ℕ) (t : Txn) (e : Entry)
    → i < length txns → length entries ≡ length txns → t ≡ get_or txns i t → e ≡ get_or entries i e
    → new ≡ marks ++ own_marks t e → AreMarksOf marks (take i txns) (take i entries)
    → AreMarksOf new (take (i + 1) txns) (take (i + 1) entries)
marks_next marks new txns entries i t e inside same at_t at_e is were =
    let inside_too : i < length entries = omega (arith, inside, same) in
    let as_many : length (take i txns) ≡ length (take i entries) =
    omega (arith, length-take i txns, length-take i entries, same) in
    let pushed = marks_push marks (take i txns) (take i entries) t e as_many were in
    let ts : take i txns ++ t ∷ [] ≡ take (i + 1) txns =
    ap (λ x. take i txns ++ x ∷ []) at_t ∙ sym (take_more txns i t inside) in
    let es : take i entries ++ e ∷ [] ≡ take (i + 1) entries =
    ap (λ x. take i entries ++ x ∷ []) at_e ∙ sym (take_more entries i e inside_too) in
    subst (λ ms. AreMarksOf ms (take (i + 1) txns) (take (i + 1) entries)) (sym is)
    (subst (λ es. AreMarksOf (marks ++ own_marks t e) (take (i + 1) txns) es) es
    (subst (λ ts. AreMarksOf (marks ++ own_marks t e) ts (take i entries ++ e ∷ [])) ts pushed))

-- The marks before an end are those of the ranges of the first transactions, and no range is marked from there on.
pub record AreMarkedTo (marks : List Bool) (end : ℕ) (txns : List Txn) (entries : List Entry) (i : ℕ) : Type 0 where
  pub size : length marks ≡ length (ranges_in txns)
  pub within : end ≤ length marks
  pub front : AreMarksOf (take end marks) (take i txns) (take i entries)
  pub rest : drop end marks ≡ replicate (length marks - end) false

-- No range is marked at first.
pub marked_to-init : (marks : List Bool) (n : ℕ) (txns : List Txn) (entries : List Entry) → marks ≡ replicate n false
    → n ≡ length (ranges_in txns) → AreMarkedTo marks 0 txns entries 0
marked_to-init marks n txns entries is count =
    let size : length marks ≡ n = ap length is ∙ length-replicate n false in
    let left : n ≡ length marks - 0 = omega (arith, size) in
    record {
      size = size ∙ count;
      within = omega arith;
      front = record { written = refl; count = refl; determine = tt };
      rest = is ∙ ap (λ m. replicate m false) left;
    }

-- The ranges of the next transaction have marks.
pub marked_to-room : (marks : List Bool) (end : ℕ) (txns : List Txn) (entries : List Entry) (i : ℕ) (t : Txn) → i < length txns
    → t ≡ get_or txns i t → AreMarkedTo marks end txns entries i
    → end + length t.reads + length t.writes ≤ length marks
marked_to-room marks end txns entries i t inside at_t were = omega (
  arith,
  length-flat_map-take ranges_of_txn txns i t inside,
  ap (λ (x : Txn). length (ranges_of_txn x)) at_t,
  length-append t.reads t.writes,
  length-take-le end marks were.within,
  were.front.count,
  were.size,
)

-- Marks after an end, of which none is set, in three parts.
in_parts : (marks : List Bool) (end reads writes : ℕ) → end + reads + writes ≤ length marks
    → drop end marks ≡ replicate (length marks - end) false
    → marks ≡ (take end marks ++ replicate reads false)
    ++ (replicate writes false ++ replicate (length marks - (end + reads + writes)) false)
in_parts marks end reads writes room rest =
    let left = length marks - (end + reads + writes) in
    let sum : length marks - end ≡ reads + (writes + left) = omega (arith, room) in
    let following : drop end marks ≡ replicate reads false ++ (replicate writes false ++ replicate left false) =
    rest
    ∙ ap (λ n. replicate n false) sum
    ∙ sym (replicate-append-replicate reads (writes + left) false)
    ∙ ap (λ ms. replicate reads false ++ ms) (sym (replicate-append-replicate writes left false)) in
    sym (take-append-drop end marks)
    ∙ ap (λ ms. take end marks ++ ms) following
    ∙ sym (append_assoc (take end marks) (replicate reads false) (replicate writes false ++ replicate left false))

-- Marks of which a part is set, by the begin and the length of that part.
pub part_set : (marks part : List Bool) (begin count : ℕ) → begin + count ≤ length marks
    → part ≡ replicate (length (take (begin + count - begin) (drop begin marks))) true
    → take begin marks ++ (part ++ drop (begin + count - begin) (drop begin marks))
    ≡ take begin marks ++ (replicate count true ++ drop (begin + count) marks)
part_set marks part begin count room is =
    let own : begin + count - begin ≡ count = omega arith in
    let long : length (take (begin + count - begin) (drop begin marks)) ≡ count = omega (
      arith,
      own,
      length-take-le (begin + count - begin) (drop begin marks) (omega (arith, own, length-drop begin marks, room)),
    ) in
    ap (λ ms. take begin marks ++ (ms ++ drop (begin + count - begin) (drop begin marks))) (is ∙ ap (λ n. replicate n true) long)
    ∙ ap (λ n. take begin marks ++ (replicate count true ++ drop n (drop begin marks))) own
    ∙ ap (λ ms. take begin marks ++ (replicate count true ++ ms)) (drop-drop count begin marks)

-- The marks stay so with one transaction more, where those of its write ranges are set if it commits.
pub marked_to-next : (marks new : List Bool) (end reads writes : ℕ) (txns : List Txn) (entries : List Entry) (i : ℕ) (t : Txn)
    (e : Entry) → i < length txns → length entries ≡ length txns → t ≡ get_or txns i t → e ≡ get_or entries i e
    → reads ≡ length t.reads → writes ≡ length t.writes → AreMarkedTo marks end txns entries i
    → new ≡ cond (counts e.verdict) (take (end + reads) marks
    ++ (replicate writes true ++ drop (end + reads + writes) marks)) marks
    → AreMarkedTo new (end + reads + writes) txns entries (i + 1)
marked_to-next marks new end reads writes txns entries i t e inside same at_t at_e is_reads is_writes were is =
    let finish = end + reads + writes in
    let left = length marks - finish in
    let before = take end marks ++ replicate reads false in
    let mark = counts e.verdict in
    let room : finish ≤ length marks =
    omega (arith, marked_to-room marks end txns entries i t inside at_t were, is_reads, is_writes) in
    let parts : marks ≡ before ++ (replicate writes false ++ replicate left false) =
    in_parts marks end reads writes room were.rest in
    let long : length before ≡ end + reads = omega (
      arith,
      length-append (take end marks) (replicate reads false),
      length-take-le end marks were.within,
      length-replicate reads false,
    ) in
    let longer : length (before ++ replicate writes false) ≡ finish =
    omega (arith, length-append before (replicate writes false), long, length-replicate writes false) in
    let at_begin : take (end + reads) marks ≡ before =
    ap (take (end + reads)) parts ∙ take_at before (replicate writes false ++ replicate left false) (end + reads) long in
    let at_finish : drop finish marks ≡ replicate left false =
    ap (drop finish) (parts ∙ sym (append_assoc before (replicate writes false) (replicate left false)))
    ∙ drop_at (before ++ replicate writes false) (replicate left false) finish longer in
    let set : take (end + reads) marks ++ (replicate writes true ++ drop finish marks)
    ≡ before ++ (replicate writes true ++ replicate left false) =
    ap (λ ms. ms ++ (replicate writes true ++ drop finish marks)) at_begin
    ∙ ap (λ ms. before ++ (replicate writes true ++ ms)) at_finish in
    let either : cond mark (take (end + reads) marks ++ (replicate writes true ++ drop finish marks)) marks
    ≡ before ++ (replicate writes mark ++ replicate left false) = elim mark as (λ b.
    cond b (take (end + reads) marks ++ (replicate writes true ++ drop finish marks)) marks
    ≡ before ++ (replicate writes b ++ replicate left false)) [
      | true ↦ set
      | false ↦ parts
    ] in
    let own : replicate reads false ++ replicate writes mark ≡ own_marks t e =
    ap (λ n. replicate n false ++ replicate writes mark) is_reads
    ∙ ap (λ n. replicate (length t.reads) false ++ replicate n mark) is_writes in
    let now = take end marks ++ own_marks t e in
    let entire : new ≡ now ++ replicate left false =
    is
    ∙ either
    ∙ sym (append_assoc before (replicate writes mark) (replicate left false))
    ∙ ap (λ ms. ms ++ replicate left false) (append_assoc (take end marks) (replicate reads false) (replicate writes mark))
    ∙ ap (λ ms. take end marks ++ ms ++ replicate left false) own in
    let count : length now ≡ finish = omega (
      arith,
      length-append (take end marks) (own_marks t e),
      length-take-le end marks were.within,
      own_count t e,
      length-append t.reads t.writes,
      is_reads,
      is_writes,
    ) in
    let size : length new ≡ length marks = omega (
      arith,
      ap length entire,
      length-append now (replicate left false),
      count,
      length-replicate left false,
      room,
    ) in
    record {
      size = size ∙ were.size;
      within = omega (arith, size, room);
      front = marks_next (take end marks) (take finish new) txns entries i t e inside same at_t at_e
          (ap (take finish) entire ∙ take_at now (replicate left false) finish count) were.front;
      rest = ap (drop finish) entire
          ∙ drop_at now (replicate left false) finish count
          ∙ ap (λ n. replicate (n - finish) false) (sym size);
    }

-- In the end all marks are those of the transactions.
pub marked_to-all : (marks : List Bool) (end : ℕ) (txns : List Txn) (entries : List Entry) (i : ℕ) → length txns ≤ i
    → length entries ≡ length txns → AreMarkedTo marks end txns entries i → AreMarksOf marks txns entries
marked_to-all marks end txns entries i past same were =
    let ts : take i txns ≡ txns = take_all i txns past in
    let es : take i entries ≡ entries = take_all i entries (omega (arith, past, same)) in
    let front : AreMarksOf (take end marks) txns entries =
    subst (λ ts. AreMarksOf (take end marks) ts entries) ts
    (subst (λ es. AreMarksOf (take end marks) (take i txns) es) es were.front) in
    let reached : length marks ≤ end = omega (arith, length-take-le end marks were.within, front.count, were.size) in
    subst (λ ms. AreMarksOf ms txns entries) (take_all end marks reached) front
