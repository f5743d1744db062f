-- What is asked for a batch, transaction by transaction, and what the answers say of each.
use Rattle.std.proofs.Common.{◌≡◌, ℕ, suc, ◌+◌, ◌<◌, ◌≤◌, Bool, true, false, true≢false, cond, ◌||◌, List, [], ◌∷◌, ◌++◌, length, map, get_or, take, drop, refl, sym, ap, subst, ◌∙◌, arith, append-nil, append_assoc, length-drop}
use Rattle.std.specs.Prelude.{ℤ, ◌≤ℤ◌, flat_map}
use Rattle.std.specs.List.{AllZip}
use Rattle.std.proofs.lemmas.Grind.{flat_map-append}
use Rattle.std.proofs.lemmas.List.{length-map, length-append, length-take, map-append, take_more, drop_more}
use Rattle.keys.proofs.callers.Lists.{AllZip-split}
use Rattle.keys.specs.declared.range.Range.{Range}
use Rattle.keyspace.specs.declared.txn.Txn.{Txn}
use Rattle.keyspace.specs.declared.reply.Entry.{Entry}
use Rattle.keyspace.specs.Writes.{Write}
use Rattle.keyspace.specs.Judge.{is_hit, is_too_old}
use Rattle.stepmap.specs.StepMap.{Steps}
use Rattle.stepmap.specs.Covers.{MapCovers}
use Rattle.stepmap.specs.Laws.{DeterminesHits}
use Rattle.conflict.specs.declared.lookup.AnswerCounts.{AnswerCounts}
use Rattle.conflict.specs.Lookup.{asked_at, is_settled, first_asked, then_asked, all_first, all_then, all_parts, AreAnswers, AreHits}
use Rattle.conflict.proofs.InBatch.{late_unless_old}
use Rattle.conflict.proofs.Hits.{exceeds_is_hit}

module _ (ts : List Txn) (i : ℕ) (t : Txn) (inside : i < length ts) (is_next : t ≡ get_or ts i t) where
  -- the next transaction comes before those after it
  pub txns_left : drop i ts ≡ t ∷ drop (i + 1) ts
  txns_left = drop_more ts i t inside ∙ ap (λ u. u ∷ drop (i + 1) ts) (sym is_next)

  -- one more is judged
  pub judged_more : (f : Txn → Entry) (es : List Entry) (e : Entry) → es ≡ map f (take i ts) → e ≡ f t
      → es ++ e ∷ [] ≡ map f (take (i + 1) ts)
  judged_more f es e before is =
      ap (λ ds. ds ++ e ∷ []) before
      ∙ ap (λ d. map f (take i ts) ++ d ∷ []) (is ∙ ap f is_next)
      ∙ sym (ap (map f) (take_more ts i t inside) ∙ map-append f (take i ts) (get_or ts i t ∷ []))

-- what is asked of one more, first and then
module _ (oldest : ℤ) (ts : List Txn) (i : ℕ) (t : Txn) (inside : i < length ts) (is_next : t ≡ get_or ts i t) where
  pub first_count : length (all_first oldest (drop i ts))
      ≡ length (first_asked oldest t) + length (all_first oldest (drop (i + 1) ts))
  first_count =
      let long : length (asked_at t.snapshot (first_asked oldest t)) ≡ length (first_asked oldest t) =
      length-map (first_asked oldest t) (λ range. (range, t.snapshot)) in
      ap (λ us. length (all_first oldest us)) (txns_left ts i t inside is_next)
      ∙ length-append (asked_at t.snapshot (first_asked oldest t)) (all_first oldest (drop (i + 1) ts))
      ∙ ap (λ n. n + length (all_first oldest (drop (i + 1) ts))) long

  pub first_more : (done : List (Range × ℤ)) → done ≡ all_first oldest (take i ts)
      → done ++ asked_at t.snapshot (first_asked oldest t) ≡ all_first oldest (take (i + 1) ts)
  first_more done before =
      let asked = λ (u : Txn). asked_at u.snapshot (first_asked oldest u) in
      ap (λ ds. ds ++ asked t) before
      ∙ ap (λ ds. all_first oldest (take i ts) ++ ds) (sym (append-nil (asked t)) ∙ ap (λ u. asked u ++ []) is_next)
      ∙ sym (ap (flat_map asked) (take_more ts i t inside) ∙ flat_map-append asked (take i ts) (get_or ts i t ∷ []))

  pub then_more : (done : List (Range × ℤ)) (hits : List Bool)
      → (done ++ asked_at t.snapshot (then_asked oldest t (take (length (first_asked oldest t)) hits)))
      ++ all_then oldest (drop (i + 1) ts) (drop (length (first_asked oldest t)) hits)
      ≡ done ++ all_then oldest (drop i ts) hits
  then_more done hits =
      append_assoc done (asked_at t.snapshot (then_asked oldest t (take (length (first_asked oldest t)) hits)))
      (all_then oldest (drop (i + 1) ts) (drop (length (first_asked oldest t)) hits))
      ∙ ap (λ us. done ++ all_then oldest us hits) (sym (txns_left ts i t inside is_next))

  pub parts_more : (done : List AnswerCounts) (hits : List Bool) (part : AnswerCounts)
      → part.first ≡ length (first_asked oldest t)
      → part.others ≡ length (then_asked oldest t (take (length (first_asked oldest t)) hits))
      → (done ++ part ∷ []) ++ all_parts oldest (drop (i + 1) ts) (drop (length (first_asked oldest t)) hits)
      ≡ done ++ all_parts oldest (drop i ts) hits
  parts_more done hits part first others =
      let rest = all_parts oldest (drop (i + 1) ts) (drop (length (first_asked oldest t)) hits) in
      let Made : ℕ → ℕ → AnswerCounts = λ m n. record { first = m; others = n } in
      let is : part ≡ Made (length (first_asked oldest t)) (length (then_asked oldest t (take (length (first_asked oldest t)) hits))) =
      ap (λ m. Made m part.others) first ∙ ap (Made (length (first_asked oldest t))) others in
      append_assoc done (part ∷ []) rest ∙ ap (λ p. done ++ p ∷ rest) is
      ∙ ap (λ us. done ++ all_parts oldest us hits) (sym (txns_left ts i t inside is_next))

  -- the part of the next transaction comes before those after it
  module _ (parts : List AnswerCounts) (hits : List Bool) (left : drop i parts ≡ all_parts oldest (drop i ts) hits) where
    abbrev own_part : AnswerCounts
    own_part = record {
      first = length (first_asked oldest t);
      others = length (then_asked oldest t (take (length (first_asked oldest t)) hits));
    }

    abbrev later_parts : List AnswerCounts
    later_parts = all_parts oldest (drop (i + 1) ts) (drop (length (first_asked oldest t)) hits)

    parts_left : drop i parts ≡ own_part ∷ later_parts
    parts_left = left ∙ ap (λ us. all_parts oldest us hits) (txns_left ts i t inside is_next)

    pub part_within : i < length parts
    part_within = omega (arith, length-drop i parts, ap length parts_left)

    next_parts : (part : AnswerCounts) → get_or parts i part ∷ drop (i + 1) parts ≡ own_part ∷ later_parts
    next_parts part = sym (drop_more parts i part part_within) ∙ parts_left

    pub part_at : (part : AnswerCounts) → get_or parts i part
        ≡ record {
          first = length (first_asked oldest t);
          others = length (then_asked oldest t (take (length (first_asked oldest t)) hits));
        }
    part_at part = ap (λ ps. get_or ps 0 own_part) (next_parts part)

    pub parts_later : drop (i + 1) parts ≡ all_parts oldest (drop (i + 1) ts) (drop (length (first_asked oldest t)) hits)
    parts_later = ap (drop 1) (next_parts own_part)

-- there is a part for each transaction
pub length-all_parts : (oldest : ℤ) (ts : List Txn) (hits : List Bool) → length (all_parts oldest ts hits) ≡ length ts
length-all_parts oldest [] hits = refl
length-all_parts oldest (t ∷ ts) hits =
    ap suc (length-all_parts oldest ts (drop (length (first_asked oldest t)) hits))

-- an answer a question
zip_count : {X Y : Type 0} (R : X → Y → Type 0) (xs : List X) (ys : List Y) → AllZip R xs ys → length ys ≡ length xs
zip_count R [] [] all = refl
zip_count R [] (y ∷ ys) all = absurd all
zip_count R (x ∷ xs) [] all = absurd all
zip_count R (x ∷ xs) (y ∷ ys) all = ap suc (zip_count R xs ys all.1)

pub answer_count : (m : Steps) (asked : List (Range × ℤ)) (answers : List Bool) → AreAnswers m asked answers
    → length answers ≡ length asked
answer_count m asked answers all = zip_count _ asked answers all

module _ (m : Steps) (snapshot : ℤ) (ranges : List Range) (others : List (Range × ℤ)) (answers : List Bool)
    (all : AreAnswers m (asked_at snapshot ranges ++ others) answers) where
  long : length (asked_at snapshot ranges) ≡ length ranges
  long = length-map ranges (λ range. (range, snapshot))

  both : AreAnswers m (asked_at snapshot ranges) (take (length ranges) answers)
      × AreAnswers m others (drop (length ranges) answers)
  both = subst
      (λ n. AreAnswers m (asked_at snapshot ranges) (take n answers) × AreAnswers m others (drop n answers)) long
      (AllZip-split _ (asked_at snapshot ranges) others answers all)

  own_answers : AreAnswers m (asked_at snapshot ranges) (take (length ranges) answers)
  own_answers = both.0

  later_answers : AreAnswers m others (drop (length ranges) answers)
  later_answers = both.1

  own_within : length ranges ≤ length answers
  own_within =
      let count = zip_count _ (asked_at snapshot ranges) (take (length ranges) answers) both.0 in
      omega (arith, count, long, length-take (length ranges) answers)

-- What is left of the questions begins with those of the next transaction, and so do the answers.
module _ (m : Steps) (oldest : ℤ) (ts : List Txn) (i : ℕ) (t : Txn) (inside : i < length ts)
    (is_next : t ≡ get_or ts i t) (firsts : List Bool) (determined : AreAnswers m (all_first oldest (drop i ts)) firsts) where
  abbrev ranges : List Range
  ranges = first_asked oldest t

  abbrev own : List Bool
  own = take (length ranges) firsts

  left : AreAnswers m (asked_at t.snapshot ranges ++ all_first oldest (drop (i + 1) ts)) firsts
  left = subst (λ us. AreAnswers m (all_first oldest us) firsts) (txns_left ts i t inside is_next) determined

  pub first_own : AreAnswers m (asked_at t.snapshot (first_asked oldest t)) (take (length (first_asked oldest t)) firsts)
  first_own = own_answers m t.snapshot ranges (all_first oldest (drop (i + 1) ts)) firsts left

  pub first_later : AreAnswers m (all_first oldest (drop (i + 1) ts)) (drop (length (first_asked oldest t)) firsts)
  first_later = later_answers m t.snapshot ranges (all_first oldest (drop (i + 1) ts)) firsts left

  pub first_within : length (first_asked oldest t) ≤ length firsts
  first_within = own_within m t.snapshot ranges (all_first oldest (drop (i + 1) ts)) firsts left

  module _ (others : List Bool) (others_determined : AreAnswers m (all_then oldest (drop i ts) firsts) others) where
    abbrev other_ranges : List Range
    other_ranges = then_asked oldest t own

    others_left : AreAnswers m
        (asked_at t.snapshot other_ranges ++ all_then oldest (drop (i + 1) ts) (drop (length ranges) firsts)) others
    others_left =
        subst (λ us. AreAnswers m (all_then oldest us firsts) others) (txns_left ts i t inside is_next) others_determined

    pub other_own : AreAnswers m (asked_at t.snapshot (then_asked oldest t (take (length (first_asked oldest t)) firsts)))
        (take (length (then_asked oldest t (take (length (first_asked oldest t)) firsts))) others)
    other_own = own_answers m t.snapshot other_ranges (all_then oldest (drop (i + 1) ts) (drop (length ranges) firsts))
        others others_left

    pub other_later : AreAnswers m (all_then oldest (drop (i + 1) ts) (drop (length (first_asked oldest t)) firsts))
        (drop (length (then_asked oldest t (take (length (first_asked oldest t)) firsts))) others)
    other_later = later_answers m t.snapshot other_ranges
        (all_then oldest (drop (i + 1) ts) (drop (length ranges) firsts)) others others_left

    pub other_within : length (then_asked oldest t (take (length (first_asked oldest t)) firsts)) ≤ length others
    other_within = own_within m t.snapshot other_ranges
        (all_then oldest (drop (i + 1) ts) (drop (length ranges) firsts)) others others_left

-- an answer a question of the next transaction, at most one a read range of it
pub answers_few : (m : Steps) (oldest : ℤ) (t : Txn) (first others : List Bool)
    → AreAnswers m (asked_at t.snapshot (first_asked oldest t)) first
    → AreAnswers m (asked_at t.snapshot (then_asked oldest t first)) others
    → length first + length others ≤ length t.reads
answers_few m oldest t first others determined others_determined =
    let count = zip_count _ (asked_at t.snapshot (first_asked oldest t)) first determined in
    let others_count = zip_count _ (asked_at t.snapshot (then_asked oldest t first)) others others_determined in
    let long : length (asked_at t.snapshot (first_asked oldest t)) ≡ length (first_asked oldest t) =
    length-map (first_asked oldest t) (λ range. (range, t.snapshot)) in
    let others_long : length (asked_at t.snapshot (then_asked oldest t first)) ≡ length (then_asked oldest t first) =
    length-map (then_asked oldest t first) (λ range. (range, t.snapshot)) in
    let few = parts_few (is_too_old oldest t) (is_settled t first) t.reads in
    omega (arith, count, others_count, long, others_long, few)
  where
    parts_few : (old settled : Bool) (reads : List Range)
        → length (cond old [] (take 1 reads)) + length (cond (old || settled) [] (drop 1 reads)) ≤ length reads
    parts_few true settled reads = omega arith
    parts_few false true [] = omega arith
    parts_few false true (r ∷ rs) = omega arith
    parts_few false false [] = omega arith
    parts_few false false (r ∷ rs) = omega arith

hits_determined : DeterminesHits → (m : Steps) (ws : List Write) (t : Txn) → MapCovers m ws → (ranges : List Range) (bs : List Bool)
    → (0 < length ranges → m.edge ≤ℤ t.snapshot)
    → AreAnswers m (map (λ range. (range, t.snapshot)) ranges) bs → bs ≡ map (is_hit ws t) ranges
hits_determined determines m ws t covers [] [] late answers = refl
hits_determined determines m ws t covers [] (b ∷ bs) late answers = absurd answers
hits_determined determines m ws t covers (range ∷ ranges) [] late answers = absurd answers
hits_determined determines m ws t covers (range ∷ ranges) (b ∷ bs) late answers =
    let now = late (omega arith) in
    ap (λ hit. hit ∷ bs) (exceeds_is_hit determines m ws t range b covers now answers.0)
    ∙ ap (λ hits. is_hit ws t range ∷ hits) (hits_determined determines m ws t covers ranges bs (λ some. now) answers.1)

-- the answers of a transaction say what the writes hit, if the step map covers these
pub hits_from_answers : DeterminesHits → (m : Steps) (ws : List Write) (oldest : ℤ) (t : Txn) (first others : List Bool)
    → MapCovers m ws → m.edge ≤ℤ oldest
    → AreAnswers m (asked_at t.snapshot (first_asked oldest t)) first
    → AreAnswers m (asked_at t.snapshot (then_asked oldest t first)) others
    → AreHits oldest ws t (first ++ others)
hits_from_answers determines m ws oldest t first others covers below determined others_determined = λ young.
    let late = late_unless_old oldest m.edge t young below in
    by_settled (first_hits young late) late (is_settled t first) refl
    (subst (λ old. AreAnswers m (asked_at t.snapshot (cond (old || is_settled t first) [] (drop 1 t.reads))) others)
    young others_determined)
  where
    some_reads : (reads : List Range) → 0 < length (take 1 reads) → 0 < length reads
    some_reads [] some = some
    some_reads (r ∷ rs) some = omega arith

    some_later : (reads : List Range) → 0 < length (drop 1 reads) → 0 < length reads
    some_later [] some = some
    some_later (r ∷ rs) some = omega arith

    both_parts : (reads : List Range)
        → map (is_hit ws t) (take 1 reads) ++ map (is_hit ws t) (drop 1 reads) ≡ map (is_hit ws t) reads
    both_parts [] = refl
    both_parts (r ∷ rs) = refl

    none_answered : (bs : List Bool) → AreAnswers m [] bs → bs ≡ []
    none_answered [] all = refl
    none_answered (b ∷ bs) all = absurd all

    first_hits : is_too_old oldest t ≡ false → (0 < length t.reads → m.edge ≤ℤ t.snapshot)
        → first ≡ map (is_hit ws t) (take 1 t.reads)
    first_hits young late = hits_determined determines m ws t covers (take 1 t.reads) first
        (λ some. late (some_reads t.reads some))
        (subst (λ old. AreAnswers m (asked_at t.snapshot (cond old [] (take 1 t.reads))) first) young determined)

    by_settled : first ≡ map (is_hit ws t) (take 1 t.reads) → (0 < length t.reads → m.edge ≤ℤ t.snapshot)
        → (settled : Bool) → is_settled t first ≡ settled
        → AreAnswers m (asked_at t.snapshot (cond settled [] (drop 1 t.reads))) others
        → ((rest : List Bool) × ((first ++ others) ++ rest ≡ map (is_hit ws t) t.reads))
        × (is_settled t (first ++ others) ≡ false → first ++ others ≡ map (is_hit ws t) t.reads)
    by_settled firsts late true settled answers =
        let none = none_answered others answers in
        let alone : first ++ others ≡ first = ap (λ bs. first ++ bs) none ∙ append-nil first in (
          (
            map (is_hit ws t) (drop 1 t.reads),
            ap (λ bs. bs ++ map (is_hit ws t) (drop 1 t.reads)) (alone ∙ firsts) ∙ both_parts t.reads,
          ),
          λ is. absurd (true≢false (sym settled ∙ sym (ap (is_settled t) alone) ∙ is)),
        )
    by_settled firsts late false settled answers =
        let then = hits_determined determines m ws t covers (drop 1 t.reads) others (λ some. late (some_later t.reads some)) answers in
        let entire : first ++ others ≡ map (is_hit ws t) t.reads =
        ap (λ bs. bs ++ others) firsts ∙ ap (λ bs. map (is_hit ws t) (take 1 t.reads) ++ bs) then ∙ both_parts t.reads in
        (([], append-nil (first ++ others) ∙ entire), λ is. entire)
