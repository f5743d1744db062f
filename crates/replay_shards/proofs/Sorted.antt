-- In the order of versions, a list has the same items of each version, in the same order.
use Rattle.std.specs.Prelude.{◌≡◌, ℤ, int_lt, true, false, List, [], ◌∷◌, ◌++◌, fold, map, vec_items, Vec, All}
use Rattle.std.proofs.Common.{Global, refl, sym, ap, ◌∙◌, subst, inl, inr, append_assoc, append-nil}
use Rattle.std.specs.Ordering.{int_eq}
use Rattle.std.proofs.lemmas.Bool.{cases_Bool, cond-true, cond-false}
use Rattle.std.proofs.lemmas.List.Elements.{All-nil, All-cons, All-head, All-tail, filter-append}
use Rattle.keyspace.specs.declared.answer.Answer.{Answer}
use Rattle.keyspace.specs.Answer.{version_of_answer}
use Rattle.keyspace.specs.storage.InOrder.{NoneBefore, Rise, in_order_by, put_in_order}
use Rattle.keyspace.proofs.callers.Ordered.{in_order-rises}
use Rattle.replay_output.specs.declared.line.Line.{Line}
use Rattle.replay_output.specs.Line.{answer_of, answers_of, version_of_line}
use Rattle.replay_shards.specs.declared.answered.Answered.{Answered}
use Rattle.replay_shards.specs.declared.note.Note.{Note}
use Rattle.replay_shards.specs.Answered.{AreKept, IsKept, answers_by, sorted_answers, sorted_notes}
use Rattle.replay_shards.specs.Merging.{at_version, answers_at}
use Rattle.replay_shards.specs.Notes.{version_of_note}
use Rattle.replay_shards.proofs.Versions.{irreflexive, none_at, at_kept, at_dropped, not_both_ways, not_before_lower, same_if}
use Rattle.replay_shards.proofs.Keeping.{version_kept}

module _ {X : Type 0} (version_of : X → ℤ) where
  none_lower : (v w : ℤ) (xs : List X) → int_lt v w ≡ true → NoneBefore version_of w xs → NoneBefore version_of v xs
  none_lower v w [] below none = tt
  none_lower v w (x ∷ xs) below none = (not_before_lower (version_of x) v w below none.0, none_lower v w xs below none.1)

  none_put : (least : ℤ) (xs : List X) (x : X) → int_lt (version_of x) least ≡ false → NoneBefore version_of least xs
      → NoneBefore version_of least (put_in_order version_of xs x)
  none_put least [] x not_before none = (not_before, tt)
  none_put least (y ∷ xs) x not_before none =
      elim (cases_Bool (int_lt (version_of x) (version_of y))) [
        | inl here ↦ subst (NoneBefore version_of least) (sym (cond-true _ _ _ here)) (not_before, none)
        | inr later ↦ subst (NoneBefore version_of least) (sym (cond-false _ _ _ later))
            (none.0, none_put least xs x not_before none.1)
      ]

  rise_put : (xs : List X) (x : X) → Rise version_of xs → Rise version_of (put_in_order version_of xs x)
  rise_put [] x rise = (tt, tt)
  rise_put (y ∷ xs) x rise =
      elim (cases_Bool (int_lt (version_of x) (version_of y))) [
        | inl here ↦ subst (Rise version_of) (sym (cond-true _ _ _ here)) (
          (not_both_ways (version_of x) (version_of y) here, none_lower (version_of x) (version_of y) xs here rise.0),
          rise,
        )
        | inr later ↦ subst (Rise version_of) (sym (cond-false _ _ _ later))
            (none_put (version_of y) xs x later rise.0, rise_put xs x rise.1)
      ]

  at_put : (v : ℤ) (xs : List X) (x : X) → Rise version_of xs
      → at_version version_of v (put_in_order version_of xs x) ≡ at_version version_of v xs ++ at_version version_of v (x ∷ [])
  at_put v [] x rise = refl
  at_put v (y ∷ xs) x rise =
      elim (cases_Bool (int_lt (version_of x) (version_of y))) [
        | inl here ↦ ap (at_version version_of v) (cond-true _ _ _ here) ∙ elim (cases_Bool (int_eq (version_of x) v)) [
          | inl same ↦
              let before = ap (λ u. int_lt u (version_of y)) (sym (same_if (version_of x) v same)) ∙ here in
              let none = none_at version_of v (version_of y) (y ∷ xs) before (irreflexive (version_of y), rise.0) in
              at_kept version_of v x (y ∷ xs) same ∙ ap (λ l. x ∷ l) none
              ∙ sym (ap (λ l. l ++ at_version version_of v (x ∷ [])) none ∙ at_kept version_of v x [] same)
          | inr differs ↦
              at_dropped version_of v x (y ∷ xs) differs
              ∙ sym (ap (λ l. at_version version_of v (y ∷ xs) ++ l) (at_dropped version_of v x [] differs)
              ∙ append-nil (at_version version_of v (y ∷ xs)))
        ]
        | inr later ↦ ap (at_version version_of v) (cond-false _ _ _ later) ∙ elim (cases_Bool (int_eq (version_of y) v)) [
          | inl same ↦
              at_kept version_of v y (put_in_order version_of xs x) same ∙ ap (λ l. y ∷ l) (at_put v xs x rise.1)
              ∙ sym (ap (λ l. l ++ at_version version_of v (x ∷ [])) (at_kept version_of v y xs same))
          | inr differs ↦
              at_dropped version_of v y (put_in_order version_of xs x) differs ∙ at_put v xs x rise.1
              ∙ sym (ap (λ l. l ++ at_version version_of v (x ∷ [])) (at_dropped version_of v y xs differs))
        ]
      ]

  at_fold : (v : ℤ) (start xs : List X) → Rise version_of start
      → at_version version_of v (fold (put_in_order version_of) start xs) ≡ at_version version_of v start ++ at_version version_of v xs
  at_fold v start [] rise = sym (append-nil (at_version version_of v start))
  at_fold v start (x ∷ xs) rise =
      at_fold v (put_in_order version_of start x) xs (rise_put start x rise)
      ∙ ap (λ l. l ++ at_version version_of v xs) (at_put v start x rise)
      ∙ append_assoc (at_version version_of v start) (at_version version_of v (x ∷ [])) (at_version version_of v xs)
      ∙ ap (λ l. at_version version_of v start ++ l) (sym (filter-append (λ item. int_eq (version_of item) v) (x ∷ []) xs))

  pub at_in_order : (v : ℤ) (xs : List X)
      → at_version version_of v (in_order_by version_of xs) ≡ at_version version_of v xs
  at_in_order v xs = at_fold v [] xs tt

  -- what holds of each item holds of each in order
  all_put : (P : X → Type 0) (xs : List X) (x : X) → P x → All P xs → All P (put_in_order version_of xs x)
  all_put P [] x holds all = All-cons P x [] holds all
  all_put P (y ∷ xs) x holds all =
      elim (cases_Bool (int_lt (version_of x) (version_of y))) [
        | inl here ↦ subst (All P) (sym (cond-true _ _ _ here)) (All-cons P x (y ∷ xs) holds all)
        | inr later ↦ subst (All P) (sym (cond-false _ _ _ later))
            (All-cons P y (put_in_order version_of xs x) (All-head P y xs all) (all_put P xs x holds (All-tail P y xs all)))
      ]

  all_fold : (P : X → Type 0) (start xs : List X) → All P start → All P xs → All P (fold (put_in_order version_of) start xs)
  all_fold P start [] first all = first
  all_fold P start (x ∷ xs) first all =
      all_fold P (put_in_order version_of start x) xs (all_put P start x (All-head P x xs all) first) (All-tail P x xs all)

  pub all_in_order : (P : X → Type 0) (xs : List X) → All P xs → All P (in_order_by version_of xs)
  all_in_order P xs all = all_fold P [] xs (All-nil P) all

pub kept_in_order : (lines : List Line) → All IsKept lines → All IsKept (in_order_by version_of_line lines)
kept_in_order lines kept = all_in_order version_of_line IsKept lines kept

-- the answers of lines that are in order
none_answers : (least : ℤ) (lines : List Line) → All IsKept lines → NoneBefore version_of_line least lines
    → NoneBefore version_of_answer least (answers_of lines)
none_answers least [] kept none = tt
none_answers least (l ∷ lines) kept none = (
  subst (λ v. int_lt v least ≡ false) (version_kept l (All-head IsKept l lines kept)) none.0,
  none_answers least lines (All-tail IsKept l lines kept) none.1,
)

rise_answers : (lines : List Line) → All IsKept lines → Rise version_of_line lines → Rise version_of_answer (answers_of lines)
rise_answers [] kept rise = tt
rise_answers (l ∷ lines) kept rise =
    let rest = All-tail IsKept l lines kept in (
      subst (λ v. NoneBefore version_of_answer v (answers_of lines)) (version_kept l (All-head IsKept l lines kept))
          (none_answers (version_of_line l) lines rest rise.0),
      rise_answers lines rest rise.1,
    )

rise_sorted : (own : Answered) → AreKept own → Rise version_of_answer (sorted_answers own)
rise_sorted own kept =
    rise_answers (in_order_by version_of_line own.lines.items) (kept_in_order own.lines.items kept)
    (in_order-rises version_of_line own.lines.items)

pub rise_each : (sorted : List (Vec Answer Global)) (each : List Answered) → All AreKept each
    → map vec_items sorted ≡ map sorted_answers each → All (λ own. Rise version_of_answer own.items) sorted
rise_each [] each kept is = All-nil (λ own. Rise version_of_answer own.items)
rise_each (s ∷ sorted) [] kept is = absurd (let no : ⊥ = cc in no)
rise_each (s ∷ sorted) (own ∷ each) kept is =
    let head : s.items ≡ sorted_answers own = cc in
    let tail : map vec_items sorted ≡ map sorted_answers each = cc in
    All-cons (λ own. Rise version_of_answer own.items) s sorted
    (subst (Rise version_of_answer) (sym head) (rise_sorted own (All-head AreKept own each kept)))
    (rise_each sorted each (All-tail AreKept own each kept) tail)

pub notes_rise_each : (sorted : List (Vec Note Global)) (each : List Answered) → map vec_items sorted ≡ map sorted_notes each
    → All (λ own. Rise version_of_note own.items) sorted
notes_rise_each [] each is = All-nil (λ own. Rise version_of_note own.items)
notes_rise_each (s ∷ sorted) [] is = absurd (let no : ⊥ = cc in no)
notes_rise_each (s ∷ sorted) (own ∷ each) is =
    let head : s.items ≡ sorted_notes own = cc in
    let tail : map vec_items sorted ≡ map sorted_notes each = cc in
    All-cons (λ own. Rise version_of_note own.items) s sorted
    (subst (Rise version_of_note) (sym head) (in_order-rises version_of_note own.notes.items)) (notes_rise_each sorted each tail)

-- of each version they are the same
at_answers : (v : ℤ) (lines : List Line) → All IsKept lines
    → answers_at v (answers_of lines) ≡ answers_of (at_version version_of_line v lines)
at_answers v [] kept = refl
at_answers v (l ∷ lines) kept =
    let version = version_kept l (All-head IsKept l lines kept) in
    let rest = at_answers v lines (All-tail IsKept l lines kept) in
    elim (cases_Bool (int_eq (version_of_line l) v)) [
      | inl same ↦
          at_kept version_of_answer v (answer_of l) (answers_of lines) (ap (λ w. int_eq w v) (sym version) ∙ same)
          ∙ ap (λ (own : List Answer). answer_of l ∷ own) rest ∙ sym (ap answers_of (at_kept version_of_line v l lines same))
      | inr differs ↦
          at_dropped version_of_answer v (answer_of l) (answers_of lines) (ap (λ w. int_eq w v) (sym version) ∙ differs)
          ∙ rest ∙ sym (ap answers_of (at_dropped version_of_line v l lines differs))
    ]

pub at_sorted : (v : ℤ) (own : Answered) → AreKept own → answers_at v (sorted_answers own) ≡ answers_at v (answers_by own)
at_sorted v own kept =
    at_answers v (in_order_by version_of_line own.lines.items) (kept_in_order own.lines.items kept)
    ∙ ap answers_of (at_in_order version_of_line v own.lines.items) ∙ sym (at_answers v own.lines.items kept)
