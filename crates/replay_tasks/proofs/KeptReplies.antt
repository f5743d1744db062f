-- The replies that lines keep are those that their answers expect.
use Rattle.std.specs.Prelude.{◌≡◌, ℕ, zero, suc, ◌+◌, ◌≤◌, List, [], ◌∷◌, ◌++◌, length, map, option_to_list, Some, slice_get}
use Rattle.std.specs.List.{All}
use Rattle.std.proofs.Common.{refl, sym, ap, ap₂, subst, ◌∙◌, inl, inr, arith}
use Rattle.std.proofs.lemmas.List.{get_or_past, length-map}
use Rattle.std.proofs.lemmas.List.Elements.{All-head, All-tail}
use Rattle.keyspace.specs.declared.answer.Answer.{Answer}
use Rattle.keyspace.specs.declared.answer.Answer.TheVariants as answer
use Rattle.keyspace.specs.declared.reply.Reply.{Reply}
use Rattle.checking.specs.Check.{TakesMemory, check_text, count_at, count_differences}
use Rattle.checking.specs.Difference.{expected_replies, expected_by}
use Rattle.replay_output.specs.declared.options.form.Form.{Form}
use Rattle.replay_output.specs.declared.options.form.Form.TheVariants.{Kept}
use Rattle.replay_output.specs.declared.options.style.Style.{Style}
use Rattle.replay_output.specs.declared.line.Line.{Line}
use Rattle.replay_output.specs.Line.{IsLineOf, answer_of, answers_of, kept_of}
use Rattle.replay_tasks.specs.Checked.{KeepReplies, TakesToCompare, check_lines, count_lines, differences_of, replies_kept}

kept_is_expected : (a : Answer) → option_to_list (kept_of Kept a) ≡ expected_by a
kept_is_expected (answer.Reply reply) = refl
kept_is_expected (answer.Never version) = refl
kept_is_expected (answer.Held version) = refl

module _ (style : Style) (kept : style.form ≡ Kept) where
  kept_by_lines : (proxy : ℕ) (ls : List Line) → All (IsLineOf style proxy) ls → replies_kept ls ≡ expected_replies (answers_of ls)
  kept_by_lines proxy [] all = refl
  kept_by_lines proxy (l ∷ ls) all =
      let P = IsLineOf style proxy in
      let reply = (All-head P l ls all).kept ∙ ap (λ (form : Form). kept_of form (answer_of l)) kept in
      ap₂ (λ (first rest : List Reply). first ++ rest)
      (ap option_to_list reply ∙ kept_is_expected (answer_of l))
      (kept_by_lines proxy ls (All-tail P l ls all))

  kept_from : (received : List (List Line))
      → ((place : ℕ) (ls : List Line) → slice_get received place ≡ Some ls → (proxy : ℕ) × All (IsLineOf style proxy) ls)
      → map replies_kept received ≡ map expected_replies (map answers_of received)
  kept_from [] each = refl
  kept_from (ls ∷ received) each =
      let first = each zero ls refl in
      ap₂ (λ (l : List Reply) (rest : List (List Reply)). l ∷ rest) (kept_by_lines first.0 ls first.1)
      (kept_from received (λ place l at. each (suc place) l at))

pub kept_are_expected : (received : List (List Line)) → KeepReplies received
    → map replies_kept received ≡ map expected_replies (map answers_of received)
kept_are_expected received keep = kept_from keep.0 keep.1 received (λ place ls at. (place, keep.2 place ls at))

pub as_many_answers : (received : List (List Line)) → count_lines received ≡ count_lines (map answers_of received)
as_many_answers [] = refl
as_many_answers (ls ∷ received) =
    ap₂ (λ (n m : ℕ). n + m) (sym (length-map ls answer_of)) (as_many_answers received)

-- the text of a check of what lines keep is that of their answers
pub check_of_lines : (received : List (List Line)) (batches : ℕ) (kept recorded : List (List Reply)) → KeepReplies received
    → batches ≡ count_lines received → kept ≡ map replies_kept received
    → (check_text batches kept recorded ≡ check_lines recorded (map answers_of received))
    × (count_differences kept recorded ≡ differences_of recorded (map answers_of received))
check_of_lines received batches kept recorded are count is =
    let expected_is = is ∙ kept_are_expected received are in (
      ap₂ (λ (n : ℕ) (l : List (List Reply)). check_text n l recorded) (count ∙ as_many_answers received) expected_is,
      ap (λ (l : List (List Reply)). count_differences l recorded) expected_is,
    )

some_line : (ls : List Line) → 1 ≤ length (replies_kept ls) → 1 ≤ length ls
some_line [] some = some
some_line (l ∷ ls) some = omega arith

-- if a reply is kept there is a line
count_kept : (received : List (List Line)) (proxy : ℕ) → 1 ≤ count_at (map replies_kept received) proxy → 1 ≤ count_at received proxy
count_kept [] proxy some =
    let none : List Reply = [] in
    absurd (omega (arith, some, ap length (get_or_past [] proxy none (omega arith))))
count_kept (ls ∷ received) zero some = some_line ls some
count_kept (ls ∷ received) (suc proxy) some = count_kept received proxy some

-- memory that is taken to compare what lines keep is taken for their proxy
pub takes_to_compare : (received : List (List Line)) (kept recorded : List (List Reply)) (proxy : ℕ) → kept ≡ map replies_kept received
    → TakesMemory kept recorded proxy → TakesToCompare recorded received proxy
takes_to_compare received kept recorded proxy is takes =
    elim takes [
      | inl some ↦ inl (count_kept received proxy (subst (λ (l : List (List Reply)). 1 ≤ count_at l proxy) is some))
      | inr other ↦ elim other [
        | inl some ↦ inr (inl some)
        | inr last ↦ inr (inr (last ∙ ap length is ∙ length-map received replies_kept))
      ]
    ]
