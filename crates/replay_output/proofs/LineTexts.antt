-- The text of lines in order is that of their answers.
use Rattle.std.specs.Prelude.{◌≡◌, ℕ, zero, suc, ◌+◌, List, [], ◌∷◌, ◌++◌, map, Some, slice_get}
use Rattle.std.specs.List.{All, flat_map, enumerate_from}
use Rattle.std.proofs.Common.{refl, ap, ◌∙◌, subst, arith, get_or}
use Rattle.std.proofs.lemmas.List.Elements.{All-head, All-tail}
use Rattle.keyspace.specs.declared.answer.Answer.{Answer}
use Rattle.keyspace.specs.declared.answer.Answer.TheVariants as answer
use Rattle.keyspace.specs.Answer.{version_of_answer}
use Rattle.replay_summary.specs.declared.counted.Counted.{Counted}
use Rattle.replay_summary.specs.Counted.{counted_of}
use Rattle.replay_output.specs.declared.options.style.Style.{Style}
use Rattle.replay_output.specs.declared.line.Line.{Line}
use Rattle.replay_output.specs.Line.{answer_of, answers_of, version_of_line, IsLineOf, IsLineBy, AreLinesBy, text_of, texts}
use Rattle.keyspace.specs.storage.InOrder.{in_order_by}
use Rattle.replay_output.specs.Lines.{Print, in_order, lines_of_proxy, lines_by}
use Rattle.replay_output.proofs.InOrder.{All-in_order, map-in_order}

-- a line is sorted by the version of its answer
version_counted : (answer : Answer) → (counted_of answer).version ≡ version_of_answer answer
version_counted (answer.Reply reply) = refl
version_counted (answer.Never version) = refl
version_counted (answer.Held version) = refl

pub sorted_by : (style : Style) (proxy : ℕ) (l : Line) → IsLineOf style proxy l
    → version_of_line l ≡ version_of_answer (answer_of l)
sorted_by style proxy l is = ap (λ (c : Counted). c.version) is.counted ∙ version_counted (answer_of l)

sorted_with : (print : Print) (proxy : ℕ) (l : Line) → IsLineBy print proxy l
    → version_of_line l ≡ version_of_answer (answer_of l)
sorted_with print proxy l is = ap (λ (c : Counted). c.version) is.counted ∙ version_counted (answer_of l)

module _ (print : Print) where
  text_of_lines : (proxy : ℕ) (ls : List Line) → All (IsLineBy print proxy) ls
      → text_of ls ≡ flat_map (print proxy) (answers_of ls)
  text_of_lines proxy [] all = refl
  text_of_lines proxy (l ∷ ls) all =
      let P = IsLineBy print proxy in
      ap (λ (text : List ℕ). text ++ text_of ls) (All-head P l ls all).text
      ∙ ap (λ (text : List ℕ). print proxy (answer_of l) ++ text)
      (text_of_lines proxy ls (All-tail P l ls all))

  text_in_order : (proxy : ℕ) (ls : List Line) → All (IsLineBy print proxy) ls
      → text_of (in_order_by version_of_line ls) ≡ lines_of_proxy print (proxy, in_order (answers_of ls))
  text_in_order proxy ls all =
      let sorted = in_order_by version_of_line ls in
      text_of_lines proxy sorted (All-in_order (IsLineBy print proxy) version_of_line ls all)
      ∙ ap (flat_map (print proxy))
      (map-in_order answer_of version_of_line version_of_answer ls (λ k d inside. sorted_with print proxy (get_or ls k d) (all k d inside)))

  -- the lines at each number are those of answers to the proxy of that number from n on
  abbrev AreLinesFrom : ℕ → List (List Line) → Type 0
  AreLinesFrom n ls = (proxy : ℕ) (of_proxy : List Line) → slice_get ls proxy ≡ Some of_proxy
      → All (IsLineBy print (n + proxy)) of_proxy

  texts_from : (n : ℕ) (ls : List (List Line)) → AreLinesFrom n ls
      → texts (map (in_order_by version_of_line) ls)
      ≡ flat_map (lines_of_proxy print) (enumerate_from n (map in_order (map answers_of ls)))
  texts_from n [] are = refl
  texts_from n (l ∷ ls) are =
      let first : All (IsLineBy print n) l = subst (λ (proxy : ℕ). All (IsLineBy print proxy) l) (omega arith) (are zero l refl) in
      let rest : AreLinesFrom (n + 1) ls =
      λ proxy of_proxy is. subst (λ (m : ℕ). All (IsLineBy print m) of_proxy) (omega arith) (are (suc proxy) of_proxy is) in
      ap (λ (text : List ℕ). text ++ texts (map (in_order_by version_of_line) ls)) (text_in_order n l first)
      ∙ ap (λ (text : List ℕ). lines_of_proxy print (n, in_order (answers_of l)) ++ text) (texts_from (n + 1) ls rest)

  pub texts_are_lines : (ls : List (List Line)) → AreLinesBy print ls
      → texts (map (in_order_by version_of_line) ls) ≡ lines_by print (map answers_of ls)
  texts_are_lines ls are = texts_from zero ls
      (λ proxy of_proxy is. subst (λ (m : ℕ). All (IsLineBy print m) of_proxy) (omega arith) (are proxy of_proxy is))
