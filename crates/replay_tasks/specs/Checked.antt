-- What is printed of answers that are compared with recorded replies. This project's own.
use Rattle.std.specs.Prelude.{◌≡◌, ℕ, ◌+◌, ◌≤◌, ◌⊎◌, List, [], ◌∷◌, length, map, option_to_list}
use Rattle.std.specs.List.{flat_map}
use Rattle.keyspace.specs.declared.answer.Answer.{Answer}
use Rattle.keyspace.specs.declared.reply.Reply.{Reply}
use Rattle.checking.specs.Difference.{expected_replies}
use Rattle.checking.specs.Check.{check_text, count_at, count_differences}
use Rattle.replay_output.specs.declared.line.Line.{Line}
use Rattle.replay_output.specs.declared.options.form.Form.TheVariants.{Kept}
use Rattle.replay_output.specs.declared.options.style.Style.{Style}
use Rattle.replay_output.specs.Line.{AreLines}

-- how many items all lists have
abbrev pub count_lines : {X : Type 0} → List (List X) → ℕ
count_lines [] = 0
count_lines (first ∷ rest) = length first + count_lines rest

-- the lines are of a style in which replies are kept
abbrev pub KeepReplies : List (List Line) → Type 0
KeepReplies ls = (style : Style) × (style.form ≡ Kept) × AreLines style ls

-- the replies that lines keep
abbrev pub replies_kept : List Line → List Reply
replies_kept ls = flat_map (λ (l : Line). option_to_list l.reply) ls

-- Memory is taken to compare the replies of the proxy of this number: it has an answer, or a reply to it was recorded, or it is the
-- last one, after which the last line is printed.
abbrev pub TakesToCompare : List (List Reply) → List (List Line) → ℕ → Type 0
TakesToCompare recorded received proxy =
    (1 ≤ count_at received proxy) ⊎ ((1 ≤ count_at recorded proxy) ⊎ (proxy + 1 ≡ length received))

-- the complete text, given the replies that were recorded of each proxy, and its answers
abbrev pub check_lines : List (List Reply) → List (List Answer) → List ℕ
check_lines recorded received = check_text (count_lines received) (map expected_replies received) recorded

-- how many differences there are
abbrev pub differences_of : List (List Reply) → List (List Answer) → ℕ
differences_of recorded received = count_differences (map expected_replies received) recorded
