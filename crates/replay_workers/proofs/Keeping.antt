-- What an inbox keeps as it takes one answer more.
use Rattle.std.specs.Prelude.{◌≡◌, ℕ, Bool, true, false, List, [], ◌∷◌, ◌++◌}
use Rattle.std.specs.List.{All}
use Rattle.std.proofs.Common.{refl, sym, ap, subst, ◌∙◌, append_assoc, append-nil}
use Rattle.std.proofs.lemmas.Bool.{false≢true}
use Rattle.std.proofs.lemmas.List.{map-append}
use Rattle.std.proofs.lemmas.List.Elements.{All-push}
use Rattle.keyspace.specs.declared.answer.Answer.{Answer}
use Rattle.lane.specs.Lane.{IntakeView}
use Rattle.replay_output.specs.declared.options.style.Style.{Style}
use Rattle.replay_workers.specs.declared.ends.Ends.{Ends}
use Rattle.replay_workers.specs.declared.inbox.Inbox.{Inbox}
use Rattle.replay_output.specs.declared.line.Line.{Line}
use Rattle.replay_output.specs.Line.{answer_of, answers_of, IsLineOf}
use Rattle.replay_workers.specs.Ends.{EndsContinue}
use Rattle.replay_workers.specs.Inbox.{KeepsLines, InboxContinues}
use Rattle.replay_workers.proofs.callers.SameLanes.{ends_continue}

-- the answer's line was kept, after the others
abbrev pub IsKept : Style → ℕ → List Line → List Line → Answer → Type 0
IsKept style proxy old new answer =
    (line : Line) × (new ≡ old ++ line ∷ []) × (answer_of line ≡ answer) × IsLineOf style proxy line

module _ (style : Style) (proxy : ℕ) (before now : List Answer) (answer : Answer) (old new : List Line) where
  dropped_also : (was : Bool) → KeepsLines style proxy before now old was → new ≡ old
      → KeepsLines style proxy before (now ++ answer ∷ []) new true
  dropped_also was keeps same = record {
    dropped = keeps.dropped ++ answer ∷ [];
    taken =
        ap (λ (l : List Answer). l ++ answer ∷ []) keeps.taken
        ∙ append_assoc before (answers_of old ++ keeps.dropped) (answer ∷ [])
        ∙ ap (λ (l : List Answer). before ++ l) (append_assoc (answers_of old) keeps.dropped (answer ∷ []))
        ∙ ap (λ (l : List Line). before ++ (answers_of l ++ (keeps.dropped ++ answer ∷ []))) (sym same);
    none_dropped = λ none. absurd (false≢true (sym none));
    each = subst (All (IsLineOf style proxy)) (sym same) keeps.each;
  }

  kept_also : KeepsLines style proxy before now old false → IsKept style proxy old new answer
      → KeepsLines style proxy before (now ++ answer ∷ []) new false
  kept_also keeps kept = record {
    dropped = [];
    taken =
        ap (λ (l : List Answer). l ++ answer ∷ [])
        (keeps.taken ∙ ap (λ (l : List Answer). before ++ (answers_of old ++ l)) (keeps.none_dropped refl)
        ∙ ap (λ (l : List Answer). before ++ l) (append-nil (answers_of old)))
        ∙ append_assoc before (answers_of old) (answer ∷ [])
        ∙ ap (λ (l : List Answer). before ++ l)
        (ap (λ (a : Answer). answers_of old ++ a ∷ []) (sym kept.2) ∙ sym (map-append answer_of old (kept.0 ∷ []))
        ∙ ap answers_of (sym kept.1) ∙ sym (append-nil (answers_of new)));
    none_dropped = λ none. refl;
    each =
        subst (All (IsLineOf style proxy)) (sym kept.1) (All-push (IsLineOf style proxy) old kept.0 keeps.each kept.3);
  }

  pub keeps_also : (was lost : Bool) → KeepsLines style proxy before now old was → (was ≡ true → lost ≡ true)
      → (lost ≡ true → new ≡ old) → (lost ≡ false → IsKept style proxy old new answer)
      → KeepsLines style proxy before (now ++ answer ∷ []) new lost
  keeps_also was true keeps stays lost kept = dropped_also was keeps (lost refl)
  keeps_also true false keeps stays lost kept = absurd (false≢true (stays refl))
  keeps_also false false keeps stays lost kept = kept_also keeps (kept refl)

pub item_kept : (first old new : Inbox) (ends : Ends) (answer : Answer) → InboxContinues first old
    → EndsContinue old.ends ends → ends.replies.taken ≡ old.ends.replies.taken ++ answer ∷ [] → new.ends ≡ ends
    → new.proxy ≡ old.proxy → new.style ≡ old.style → (old.lost ≡ true → new.lost ≡ true)
    → (new.lost ≡ true → new.lines.items ≡ old.lines.items)
    → (new.lost ≡ false → IsKept old.style old.proxy old.lines.items new.lines.items answer) → InboxContinues first new
item_kept first old new ends answer goes on took same_ends same_proxy same_style stays lost kept = record {
  ends =
      ends_continue first.ends old.ends new.ends goes.ends
      (subst (λ (e : Ends). EndsContinue old.ends e) (sym same_ends) on);
  proxy = same_proxy ∙ goes.proxy;
  style = same_style ∙ goes.style;
  lines = λ before keeps.
      let also =
      keeps_also old.style old.proxy before old.ends.replies.taken answer old.lines.items new.lines.items old.lost new.lost
      (goes.lines before keeps) stays lost kept in
      let taken : old.ends.replies.taken ++ answer ∷ [] ≡ new.ends.replies.taken =
      sym took ∙ ap (λ (e : Ends). e.replies.taken) (sym same_ends) in
      subst (λ (now : List Answer). KeepsLines new.style new.proxy before now new.lines.items new.lost) taken
      (subst (λ (p : ℕ). KeepsLines new.style p before (old.ends.replies.taken ++ answer ∷ []) new.lines.items new.lost)
      (sym same_proxy)
      (subst (λ (f : Style). KeepsLines f old.proxy before (old.ends.replies.taken ++ answer ∷ []) new.lines.items new.lost)
      (sym same_style) also));
}

pub inbox_continues : (a b c : Inbox) → InboxContinues a b → InboxContinues b c → InboxContinues a c
inbox_continues a b c first second = record {
  ends = ends_continue a.ends b.ends c.ends first.ends second.ends;
  proxy = second.proxy ∙ first.proxy;
  style = second.style ∙ first.style;
  lines = λ before keeps. second.lines before (first.lines before keeps);
}

-- the ends were used otherwise than to take answers
pub with_ends : (old new : Inbox) → EndsContinue old.ends new.ends → new.ends.replies ≡ old.ends.replies
    → new ≡ record old { ends = new.ends } → InboxContinues old new
with_ends old new on same is = subst (InboxContinues old) (sym is) (record {
  ends = on;
  proxy = refl;
  style = refl;
  lines = λ before keeps.
      subst (λ (r : IntakeView Answer). KeepsLines old.style old.proxy before r.taken old.lines.items old.lost) (sym same)
      keeps;
})

-- answers were taken, and then a batch was sent, or not
pub sends_on : (first old taken new : Inbox) → InboxContinues first old → InboxContinues old taken
    → EndsContinue taken.ends new.ends → new.ends.replies ≡ taken.ends.replies → new ≡ record taken { ends = new.ends }
    → InboxContinues first new
sends_on first old taken new goes takes on same is =
    inbox_continues first old new goes (inbox_continues old taken new takes (with_ends taken new on same is))
