-- What the lines of answers say of transactions, beside the log that they are of.
use Rattle.std.specs.Prelude.{◌≡◌, ℕ, zero, suc, ◌+◌, ◌<◌, ℤ, List, [], ◌∷◌, length, map, codes, Option, None, Some, IsSomeAnd, slice_get, Contains}
use Rattle.std.specs.List.{range_with_len}
use Rattle.std.proofs.Common.{refl, sym, ap, subst, ◌∙◌, inl, inr, append-nil, arith, get_or}
use Rattle.std.proofs.lemmas.Bool.{cases_lt}
use Rattle.std.proofs.lemmas.Option.{none-some}
use Rattle.keyspace.specs.declared.answer.Answer.{Answer}
use Rattle.keyspace.specs.declared.answer.Answer.TheVariants as answer
use Rattle.keyspace.specs.declared.reply.Entry.{Entry}
use Rattle.keyspace.specs.declared.reply.Verdict.{Verdict}
use Rattle.keyspace.specs.declared.reply.Verdict.TheVariants.{Conflict, TooOld, Committed}
use Rattle.keyspace.specs.Processed.{Processed}
use Rattle.keyspace.specs.Run.{Step, run, answers, part}
use Rattle.serial.specs.Replies.{IsSent, IsCommittedAt, ReportsCommitted, AnswersReportVerdicts}
use Rattle.resolver.specs.Resolver.{TakesOnlyFrom}
use Rattle.resolver.proofs.callers.Logs.{none_of_others}
use Rattle.replay_output.specs.declared.options.form.Form.{Form}
use Rattle.replay_output.specs.declared.options.form.Form.TheVariants.{Words, Frames, Json, Kept}
use Rattle.replay_output.specs.Lines.{verdict_word, verdict_json}
use Rattle.replay_tasks.specs.Replayed.{answers_each, SaysCommitted, LineSaysCommitted}

-- texts with another letter at some index are different
differ : (xs ys : List ℕ) (i a b : ℕ) → get_or xs i 0 ≡ a → get_or ys i 0 ≡ b → a < b → ys ≡ xs → ⊥
differ xs ys i a b at_a at_b below same =
    let letters : a ≡ b = sym at_a ∙ ap (λ zs. get_or zs i 0) (sym same) ∙ at_b in
    absurd (omega (arith, letters, below))

word_says : (verdict : Verdict) (places : List ℕ) → verdict_word verdict places ≡ codes "committed" → verdict ≡ Committed
word_says Committed places is = refl
word_says TooOld places is = absurd (differ (codes "committed") (codes "tooold") 0 99 116 refl refl (omega arith) is)
word_says Conflict [] is = absurd (differ (codes "committed") (codes "conflict") 2 109 110 refl refl (omega arith) is)
word_says Conflict (place ∷ places) is = absurd (differ (codes "committed") _ 2 109 110 refl refl (omega arith) is)

json_says : (verdict : Verdict) (places : List ℕ) → verdict_json verdict places ≡ codes "\"committed\"" → verdict ≡ Committed
json_says Committed places is = refl
json_says TooOld places is = absurd (differ (codes "\"committed\"") (codes "\"tooold\"") 1 99 116 refl refl (omega arith) is)
json_says Conflict [] is = absurd (differ (codes "\"committed\"") (codes "\"conflict\"") 3 109 110 refl refl (omega arith) is)
json_says Conflict (place ∷ places) is = absurd (differ (codes "\"committed\"") _ 0 34 123 refl refl (omega arith) is)

-- a line says that a transaction was committed exactly if that is the verdict
verdict_said : (form : Form) (entry : Entry) → SaysCommitted form entry → entry.verdict ≡ Committed
verdict_said Words entry says = word_says entry.verdict entry.places says
verdict_said Json entry says = json_says entry.verdict entry.places says
verdict_said Frames entry says = says
verdict_said Kept entry says = says

says_verdict : (form : Form) (entry : Entry) → entry.verdict ≡ Committed → SaysCommitted form entry
says_verdict Words entry is = ap (λ verdict. verdict_word verdict entry.places) is
says_verdict Json entry is = ap (λ verdict. verdict_json verdict entry.places) is
says_verdict Frames entry is = is
says_verdict Kept entry is = is

-- an element of a list of values of a function is its value there
pub value_at : {X : Type 0} (F : ℕ → X) (first n k : ℕ) (x : X) → slice_get (map F (range_with_len first n)) k ≡ Some x
    → x ≡ F (first + k)
value_at F first zero k x at = let never : ⊥ = cc in absurd never
value_at F first (suc n) zero x at =
    let here : F first ≡ x = cc in
    sym here ∙ ap F (omega arith)
value_at F first (suc n) (suc k) x at = value_at F (first + 1) n k x at ∙ ap F (omega arith)

value_inside : {X : Type 0} (F : ℕ → X) (first n k : ℕ) → k < n
    → slice_get (map F (range_with_len first n)) k ≡ Some (F (first + k))
value_inside F first zero k inside = absurd (omega (arith, inside))
value_inside F first (suc n) zero inside = ap (λ m. Some (F m)) (omega arith)
value_inside F first (suc n) (suc k) inside =
    value_inside F (first + 1) n k (omega (arith, inside)) ∙ ap (λ m. Some (F m)) (omega arith)

-- what holds of the value that there is
value_of : {X : Type 0} (P : X → Type 0) (o : Option X) → IsSomeAnd o P → (x : X) × (o ≡ Some x) × P x
value_of P None h = elim h [ ]
value_of P (Some x) h = (x, refl, h)

some_at : {X : Type 0} (P : X → Type 0) (o : Option X) (x : X) → o ≡ Some x → P x → IsSomeAnd o P
some_at P o x e h = subst (λ (o : Option _). IsSomeAnd o P) (sym e) h

-- what the line of a reply says of a transaction, the reply reports, and the other way round
module _ (form : Form) (together : List (List Answer)) (proxy : ℕ) (version : ℤ) (index : ℕ) where
  pub line_reports : LineSaysCommitted form together proxy version index
      → (own : List Answer) × (slice_get together proxy ≡ Some own) × ReportsCommitted own version index
  line_reports line =
      let own = value_of (λ (l : List Answer). Contains l (answer.Reply line.reply)) (slice_get together proxy) line.of_proxy in
      let entry = value_of (SaysCommitted form) (slice_get line.reply.entries index) line.at_index in
      let reports : ReportsCommitted own.0 version index = record {
        reply = line.reply;
        is_received = own.2;
        at_version = line.at_version;
        verdict = some_at (λ (e : Entry). e.verdict ≡ Committed) (slice_get line.reply.entries index) entry.0 entry.1
            (verdict_said form entry.0 entry.2);
      } in
      (own.0, own.1, reports)

  pub reported_by_line : (own : List Answer) → slice_get together proxy ≡ Some own → ReportsCommitted own version index
      → LineSaysCommitted form together proxy version index
  reported_by_line own at reports =
      let entry = value_of (λ (e : Entry). e.verdict ≡ Committed) (slice_get reports.reply.entries index) reports.verdict in
      record {
        reply = reports.reply;
        of_proxy = some_at (λ (l : List Answer). Contains l (answer.Reply reports.reply)) (slice_get together proxy) own at reports.is_received;
        at_version = reports.at_version;
        at_index = some_at (SaysCommitted form) (slice_get reports.reply.entries index) entry.0 entry.1
            (says_verdict form entry.0 entry.2);
      }

module _ (window : ℤ) (log : List Step) (proxies : ℕ) (only : TakesOnlyFrom proxies log) (known_verdicts : AnswersReportVerdicts)
    (form : Form) where
  -- each processed batch is of one of the proxies, and was sent by it
  pub from_one : (index : ℕ) (entry : Processed) → slice_get (run window log).processed index ≡ Some entry
      → (entry.proxy < proxies) × IsSent window log (part log entry.proxy) index entry
  from_one index entry at =
      let own = part log entry.proxy in
      let sent = known_verdicts.sent window log index entry at own [] (sym (append-nil own)) in
      elim (cases_lt entry.proxy proxies) [
        | inl known ↦ (known, sent)
        | inr past ↦
            let none = ap (λ batches. slice_get batches (length (part sent.before entry.proxy)))
            (none_of_others proxies log only entry.proxy past) in
            absurd (none-some entry.batch (sym none ∙ sent.next))
      ]

  -- a line says of committed transactions alone that they were committed
  pub each_said : (proxy : ℕ) (version : ℤ) (index : ℕ) → LineSaysCommitted form (answers_each window log proxies) proxy version index
      → IsCommittedAt (run window log).processed proxy version index
  each_said proxy version index line =
      let own = line_reports form (answers_each window log proxies) proxy version index line in
      let is : own.0 ≡ answers window log proxy =
      value_at (answers window log) 0 proxies proxy own.0 own.1 ∙ ap (answers window log) (omega arith) in
      known_verdicts.reported window log proxy version index (subst (λ (l : List Answer). ReportsCommitted l version index) is own.2)

  -- and of all of them
  pub all_said : (proxy : ℕ) (version : ℤ) (index : ℕ) → IsCommittedAt (run window log).processed proxy version index
      → LineSaysCommitted form (answers_each window log proxies) proxy version index
  all_said proxy version index is =
      let known = subst (λ p. p < proxies) is.of_proxy (from_one is.index is.entry is.committed.batch).0 in
      reported_by_line form (answers_each window log proxies) proxy version index (answers window log proxy)
      (value_inside (answers window log) 0 proxies proxy known ∙ ap (λ m. Some (answers window log m)) (omega arith))
      (known_verdicts.all_reported window log proxy version index is)
