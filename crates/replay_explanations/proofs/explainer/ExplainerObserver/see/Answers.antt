use Rattle.std.proofs.Common.{◌≡◌, ◌++◌, ◌∷◌, [], List, Some, true, false, w64, SFits, rules, refl, sym, ap, subst, ◌∙◌}
use Rattle.std.specs.Int.{int_max}
use Rattle.std.proofs.lemmas.Int.{to_z-of_z}
use Rattle.keyspace.specs.declared.reply.Entry.{Entry}
use Rattle.keyspace.specs.Judged.{edge}
use Rattle.keyspace.specs.Processed.{Processed}
use Rattle.explanations.specs.Explains.{newest_of}
use Rattle.explanations.specs.History.{HistoryState, Keeps}
use Rattle.explanations.proofs.callers.Following.{same_processed}
use Rattle.replay_explanations.specs.Lines.{lines_from, entire}
use Rattle.replay_explanations.specs.Explainer.{ExplainerState}
use Rattle.replay_explanations.proofs.Seen.{has_seen_no_more, has_seen_more, on_err, put_same}
use Rattle.replay_explanations.proofs.explainer.ExplainerObserver.see.Goals as goal

pub returns-in_err-copy-clause-unseen : goal.returns-in_err-copy-clause-unseen
returns-in_err-copy-clause-unseen c =
    let is = c.self.view_is in
    let after : ExplainerState = record { form = c.self.inside.form; history = c.self.inside.history; texts = c.self.inside.texts; has_failed = true } in
    on_err c.from_residual.result _ (λ ps seen.
    has_seen_no_more c.args.self.now after ps refl (ap (λ (e : ExplainerState). e.texts) is)
    (ap (λ (e : ExplainerState). e.history.window) is) (ap (λ (e : ExplainerState). e.form) is) seen)

pub returns-in_err-processed-clause-unseen : goal.returns-in_err-processed-clause-unseen
returns-in_err-processed-clause-unseen c =
    let is = c.self.view_is in
    let after : ExplainerState = record { form = c.self.inside.form; history = c.self.inside.history; texts = c.self.inside.texts; has_failed = true } in
    on_err c.from_residual-in_err-processed.result _ (λ ps seen.
    has_seen_no_more c.args.self.now after ps refl (ap (λ (e : ExplainerState). e.texts) is)
    (ap (λ (e : ExplainerState). e.history.window) is) (ap (λ (e : ExplainerState). e.form) is) seen)

pub returns-in_err-push-clause-unseen : goal.returns-in_err-push-clause-unseen
returns-in_err-push-clause-unseen c =
    let is = c.self.view_is in
    let after : ExplainerState = record { form = c.self.inside.form; history = c.push.new.self; texts = c.self.inside.texts; has_failed = true } in
    on_err c.from_residual-in_err-push.result _ (λ ps seen.
    has_seen_no_more c.args.self.now after ps refl (ap (λ (e : ExplainerState). e.texts) is)
    (c.in_err-push.ensures.window ∙ ap (λ (e : ExplainerState). e.history.window) is) (ap (λ (e : ExplainerState). e.form) is) seen)

pub returns-in_err-text-clause-unseen : goal.returns-in_err-text-clause-unseen
returns-in_err-text-clause-unseen c =
    let is = c.self.view_is in
    let after : ExplainerState = record { form = c.self.inside.form; history = c.push.new.self; texts = c.self.inside.texts; has_failed = true } in
    on_err c.from_residual-in_err-text.result _ (λ ps seen.
    has_seen_no_more c.args.self.now after ps refl (ap (λ (e : ExplainerState). e.texts) is)
    (c.in_ok-push.ensures.window ∙ ap (λ (e : ExplainerState). e.history.window) is) (ap (λ (e : ExplainerState). e.form) is) seen)

pub returns-in_err-put-clause-unseen : goal.returns-in_err-put-clause-unseen
returns-in_err-put-clause-unseen c =
    let is = c.self.view_is in
    let after : ExplainerState = record { form = c.self.inside.form; history = c.push.new.self; texts = c.put.new.self; has_failed = true } in
    on_err c.from_residual-in_err-put.result _ (λ ps seen.
    has_seen_no_more c.args.self.now after ps refl (c.in_err-put.ensures.unchanged ∙ ap (λ (e : ExplainerState). e.texts) is)
    (c.in_ok-push.ensures.window ∙ ap (λ (e : ExplainerState). e.history.window) is) (ap (λ (e : ExplainerState). e.form) is) seen)

pub returns-clause-seen : goal.returns-clause-seen
returns-clause-seen c =
    let before = c.args.self.now in
    let is = c.self.view_is in
    let history_is = ap (λ (e : ExplainerState). e.history) is in
    let after : ExplainerState = record { form = c.self.inside.form; history = c.push.new.self; texts = c.put.new.self; has_failed = false } in
    let p : Processed = record { proxy = c.args.proxy; batch = c.args.batch; reply = c.args.reply.now } in
    let pushed : c.in_ok-processed.processed ≡ p =
    same_processed c.in_ok-processed.processed p c.in_ok-processed.ensures.proxy c.in_ok-processed.ensures.batch
    (c.in_ok-processed.ensures.reply ∙ c.in_ok-copy.ensures.equal) in
    let text = c.in_ok-text.text.items in
    let working : before.has_failed ≡ false = sym (ap (λ (e : ExplainerState). e.has_failed) is) ∙ c.if-self.false in
    let keeps : (ps : List Processed) → Keeps ps before.history → Keeps (ps ++ p ∷ []) c.push.new.self =
    subst (λ (x : Processed). (ps : List Processed) → Keeps ps before.history → Keeps (ps ++ x ∷ []) c.push.new.self) pushed
    (subst (λ (h : HistoryState). (ps : List Processed) → Keeps ps h → Keeps (ps ++ c.in_ok-processed.processed ∷ []) c.push.new.self)
    history_is c.in_ok-push.ensures.keeps) in
    let edge_is : c.push.new.self.edge ≡ int_max before.history.edge (edge before.history.window p.batch) =
    c.in_ok-push.ensures.edge
    ∙ ap (λ (h : HistoryState). int_max h.edge (edge h.window c.in_ok-processed.processed.batch)) history_is
    ∙ ap (λ (x : Processed). int_max before.history.edge (edge before.history.window x.batch)) pushed in
    let newest : newest_of c.push.new.self.kept ≡ Some p.batch =
    c.in_ok-push.ensures.newest ∙ ap (λ (x : Processed). Some x.batch) pushed in
    let text_is =
    c.in_ok-text.ensures.text p.batch newest
    ∙ ap (λ (es : List Entry). entire c.self.inside.form (lines_from c.self.inside.form c.push.new.self.window c.push.new.self.kept p.batch 0 p.batch.txns es)) c.as_slice.ensures.items in
    let fits : SFits w64 c.args.batch.version = search rules in
    has_seen_more before after p text working
    (c.in_ok-push.ensures.window ∙ ap (λ (e : ExplainerState). e.history.window) is) (ap (λ (e : ExplainerState). e.form) is) keeps edge_is newest text_is
    (put_same c.self.inside.texts before.texts c.put.new.self p.proxy _ p.batch.version text (ap (λ (e : ExplainerState). e.texts) is)
    (to_z-of_z w64 c.args.batch.version fits) c.in_ok-put.ensures.kept)
