-- What an explainer that has seen the batches of a run holds of them.
use Rattle.std.specs.Prelude.{◌≡◌, ℕ, ℤ, List, ◌∷◌, ◌++◌, Option}
use Rattle.std.proofs.Common.{refl, sym, ap, subst, ◌∙◌, append_assoc}
use Rattle.keyspace.specs.Chain.{IsChain}
use Rattle.keyspace.specs.Processed.{Processed}
use Rattle.keyspace.specs.Run.{Step, run}
use Rattle.limits.specs.declared.stop.Stop.{Stop}
use Rattle.resolver.specs.Observed.{HasSeen}
use Rattle.replay_explanations.specs.Explainer.{ExplainerState, HasExplained, text_of}
use Rattle.replay_explanations.specs.declared.form.ExplanationForm.{ExplanationForm}
use Rattle.replay_explanations.specs.Lines.{explanation_at}

pub chain_begins : (window : ℤ) (list rest entire : List Processed) → entire ≡ list ++ rest → IsChain window entire → IsChain window list
chain_begins window list rest entire is chain before p after of =
    chain before p (after ++ rest) (is ∙ ap (λ (l : List Processed). l ++ rest) of ∙ append_assoc before (p ∷ after) rest)

module _ (e : ExplainerState) (stop : Option Stop) (window : ℤ) (log : List Step) (chain : IsChain window (run window log).processed)
    (saw : HasSeen (HasExplained e) stop window log) (form : ExplanationForm) (same_form : e.form ≡ form)
    (same : e.history.window ≡ window) where
  explained_at : (proxy : ℕ) (version : ℤ) → text_of e.texts proxy version ≡ explanation_at form window saw.list proxy version
  explained_at proxy version =
      let begins = saw.no_others in
      let own = chain_begins window saw.list begins.0 (run window log).processed begins.1 chain in
      saw.seen.texts (subst (λ (w : ℤ). IsChain w saw.list) (sym same) own) proxy version
      ∙ ap (λ (w : ℤ). explanation_at e.form w saw.list proxy version) same
      ∙ ap (λ (f : ExplanationForm). explanation_at f window saw.list proxy version) same_form

  -- it has the explanations of what it has seen
  pub texts_are : text_of e.texts ≡ explanation_at form window saw.list
  texts_are = λ i proxy version. explained_at proxy version i

  -- these are the batches that it has seen
  pub seen_as : HasSeen (λ seen. seen ≡ saw.list) stop window log
  seen_as = record {
    list = saw.list;
    seen = refl;
    no_others = saw.no_others;
    all = saw.all;
    all_before_last = saw.all_before_last;
  }
