-- What an explainer holds, from the batches that it saw before to one more.
use Rattle.std.proofs.Common.{◌≡◌, ℕ, Bool, true, false, ◌&&◌, ◌==◌, cond, List, [], ◌∷◌, ◌++◌, Some, None, Option, refl, sym, ap, subst, ◌∙◌, arith, append_assoc, append-nil}
use Rattle.std.specs.Prelude.{ℤ, ◌≤ℤ◌, ◌<ℤ◌, ◌-ℤ◌, pos, All, IfSome, OnErr, Result, Ok, Err, int_lt}
use Rattle.std.specs.Int.{int_max}
use Rattle.std.specs.Ordering.{int_eq}
use Rattle.std.proofs.lemmas.Int.{ints}
use Rattle.std.proofs.lemmas.Bool.Decides.{Decides-int_eq}
use Rattle.std.proofs.lemmas.List.Elements.{All-head, All-tail}
use Rattle.keys.proofs.callers.Booleans.{and_right, false_unless}
use Rattle.keyspace.specs.declared.batch.Batch.{Batch}
use Rattle.keyspace.specs.Processed.{Processed}
use Rattle.keyspace.specs.Chain.{IsChain}
use Rattle.keyspace.specs.Judged.{edge}
use Rattle.explanations.specs.Explains.{newest_of}
use Rattle.explanations.specs.History.{FollowsChain, Keeps}
use Rattle.explanations.proofs.callers.Chains.{Precedes, versions_below}
use Rattle.explanations.proofs.callers.Following.{chain_before, edge_within, follows_more}
use Rattle.replay_explanations.specs.declared.form.ExplanationForm.{ExplanationForm}
use Rattle.replay_explanations.specs.Lines.{explanation, explanation_at, explanation_from}
use Rattle.replay_explanations.specs.Explainer.{ExplainerState, HasExplained, Texts, text_of}
use Rattle.replay_explanations.proofs.Same.{same_explanation}

-- the batch of a proxy and version

abbrev is_batch : Processed → ℕ → ℤ → Bool
is_batch p proxy version = (p.proxy == proxy) && int_eq p.batch.version version

has_version : (p : Processed) (proxy : ℕ) (version : ℤ) → is_batch p proxy version ≡ true → p.batch.version ≡ version
has_version p proxy version is =
    (Decides-int_eq p.batch.version version).0 (and_right (p.proxy == proxy) (int_eq p.batch.version version) is)

not_below_itself : (a : ℤ) → a <ℤ a → ⊥
not_below_itself a h = omega (arith, ints)

apart : (p q : Processed) (version : ℤ) → Precedes p q → q.batch.version ≡ version → p.batch.version ≡ version → ⊥
apart p q version lower first second =
    not_below_itself version
    (subst (λ (z : ℤ). z <ℤ version) first (subst (λ (z : ℤ). q.batch.version <ℤ z) second lower))

none_yet : (form : ExplanationForm) (window : ℤ) (before ps : List Processed) (p : Processed) → All (Precedes p) ps
    → explanation_from form window before ps p.proxy p.batch.version ≡ []
none_yet form window before [] p all = refl
none_yet form window before (q ∷ ps) p all =
    let other : is_batch q p.proxy p.batch.version ≡ false =
    false_unless (is_batch q p.proxy p.batch.version) (λ is.
    apart p q p.batch.version (All-head (Precedes p) q ps all) (has_version q p.proxy p.batch.version is) refl) in
    ap (λ b. cond b (explanation form window (before ++ q ∷ []) q)
    (explanation_from form window (before ++ q ∷ []) ps p.proxy p.batch.version)) other
    ∙ none_yet form window (before ++ q ∷ []) ps p (All-tail (Precedes p) q ps all)

explained_more : (form : ExplanationForm) (window : ℤ) (before ps : List Processed) (p : Processed) (proxy : ℕ) (version : ℤ) → All (Precedes p) ps
    → explanation_from form window before (ps ++ p ∷ []) proxy version
    ≡ cond (is_batch p proxy version) (explanation form window ((before ++ ps) ++ p ∷ []) p) (explanation_from form window before ps proxy version)
explained_more form window before [] p proxy version all =
    ap (λ (qs : List Processed). cond (is_batch p proxy version) (explanation form window (qs ++ p ∷ []) p) []) (sym (append-nil before))
explained_more form window before (q ∷ ps) p proxy version all =
    go (is_batch q proxy version) refl (explained_more form window (before ++ q ∷ []) ps p proxy version (All-tail (Precedes p) q ps all))
  where
    go : (b : Bool) → is_batch q proxy version ≡ b
        → explanation_from form window (before ++ q ∷ []) (ps ++ p ∷ []) proxy version
        ≡ cond (is_batch p proxy version) (explanation form window (((before ++ q ∷ []) ++ ps) ++ p ∷ []) p)
        (explanation_from form window (before ++ q ∷ []) ps proxy version)
        → cond b (explanation form window (before ++ q ∷ []) q) (explanation_from form window (before ++ q ∷ []) (ps ++ p ∷ []) proxy version)
        ≡ cond (is_batch p proxy version) (explanation form window ((before ++ (q ∷ ps)) ++ p ∷ []) p)
        (cond b (explanation form window (before ++ q ∷ []) q) (explanation_from form window (before ++ q ∷ []) ps proxy version))
    go true is rest =
        let other : is_batch p proxy version ≡ false =
        false_unless (is_batch p proxy version) (λ own.
        apart p q version (All-head (Precedes p) q ps all) (has_version q proxy version is) (has_version p proxy version own)) in
        ap (λ b. cond b (explanation form window ((before ++ (q ∷ ps)) ++ p ∷ []) p) (explanation form window (before ++ q ∷ []) q)) (sym other)
    go false is rest =
        rest
        ∙ ap (λ (qs : List Processed). cond (is_batch p proxy version) (explanation form window (qs ++ p ∷ []) p)
        (explanation_from form window (before ++ q ∷ []) ps proxy version)) (append_assoc before (q ∷ []) ps)

-- the texts before, and the version of the batch
pub put_same : (old before new : Texts) (proxy : ℕ) (given version : ℤ) (text : List ℕ) → old ≡ before → given ≡ version
    → (text_of old proxy given ≡ [] → (q : ℕ) (v : ℤ)
    → text_of new q v ≡ cond ((proxy == q) && int_eq given v) text (text_of old q v))
    → text_of before proxy version ≡ [] → (q : ℕ) (v : ℤ)
    → text_of new q v ≡ cond ((proxy == q) && int_eq version v) text (text_of before q v)
put_same old before new proxy given version text same_texts same_version put =
    subst (λ (texts : Texts). text_of texts proxy version ≡ [] → (q : ℕ) (v : ℤ)
    → text_of new q v ≡ cond ((proxy == q) && int_eq version v) text (text_of texts q v)) same_texts
    (subst (λ (z : ℤ). text_of old proxy z ≡ [] → (q : ℕ) (v : ℤ)
    → text_of new q v ≡ cond ((proxy == q) && int_eq z v) text (text_of old q v)) same_version put)

-- what holds after an error
pub on_err : {A E : Type 0} (r : Result A E) (P : Type 0) → P → OnErr r P
on_err (Ok x) P p = tt
on_err (Err e) P p = p

-- memory was refused
pub has_seen_no_more : (e f : ExplainerState) (ps : List Processed) → f.has_failed ≡ true → f.texts ≡ e.texts
    → f.history.window ≡ e.history.window → f.form ≡ e.form → HasExplained e ps → HasExplained f ps
has_seen_no_more e f ps failed texts window form seen = record {
  follows = λ working chain. absurd (let both : true ≡ false = sym failed ∙ working in cc);
  texts = λ chain proxy version.
      ap (λ x. text_of x proxy version) texts
      ∙ seen.texts (subst (λ (w : ℤ). IsChain w ps) window chain) proxy version
      ∙ ap (λ (w : ℤ). explanation_at e.form w ps proxy version) (sym window)
      ∙ ap (λ (x : ExplanationForm). explanation_at x f.history.window ps proxy version) (sym form);
}

module _ (e f : ExplainerState) (p : Processed) (text : List ℕ)
    (open_before : e.has_failed ≡ false) (same_window : f.history.window ≡ e.history.window) (same_form : f.form ≡ e.form)
    (keeps : (ps : List Processed) → Keeps ps e.history → Keeps (ps ++ p ∷ []) f.history)
    (edge_is : f.history.edge ≡ int_max e.history.edge (edge e.history.window p.batch))
    (newest : newest_of f.history.kept ≡ Some p.batch)
    (text_is : text ≡ explanation f.form f.history.window f.history.kept p)
    (put : text_of e.texts p.proxy p.batch.version ≡ [] → (proxy : ℕ) (version : ℤ)
    → text_of f.texts proxy version ≡ cond (is_batch p proxy version) text (text_of e.texts proxy version)) where
  module _ (ps : List Processed) (seen : HasExplained e ps) (chain : IsChain f.history.window (ps ++ p ∷ [])) where
    old_chain : IsChain e.history.window (ps ++ p ∷ [])
    old_chain = subst (λ (w : ℤ). IsChain w (ps ++ p ∷ [])) same_window chain

    all_before : All (Precedes p) ps
    all_before = versions_below e.history.window ps p old_chain

    followed : FollowsChain e.history ps
    followed = seen.follows open_before (chain_before e.history.window ps p old_chain)

    low : f.history.edge ≤ℤ edge f.history.window p.batch
    low = edge_within e.history f.history p same_window keeps edge_is ps old_chain followed

    texts_more : (proxy : ℕ) (version : ℤ)
        → text_of f.texts proxy version ≡ explanation_at f.form f.history.window (ps ++ p ∷ []) proxy version
    texts_more proxy version =
        let window = f.history.window in
        let form = f.form in
        let before : (q : ℕ) (v : ℤ) → text_of e.texts q v ≡ explanation_at form window ps q v =
        λ q v. seen.texts (chain_before e.history.window ps p old_chain) q v
        ∙ ap (λ (w : ℤ). explanation_at e.form w ps q v) (sym same_window)
        ∙ ap (λ (x : ExplanationForm). explanation_at x window ps q v) (sym same_form) in
        put (before p.proxy p.batch.version ∙ none_yet form window [] ps p all_before) proxy version
        ∙ ap (λ (xs : List ℕ). cond (is_batch p proxy version) text xs) (before proxy version)
        ∙ ap (λ (xs : List ℕ). cond (is_batch p proxy version) xs (explanation_at form window ps proxy version))
        (text_is
        ∙ sym (same_explanation form window ps p f.history chain (keeps ps followed.keeps) newest low))
        ∙ sym (explained_more form window [] ps p proxy version all_before)

  -- one more batch is explained
  pub has_seen_more : (ps : List Processed) → HasExplained e ps → HasExplained f (ps ++ p ∷ [])
  has_seen_more ps seen = record {
    follows = λ working chain.
        follows_more e.history f.history p same_window keeps edge_is ps (old_chain ps seen chain) (followed ps seen chain);
    texts = λ chain. texts_more ps seen chain;
  }
