-- What an explainer holds of the batches that it saw. This project's own.
use Rattle.std.specs.Prelude.{◌≡◌, ℕ, ℤ, Bool, false, List, [], Option, None, Some}
use Rattle.std.specs.declared.cmp.Ordering.{Ordering}
use Rattle.std.specs.Ordering.{nat_cmp, int_cmp, ordering_then}
use Rattle.std.specs.FinMap as map
use Rattle.keyspace.specs.Chain.{IsChain}
use Rattle.keyspace.specs.Processed.{Processed}
use Rattle.explanations.specs.History.{FollowsChain, HistoryState}
use Rattle.replay_explanations.specs.declared.form.ExplanationForm.{ExplanationForm}
use Rattle.replay_explanations.specs.Lines.{explanation_at}

-- by proxy, and then by version
abbrev pub key_cmp : ℕ × ℤ → ℕ × ℤ → Ordering
key_cmp a b = ordering_then (nat_cmp a.0 b.0) (int_cmp a.1 b.1)

-- the lines of each batch that has any, by its proxy and version
abbrev pub Texts : Type 0
Texts = map.FinMap key_cmp (List ℕ)

abbrev pub text_or_none : Option (List ℕ) → List ℕ
text_or_none None = []
text_or_none (Some text) = text

-- the lines of the batch of this proxy and version, or none
abbrev pub text_of : Texts → ℕ → ℤ → List ℕ
text_of texts proxy version = text_or_none (map.get texts (proxy, version))

pub record ExplainerState : Type 0 where
  pub form : ExplanationForm
  pub history : HistoryState
  pub texts : Texts
  -- memory was refused, and what it saw last isn't explained
  pub has_failed : Bool

-- what stays the same of an explainer
pub record Setting : Type 0 where
  pub form : ExplanationForm
  -- how far back a transaction may read, in versions
  pub window : ℤ

abbrev pub setting_of : ExplainerState → Setting
setting_of e = record { form = e.form; window = e.history.window }

-- it has seen these batches: if they are a chain with right replies, it has the explanation of each
pub record HasExplained (e : ExplainerState) (ps : List Processed) : Type 0 where
  pub follows : e.has_failed ≡ false → IsChain e.history.window ps → FollowsChain e.history ps
  pub texts :
      IsChain e.history.window ps → (proxy : ℕ) (version : ℤ)
      → text_of e.texts proxy version ≡ explanation_at e.form e.history.window ps proxy version
