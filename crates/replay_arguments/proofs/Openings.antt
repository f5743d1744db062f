-- One file more is opened, or is a regular one.
use Rattle.std.specs.Prelude.{◌≡◌, ℕ, ◌+◌, ◌<◌, List, [], ◌∷◌, ◌++◌, length, map, take, Option, slice_index_or}
use Rattle.std.specs.Borrow.{Bor}
use Rattle.std.specs.List.{All}
use Rattle.std.proofs.Common.{sym, ap, ◌∙◌}
use Rattle.std.proofs.lemmas.List.{map-append}
use Rattle.std.proofs.lemmas.List.Elements.{All-push, All-same}
use Rattle.replay_arguments.specs.Opening.{contents_each}
use Rattle.keys.proofs.callers.Lists.{take_map_more}

module _ {R : Type 0} (remaining : R → Option (List ℕ)) (contents : List ℕ → Option (List ℕ))
    (has_opened : List ℕ → Type 0) (names : List (Bor (List ℕ))) where
  abbrev texts : List (List ℕ)
  texts = map (λ name. name.now) names

  abbrev pub AreOpened : List R → ℕ → Type 0
  AreOpened readers proxy =
      (map remaining readers ≡ contents_each contents (take proxy texts)) × All has_opened (take proxy texts)

  pub opened_more : (readers after : List R) (proxy : ℕ) (reader : R) (d : Bor (List ℕ)) → proxy < length names
      → after ≡ readers ++ reader ∷ [] → remaining reader ≡ contents (slice_index_or names proxy d).now
      → has_opened (slice_index_or names proxy d).now → AreOpened readers proxy → AreOpened after (proxy + 1)
  opened_more readers after proxy reader d inside pushed holds opened before =
      let more = take_map_more (λ (name : Bor (List ℕ)). name.now) names proxy d inside in (
        ap (map remaining) pushed ∙ map-append remaining readers (reader ∷ [])
            ∙ ap (λ l. l ++ remaining reader ∷ []) before.0
            ∙ ap (λ b. contents_each contents (take proxy texts) ++ b ∷ []) holds
            ∙ sym (map-append contents (take proxy texts) ((slice_index_or names proxy d).now ∷ []))
            ∙ ap (map contents) (sym more),
        All-same has_opened _ _ more (All-push has_opened (take proxy texts) _ before.1 opened),
      )

-- what holds of the first names holds of one more
pub each_more : (Holds : List ℕ → Type 0) (names : List (Bor (List ℕ))) (proxy : ℕ) (d : Bor (List ℕ)) → proxy < length names
    → Holds (slice_index_or names proxy d).now → All Holds (take proxy (map (λ name. name.now) names))
    → All Holds (take (proxy + 1) (map (λ name. name.now) names))
each_more Holds names proxy d inside one before =
    All-same Holds _ _ (take_map_more (λ (name : Bor (List ℕ)). name.now) names proxy d inside)
    (All-push Holds (take proxy (map (λ (name : Bor (List ℕ)). name.now) names)) _ before one)
