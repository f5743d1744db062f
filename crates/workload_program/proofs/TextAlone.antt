-- Which errors come of words that ask for a text alone.
use Rattle.std.specs.Prelude.{◌≡◌, ◌⊎◌, [], ◌∷◌}
use Rattle.std.proofs.Common.{inl, inr, subst, sym, ◌∙◌}
use Rattle.clap.specs.Words.{IsAmong, Kinds}
use Rattle.clap.specs.declared.error.kind.ErrorKind.{ErrorKind}
use Rattle.clap.specs.declared.error.kind.ErrorKind.TheVariants.{DisplayHelp, DisplayVersion}

-- the kinds are those of a request alone
abbrev pub AreOfText : Kinds → Type 0
AreOfText kinds = (kinds ≡ DisplayHelp ∷ []) ⊎ (kinds ≡ DisplayVersion ∷ [])

-- there is a kind
pub some_kind : (kinds : Kinds) → AreOfText kinds → ¬ (kinds ≡ [])
some_kind kinds (inl help) none = let bad : DisplayHelp ∷ [] ≡ [] = sym help ∙ none in absurd cc
some_kind kinds (inr version) none = let bad : DisplayVersion ∷ [] ≡ [] = sym version ∙ none in absurd cc

-- an error of one of the kinds shows a text
pub shows_text : (kinds : Kinds) (kind : ErrorKind) → AreOfText kinds → IsAmong kind kinds
    → (kind ≡ DisplayHelp) ⊎ (kind ≡ DisplayVersion)
shows_text kinds kind (inl help) among =
    elim (subst (λ (ks : Kinds). IsAmong kind ks) help among) [ inl is ↦ inl is | inr none ↦ absurd none ]
shows_text kinds kind (inr version) among =
    elim (subst (λ (ks : Kinds). IsAmong kind ks) version among) [ inl is ↦ inr is | inr none ↦ absurd none ]
