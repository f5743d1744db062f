-- How many resolvers are found, beside the other options.
use Rattle.std.specs.Prelude.{◌≡◌, ℕ, ◌≤◌, Bool, true, false, List, codes, Option, None, Some, is_some, option_map}
use Rattle.std.specs.Borrow.{Bor}
use Rattle.std.proofs.Common.{refl, sym, ap, ◌∙◌, subst}
use Rattle.std.proofs.lemmas.Bool.{false≢true}
use Rattle.clap.specs.Words.{Row, all_of, first_of}
use Rattle.replay_output.specs.declared.options.reports.Reports.{Reports}
use Rattle.replay_output.specs.declared.options.reports.Reports.TheVariants.{All, Asked}
use Rattle.replay_arguments.specs.declared.arguments.shard_options.Sharding.{Sharding}
use Rattle.replay_arguments.specs.Arguments.{HasSharding, HoldsExplain, HoldsReports, HoldsResolvers, HoldsSharding, HoldsStream, HoldsTop, IsShared, IsTop, inputs_of, reports_all}
use Rattle.replay_arguments.proofs.Getters.{bool_text_same}
use Rattle.replay_arguments.proofs.Numbers.{Some-injective}

-- one number is found
pub one_number : (rows : List Row) (n m : ℕ) → HoldsResolvers rows n → HoldsResolvers rows m → n ≡ m
one_number rows n m first second = Some-injective (sym first.number ∙ second.number)

-- no ranges are found to be listed, so none are
pub top_none : (found : Option (List ℕ)) (top : Option ℕ) → IsTop found None → IsTop found top → top ≡ None
top_none None None none is = refl
top_none None (Some n) none is = absurd is
top_none (Some text) top none is = absurd none

-- not all transactions report, so those do that ask for it
pub reports_asked : (reports : Reports) → reports_all reports ≡ false → reports ≡ Asked
reports_asked Asked is = refl
reports_asked All is = absurd (false≢true (sym is))

module _ (rows : List Row) (n : ℕ) (holds : HoldsResolvers rows n) where
  -- several resolvers are found, which can't do what else is found
  pub not_shared : 2 ≤ n → ¬ (IsShared rows) → ¬ (HasSharding rows)
  not_shared several not has =
      not (has.1.1.several (subst (λ (m : ℕ). 2 ≤ m) (one_number rows n has.1.0.resolvers holds has.1.1.resolvers) several))

  -- one resolver is found, and split points
  pub not_one : n ≡ 1 → is_some (first_of (codes "split-points") rows) ≡ true → ¬ (HasSharding rows)
  not_one one some has =
      let none = has.1.1.one (sym (one_number rows n has.1.0.resolvers holds has.1.1.resolvers) ∙ one) in
      let found : first_of (codes "split-points") rows ≡ None =
      has.1.1.split_points ∙ ap (option_map (λ (name : Bor (List ℕ)). name.now)) none in
      false≢true (sym (ap is_some found) ∙ some)

  -- several resolvers are found, and nothing that they can't do
  pub shared : (is_streamed explains : Bool) (top : Option ℕ) (reports : Reports) → HoldsStream rows is_streamed → HoldsExplain rows explains
      → HoldsTop rows top → HoldsReports rows reports → is_streamed ≡ false → explains ≡ false → top ≡ None → reports ≡ Asked → inputs_of (all_of (codes "FILE") rows) ≡ 0 → IsShared rows
  shared is_streamed explains top reports stream explain listed reported off unexplained none asked no_input = record {
    at_end = subst (HoldsStream rows) off stream;
    unexplained = subst (HoldsExplain rows) unexplained explain;
    no_ranges = subst (λ (top : Option ℕ). HoldsTop rows top) none listed;
    asked = subst (λ (reports : Reports). HoldsReports rows reports) asked reported;
    no_input = no_input;
  }

  -- what several resolvers can't do is not found beside them
  pub parts_of_shared : (is_streamed explains : Bool) (top : Option ℕ) (reports : Reports) → HoldsStream rows is_streamed
      → HoldsExplain rows explains → HoldsTop rows top → HoldsReports rows reports → IsShared rows
      → (is_streamed ≡ false) × (explains ≡ false) × (top ≡ None) × (reports ≡ Asked)
  parts_of_shared is_streamed explains top reports stream explain listed reported is = (
    bool_text_same is_streamed false (Some-injective (sym stream ∙ is.at_end)),
    bool_text_same explains false (Some-injective (sym explain ∙ is.unexplained)),
    top_none (first_of (codes "top") rows) top is.no_ranges listed,
    reports_asked reports (bool_text_same (reports_all reports) false (Some-injective (sym reported ∙ is.asked))),
  )

pub none_of : {X : Type 0} (o : Option X) → is_some o ≡ false → o ≡ None
none_of None is = refl
none_of (Some x) is = absurd (false≢true (sym is))
