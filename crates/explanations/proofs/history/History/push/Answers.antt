use Rattle.std.proofs.Common.{◌≡◌, ◌≤ℤ◌, ◌-ℤ◌, ◌++◌, ◌∷◌, [], pos, w64, to_z, of_z, SFits, rules, sym, ap, subst, ◌∙◌}
use Rattle.std.specs.Int.{int_max}
use Rattle.std.proofs.lemmas.Int.{to_z-of_z}
use Rattle.keyspace.specs.declared.batch.Batch.{Batch}
use Rattle.explanations.specs.Explains.{newest_of}
use Rattle.explanations.specs.History.{HistoryState, DropsUpTo}
use Rattle.explanations.proofs.Rising.{newest_of-more}
use Rattle.explanations.proofs.Dropping.{bound_of, drops_then, drops_push, max_same}
use Rattle.explanations.proofs.history.History.push.Goals as goal

pub returns-clause-keeps : goal.returns-clause-keeps
returns-clause-keeps c = λ ps keeps.
    let old = c.args.self.now in
    let fits : SFits w64 c.max-self-inside.result = search rules in
    let same = to_z-of_z w64 c.max-self-inside.result fits in
    let kept_is = ap (λ (s : HistoryState). s.kept) c.self.view_is in
    let edge_is = ap (λ (s : HistoryState). s.edge) c.self.view_is in
    let bound : c.self.inside.edge ≤ℤ c.max-self-inside.result =
    bound_of _ c.self.inside.edge c.max-self-inside.result c.max-self-inside.ensures.other_bound (search rules) in
    let rises : old.edge ≤ℤ to_z w64 (of_z w64 c.max-self-inside.result) =
    subst (λ z. old.edge ≤ℤ z) (sym same) (subst (λ z. z ≤ℤ c.max-self-inside.result) edge_is bound) in
    let first : DropsUpTo old.edge ps c.reserve.new.self.items =
    subst (DropsUpTo old.edge ps) (sym (c.in_ok-reserve.ensures.items ∙ kept_is)) keeps in
    let passed : DropsUpTo (to_z w64 (of_z w64 (to_z w64 (of_z w64 c.max-self-inside.result)))) c.reserve.new.self.items
    c.drop_old.new.kept.items =
    c.drop_old.ensures.drops in
    let second : DropsUpTo (to_z w64 (of_z w64 c.max-self-inside.result)) c.reserve.new.self.items c.drop_old.new.kept.items =
    subst (λ z. DropsUpTo z c.reserve.new.self.items c.drop_old.new.kept.items) (ap (λ z. to_z w64 (of_z w64 z)) same) passed in
    let items : c.push_back_reserved.new.self.items ≡ c.drop_old.new.kept.items ++ c.args.processed ∷ [] =
    c.push_back_reserved.ensures.items in
    subst (DropsUpTo (to_z w64 (of_z w64 c.max-self-inside.result)) (ps ++ c.args.processed ∷ [])) (sym items)
    (drops_push (to_z w64 (of_z w64 c.max-self-inside.result)) ps c.drop_old.new.kept.items c.args.processed
    (drops_then old.edge (to_z w64 (of_z w64 c.max-self-inside.result)) ps c.reserve.new.self.items c.drop_old.new.kept.items rises
    first second))

pub returns-clause-edge : goal.returns-clause-edge
returns-clause-edge c =
    let old = c.args.self.now in
    let fits : SFits w64 c.max-self-inside.result = search rules in
    let same = to_z-of_z w64 c.max-self-inside.result fits in
    let window_is = ap (λ (s : HistoryState). s.window) c.self.view_is in
    let edge_is = ap (λ (s : HistoryState). s.edge) c.self.view_is in
    let value : c.max-self-inside.result ≡ int_max (c.batch.result.now.version -ℤ c.self.inside.window) c.self.inside.edge = search rules in
    let natural : pos 0 ≤ℤ old.edge = subst (λ z. pos 0 ≤ℤ z) edge_is c.self.invariant.natural in
    same ∙ value
    ∙ ap (λ z. int_max (c.batch.result.now.version -ℤ c.self.inside.window) z) edge_is
    ∙ ap (λ z. int_max (c.batch.result.now.version -ℤ z) old.edge) window_is
    ∙ ap (λ (b : Batch). int_max (b.version -ℤ old.window) old.edge) c.batch.ensures.batch
    ∙ max_same (c.args.processed.batch.version -ℤ old.window) old.edge natural

pub returns-clause-newest : goal.returns-clause-newest
returns-clause-newest c =
    let items : c.push_back_reserved.new.self.items ≡ c.drop_old.new.kept.items ++ c.args.processed ∷ [] =
    c.push_back_reserved.ensures.items in
    ap newest_of items ∙ newest_of-more c.drop_old.new.kept.items c.args.processed
