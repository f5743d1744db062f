use Rattle.std.proofs.Common.{◌≡◌, ℕ, ℤ, not, None, w64, if◌then◌else◌, sym, ap, ◌∙◌}
use Rattle.std.specs.BTreeMap as tree
use Rattle.std.specs.FinMap as map
use Rattle.std.proofs.lemmas.Int.{to_z-of_z}
use Rattle.chain.specs.Replies.{is_up_to, key_cmp}
use Rattle.chain.proofs.KeptKeys.{get-map_of, map_of-dropped}
use Rattle.chain.proofs.replies.Replies.forget_to.Goals as goal

dropped : (c : goal.After-drop_up_to) (q : ℕ × ℤ)
    → tree.get key_cmp c.drop_up_to.new.kept q
    ≡ (if is_up_to c.args.proxy c.args.version q then None else tree.get key_cmp c.self.inside.kept q)
dropped c q =
    c.drop_up_to.ensures.dropped q
    ∙ ap (λ v. if is_up_to c.args.proxy v q then None else tree.get key_cmp c.self.inside.kept q)
    (to_z-of_z w64 c.args.version c.ranges.version)

pub returns-clause-forgotten : goal.returns-clause-forgotten
returns-clause-forgotten c =
    map_of-dropped c.self.inside.kept c.drop_up_to.new.kept c.args.proxy c.args.version (dropped c)
    ∙ ap (λ m. map.retain_keys m (λ key. not (is_up_to c.args.proxy c.args.version key))) c.self.view_is

pub returns-clause-kept : goal.returns-clause-kept
returns-clause-kept c = λ p v.
    get-map_of c.drop_up_to.new.kept (p, v) ∙ dropped c (p, v)
    ∙ ap (λ o. if is_up_to c.args.proxy c.args.version (p, v) then None else o)
    (sym (get-map_of c.self.inside.kept (p, v)) ∙ ap (λ m. map.get m (p, v)) c.self.view_is)
