use Rattle.std.proofs.Common.{◌≡◌, option_copied, w64, sym, ap, ◌∙◌}
use Rattle.std.specs.BTreeMap as tree
use Rattle.std.specs.FinMap as map
use Rattle.std.proofs.lemmas.Int.{to_z-of_z}
use Rattle.chain.specs.Replies.{key_cmp}
use Rattle.chain.proofs.KeptKeys.{get-map_of, found_own}
use Rattle.chain.proofs.replies.Replies.find.Goals as goal

found : (c : goal.After-get)
    → option_copied c.get.result ≡ tree.get key_cmp c.self.inside.kept (c.args.proxy, c.args.version)
found c =
    c.get.ensures.value
    ∙ ap (λ v. tree.get key_cmp c.self.inside.kept (c.args.proxy, v))
    (to_z-of_z w64 c.args.version c.ranges.version)

pub returns-clause-reply : goal.returns-clause-reply
returns-clause-reply c =
    found c ∙ sym (get-map_of c.self.inside.kept (c.args.proxy, c.args.version))
    ∙ ap (λ m. map.get m (c.args.proxy, c.args.version)) c.self.view_is

pub returns-clause-own_version : goal.returns-clause-own_version
returns-clause-own_version c =
    found_own c.self.inside.kept c.args.proxy c.args.version c.get.result c.self.invariant (found c)
