use Rattle.std.proofs.Common.{◌≡◌, ◌==◌, ◌&&◌, ℕ, ℤ, cond, Some, FitsSigned, w64, rules, refl, sym, ap, ◌∙◌}
use Rattle.std.specs.BTreeMap as tree
use Rattle.std.specs.BTreeMap.{is_at}
use Rattle.std.specs.FinMap as map
use Rattle.std.specs.Ordering.{int_eq}
use Rattle.std.proofs.lemmas.Int.{to_z-of_z}
use Rattle.chain.specs.Replies.{key_cmp}
use Rattle.keyspace.proofs.callers.ProxyVersions.{is_at-pair}
use Rattle.chain.proofs.KeptKeys.{at_version, get-map_of, map_of-put, IsFiled-put}
use Rattle.chain.proofs.replies.Replies.put.Goals as goal

updated : (c : goal.Joined-insert-2) (q : ℕ × ℤ)
    → tree.get key_cmp c.insert.new.self q
    ≡ cond (is_at (key_cmp (c.args.proxy, c.args.reply.version)) q) (Some c.args.reply)
    (tree.get key_cmp c.self.inside.kept q)
updated c =
    let fits : FitsSigned w64 c.args.reply.version = search rules in
    at_version c.self.inside.kept c.insert.new.self c.args.proxy c.args.reply.version _ (Some c.args.reply)
    (to_z-of_z w64 c.args.reply.version fits)
    c.in-Ok.ensures.updates.0

pub invariant_of-self : goal.invariant_of-self
invariant_of-self c =
    IsFiled-put c.self.inside.kept c.insert.new.self (
      c.args.proxy,
      c.args.reply.version,
    ) c.args.reply refl (updated c) c.self.invariant

pub returns-in-Ok-clause-ok : goal.returns-in-Ok-clause-ok
returns-in-Ok-clause-ok c =
    map_of-put c.self.inside.kept c.insert.new.self (
      c.args.proxy,
      c.args.reply.version,
    ) c.args.reply (updated c)
    ∙ ap (λ m. map.insert m (c.args.proxy, c.args.reply.version) c.args.reply) c.self.view_is

pub returns-in-Ok-clause-kept : goal.returns-in-Ok-clause-kept
returns-in-Ok-clause-kept c = λ p v.
    get-map_of c.insert.new.self (p, v) ∙ updated c (p, v)
    ∙ ap (λ b. cond b (Some c.args.reply) (tree.get key_cmp c.self.inside.kept (p, v)))
    (is_at-pair c.args.proxy p c.args.reply.version v)
    ∙ ap (cond ((c.args.proxy == p) && int_eq c.args.reply.version v) (Some c.args.reply))
    (sym (get-map_of c.self.inside.kept (p, v)) ∙ ap (λ m. map.get m (p, v)) c.self.view_is)
