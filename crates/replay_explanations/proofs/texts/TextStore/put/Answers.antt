use Rattle.std.proofs.Common.{w64}
use Rattle.std.proofs.lemmas.Int.{to_z-of_z}
use Rattle.replay_explanations.proofs.Keys.{text_put}
use Rattle.replay_explanations.proofs.texts.TextStore.put.Goals as goal

pub returns-in-Ok-clause-kept : goal.returns-in-Ok-clause-kept
returns-in-Ok-clause-kept c = λ absent.
    text_put c.self.inside.kept c.insert.new.self c.args.self.now c.args.proxy _ c.args.version _ c.args.text.items c.self.view_is
    (to_z-of_z w64 c.args.version c.ranges.version) c.new.ensures.items c.in-Ok.ensures.updates.0
