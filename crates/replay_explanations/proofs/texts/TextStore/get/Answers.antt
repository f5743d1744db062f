use Rattle.std.proofs.Common.{None, Some, w64, ◌∙◌}
use Rattle.std.proofs.lemmas.Int.{to_z-of_z}
use Rattle.replay_explanations.proofs.Keys.{text_found}
use Rattle.replay_explanations.proofs.texts.TextStore.get.Goals as goal

pub returns-in-Some : goal.returns-in-Some
returns-in-Some c = record {
  text =
      c.as_slice.ensures.items
      ∙ text_found c.self.inside.kept c.args.self.now c.args.proxy _ c.args.version (Some c.in-Some.text.now) c.self.view_is
      (to_z-of_z w64 c.args.version c.ranges.version) c.in-Some.ensures.value;
}

pub returns-in-None : goal.returns-in-None
returns-in-None c = record {
  text =
      text_found c.self.inside.kept c.args.self.now c.args.proxy _ c.args.version None c.self.view_is
      (to_z-of_z w64 c.args.version c.ranges.version) c.in-None.ensures.value;
}
