use Rattle.std.proofs.Common.{◌≡◌, ◌∙◌, ap, true}
use Rattle.clap.specs.Words.{App, app_of}
use Rattle.clap.specs.Simple.{app_of_fields}
use Rattle.replay_arguments.proofs.arguments.command.program.Goals as goal

abbrev with_version : App → App
with_version app = record app { top = record app.top { has_version = true } }

pub returns : goal.returns
returns c =
    let version : app_of c.version.result ≡ with_version (app_of c.new.result) =
    ap app_of_fields c.version.ensures in
    let about : app_of c.about.result ≡ app_of c.version.result = ap app_of_fields c.about.ensures in
    let help : app_of c.after_long_help.result ≡ app_of c.about.result = ap app_of_fields c.after_long_help.ensures in
    record { app = help ∙ about ∙ version ∙ ap with_version c.new.ensures.app }
