use Rattle.std.proofs.lemmas.Str.{IsUtf8-from_ascii}
use Rattle.json_lines.proofs.range_writer.as_text.Goals as goal

pub returns-in-Err : goal.returns-in-Err
returns-in-Err c = absurd (c.in-Err.ensures.cases.0 (IsUtf8-from_ascii c.args.form.now c.requires.ascii))
