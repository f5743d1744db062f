use Rattle.std.proofs.Common.{Some, ap, sym, ◌∙◌, rules, w64, SFits}
use Rattle.std.proofs.lemmas.Int.{to_z-of_z}
use Rattle.json.specs.Find.{as_number}
use Rattle.json.specs.Value.{value_view}
use Rattle.json_lines.proofs.Numbers.{parsed}
use Rattle.json_lines.proofs.scalar.number_of.Goals as goal

pub returns-in-Some : goal.returns-in-Some
returns-in-Some c =
    let fits : SFits w64 c.in-Some.number = search rules in
    record {
      reads = parsed (as_number (value_view c.args.value.now)) c.as_i64.result c.as_i64.ensures ∙ c.in-Some.is
          ∙ ap Some (sym (to_z-of_z w64 c.in-Some.number fits));
    }

pub returns-in-None : goal.returns-in-None
returns-in-None c = record {
  reads = λ _. parsed (as_number (value_view c.args.value.now)) c.as_i64.result c.as_i64.ensures ∙ c.in-None.is;
}
