use Rattle.std.proofs.Common.{sym, ap, ◌∙◌, List, ℕ}
use Rattle.std.specs.Str.{bytes_eq}
use Rattle.batches_report.proofs.Naming.{found_at}
use Rattle.batches_report.proofs.names.is_among.Goals as goal

pub returns-then-eq : goal.returns-then-eq
returns-then-eq c =
    let test = ap (bytes_eq c.args.name.now) (sym c.as_str.ensures.value) ∙ sym c.eq.ensures ∙ c.if-eq.true in record {
      exact =
          sym (found_at c.args.names.now c.loop-other.other-index c.other-item.result c.args.name.now c.loop-other-test.true
          c.other-item.is test);
    }
