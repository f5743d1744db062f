use Rattle.std.proofs.Common.{◌≡◌, ◌+◌, ℕ, List, String, Global, string_bytes, map, count_by, ap, ◌∙◌, cond}
use Rattle.std.specs.Str.{bytes_eq}
use Rattle.std.proofs.lemmas.Result.{on_ok_weaker}
use Rattle.batches_report.specs.Heat.{heat_of}
use Rattle.batches_report.specs.Names.{is_among, names_at}
use Rattle.keyspace.specs.declared.txn.Txn.{Txn}
use Rattle.batches_report.proofs.heat.Heat.add.Goals as goal

pub returns : goal.returns
returns c = record {
  added = on_ok_weaker c.add_names.result (λ adds name.
      adds name
      ∙ ap (λ (ns : List (String Global)). heat_of c.args.self.now name + count_by (bytes_eq name) (map string_bytes ns)) c.deref.ensures.value
      ∙ ap (λ (n : ℕ). heat_of c.args.self.now name + n) (c.in_ok-names.ensures.once name)
      ∙ ap (λ (places : List ℕ). heat_of c.args.self.now name + cond (is_among (names_at c.args.txn.now places) name) 1 0)
      c.as_slice.ensures.places) c.add_names.ensures.added;
}
