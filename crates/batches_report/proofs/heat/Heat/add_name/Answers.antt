use Rattle.std.proofs.Common.{◌≡◌, ◌+◌, string_bytes, unwrap_or, rules}
use Rattle.std.proofs.lemmas.Map.Text.{btree_map_updates_text}
use Rattle.std.proofs.lemmas.Result.{IfOk-at_ok}
use Rattle.batches_report.specs.Heat.{heat_of}
use Rattle.batches_report.proofs.Counting.{one_more}
use Rattle.batches_report.proofs.heat.Heat.add_name.Goals as goal

pub returns : goal.returns
returns c =
    let named = IfOk-at_ok (λ s. string_bytes s ≡ c.args.name.now) c.in_ok-key.was c.from_str.ensures.ok in
    let sets = btree_map_updates_text (string_bytes c.in_ok-key.key) c.args.self.now.counts c.insert.new.self _ c.in_ok-insert.ensures.updates in
    let next : c.in-Some.after ≡ heat_of c.args.self.now c.args.name.now + 1 = search rules in
    record { added = one_more c.args.self.now.counts c.insert.new.self c.args.name.now c.in-Some.after next (rw named at sets) }
