use Rattle.std.proofs.Common.{◌≡◌, ℕ, ◌+◌, List, length, vec_len, map, ap, subst, ◌∙◌, rules, arith, w64}
use Rattle.std.proofs.lemmas.Int.{to_z-of_z}
use Rattle.keyspace.specs.storage.Tables.{range_of_span}
use Rattle.wire.specs.Lying.{AreApart, range_read}
use Rattle.wire.proofs.Keeping.{are_tables, txns_sealed}
use Rattle.wire.proofs.batch.unordered_of.Goals as goal

pub new-requires-clause-tables : goal.new-requires-clause-tables
new-requires-clause-tables c =
    let frame = c.args.frame.items in
    let tables = c.args.tables in
    let sealed = c.seal.new.frame.items in
    let len : vec_len c.args.frame ≡ length frame = search rules in
    let count : length sealed ≡ length frame + 1 = search rules in
    are_tables frame sealed tables
    (subst (λ (n : ℕ). AreApart 0 tables.spans.items n) len c.requires.apart) count (search rules) c.requires.holds

pub new-requires-clause-few : goal.new-requires-clause-few
new-requires-clause-few c =
    let frame = c.args.frame.items in
    let tables = c.args.tables in
    let sealed = c.seal.new.frame.items in
    let reported : map (range_of_span sealed) tables.spans.items ≡ map (range_read frame) tables.spans.items = search rules in
    omega (arith, c.requires.holds.few, ap length (txns_sealed frame sealed tables.spans.items 0 tables.rows.items reported))

pub returns : goal.returns
returns c =
    let frame = c.args.frame.items in
    let tables = c.args.tables in
    let sealed = c.seal.new.frame.items in
    let holds = c.requires.holds in
    let reported : map (range_of_span sealed) tables.spans.items ≡ map (range_read frame) tables.spans.items = search rules in
    let txns = c.new.ensures.txns ∙ txns_sealed frame sealed tables.spans.items 0 tables.rows.items reported in
    record {
      fields = λ i. record {
        previous = (c.new.ensures.previous ∙ to_z-of_z w64 tables.previous holds.previous_fits) i;
        version = (c.new.ensures.version ∙ to_z-of_z w64 tables.version holds.version_fits) i;
        received = (c.new.ensures.received ∙ to_z-of_z w64 tables.received holds.received_fits) i;
        txns = txns i;
      };
    }
