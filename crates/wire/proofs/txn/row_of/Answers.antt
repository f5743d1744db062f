use Rattle.std.proofs.Common.{◌≡◌, ◌-◌, ◌≤◌, drop, length, ap, ◌∙◌, rules, arith}
use Rattle.std.specs.List.{slice_range}
use Rattle.wire.specs.Lying.{index_of}
use Rattle.wire.specs.Reading.{txn_at, version_at}
use Rattle.wire.proofs.Appending.{apart_later, part_stays, part_to_end}
use Rattle.wire.proofs.Heads.{after_head, few_spans}
use Rattle.wire.proofs.txn.row_of.Goals as goal

pub overflow_cast-row : goal.overflow_cast-row
overflow_cast-row c = few_spans c.args.frame.now c.in_ok-rest-2.rest.now c.push_ranges-2.new.spans.items c.len.result
    c.in_ok-rest-2.ensures.apart c.requires.short (search rules)

pub push_ranges-requires-clause-rest : goal.push_ranges-requires-clause-rest
push_ranges-requires-clause-rest c =
    (after_head c.args.frame.now c.args.bytes.now c.in_ok-snapshot.snapshot c.in_ok-snapshot.rest.now
    c.in_ok-marked.marked c.in_ok-marked.rest.now c.in_ok-read_count.read_count c.in_ok-read_count.rest.now
    c.in_ok-write_count.write_count c.in_ok-write_count.rest.now (λ i. omega (arith, c.type_inv.bytes i)) c.requires.rest
    c.in_ok-snapshot.ensures.reads c.in_ok-marked.ensures.reads c.in_ok-read_count.ensures.reads
    c.in_ok-write_count.ensures.reads).0

pub push_ranges-requires-clause-apart : goal.push_ranges-requires-clause-apart
push_ranges-requires-clause-apart c =
    let head = after_head c.args.frame.now c.args.bytes.now c.in_ok-snapshot.snapshot c.in_ok-snapshot.rest.now
    c.in_ok-marked.marked c.in_ok-marked.rest.now c.in_ok-read_count.read_count c.in_ok-read_count.rest.now
    c.in_ok-write_count.write_count c.in_ok-write_count.rest.now (λ i. omega (arith, c.type_inv.bytes i)) c.requires.rest
    c.in_ok-snapshot.ensures.reads c.in_ok-marked.ensures.reads c.in_ok-read_count.ensures.reads
    c.in_ok-write_count.ensures.reads in
    apart_later 0 c.args.spans.now.items (index_of c.args.frame.now c.args.bytes.now)
    (index_of c.args.frame.now c.in_ok-write_count.rest.now) c.requires.apart head.1

pub returns-clause-reads : goal.returns-clause-reads
unfolding txn_at version_at
returns-clause-reads c =
    let first = c.push_ranges.new.spans.items in
    let all = c.push_ranges-2.new.spans.items in
    let from = length c.args.spans.now.items in
    let middle = c.len.result - c.in_ok-write_count.write_count in
    let to : c.len.result ≡ length all = search rules in
    let there : middle ≡ length first = omega (arith, to, c.in_ok-rest-2.ensures.count) in
    let ordered : from ≤ middle = omega (arith, there, c.in_ok-rest.ensures.count) in
    let within : middle ≤ length first = omega (arith, there) in
    let reads : slice_range all from middle ≡ drop from first =
    part_stays first all from middle ordered within c.in_ok-rest-2.ensures.front ∙ part_to_end first from middle there in
    let writes : slice_range all middle c.len.result ≡ drop (length first) all =
    part_to_end all middle c.len.result to ∙ ap (λ n. drop n all) there in
    rw (reads, writes) (search rules)
