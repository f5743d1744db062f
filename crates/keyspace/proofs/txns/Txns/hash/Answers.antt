use Rattle.std.proofs.Common.{arith, ◌≡◌, ◌<◌, ◌≤◌, ℕ, List, length, get_or, ap, ◌∙◌}
use Rattle.std.specs.Prelude.{Option, slice_get}
use Rattle.keyspace.specs.declared.txn.Txn.{Txn}
use Rattle.keyspace.specs.storage.BatchRanges.{ranges_in}
use Rattle.keyspace.specs.storage.Fields.{txns_with}
use Rattle.keyspace.specs.storage.Tables.{txns_of_tables}
use Rattle.keyspace.proofs.ReadHashes.{hash_found, hash_missing}
use Rattle.keyspace.proofs.txns.Txns.hash.Goals as goal

pub returns-in-Some : goal.returns-in-Some
returns-in-Some c =
    let kept = c.self.inside in
    let hashes = kept.hashes.items in
    let txns = txns_with (txns_of_tables kept.buffer.items kept.spans.items kept.rows.items) kept.tables.holds in
    let lookup = c.in-Some.ensures.lookup in
    let long : length c.deref.result.now ≡ length hashes = ap length c.deref.ensures.value in
    let within : c.args.index < length hashes = omega arith in
    record {
      hash = λ range there.
          hash_found (ranges_in txns) hashes c.self.invariant.3 c.args.index range
          (ap (λ (ts : List Txn). slice_get (ranges_in ts) c.args.index) c.self.view_is ∙ there) c.in-Some.hash.now within
          (lookup.1 ∙ ap (λ (hs : List (Option ℕ)). get_or hs c.args.index c.in-Some.hash.now) c.deref.ensures.value);
    }

pub returns-in-None : goal.returns-in-None
returns-in-None c =
    let kept = c.self.inside in
    let hashes = kept.hashes.items in
    let txns = txns_with (txns_of_tables kept.buffer.items kept.spans.items kept.rows.items) kept.tables.holds in
    let lookup = c.in-None.ensures.lookup in
    let long : length c.deref.result.now ≡ length hashes = ap length c.deref.ensures.value in
    let past : length hashes ≤ c.args.index = omega arith in
    record {
      hash = λ range there.
          hash_missing (ranges_in txns) hashes c.self.invariant.3 c.args.index range
          (ap (λ (ts : List Txn). slice_get (ranges_in ts) c.args.index) c.self.view_is ∙ there) past;
    }
