use Rattle.std.proofs.Common.{◌≡◌, ◌<◌, ◌+◌, ◌++◌, ◌∷◌, ◌∙◌, ℕ, List, [], length, map, take, drop, refl, sym, ap, ap₂, subst, subst₂, arith, length-append, take_all}
use Rattle.std.specs.Prelude.{All}
use Rattle.std.specs.List.{AllZip}
use Rattle.std.proofs.lemmas.List.{map-append}
use Rattle.std.proofs.lemmas.List.Elements.{All-nil}
use Rattle.std.proofs.lemmas.Slice.Zip.{AllZip-long}
use Rattle.keys.specs.declared.range.Range.{Range}
use Rattle.keyspace.specs.declared.txn.Txn.{Txn}
use Rattle.keyspace.specs.storage.BatchRanges.{ranges_in}
use Rattle.serial.specs.Shards.{Shard}
use Rattle.shards.specs.Clips.{goes_to, read_indices}
use Rattle.shards.specs.ReadIndices.{parts_from, AreIndices}
use Rattle.shards.specs.Reach.{IsReported}
use Rattle.shards.proofs.BuiltTables.{ranges_next}
use Rattle.shards.proofs.Fronts.{zip_front, zip_back}
use Rattle.shards.proofs.IndexLists.{indices_appended, part_appended, places_below}
use Rattle.shards.proofs.Leasts.{take_next}
use Rattle.shards.proofs.read_numbers.number_by.Goals.{After-len-in-loop-index}
use Rattle.shards.proofs.read_numbers.number_by.Goals as goal

pub loop-index-init : goal.loop-index-init
loop-index-init c = λ owner reported. (
  subst₂ AreIndices (sym c.new-indices.ensures.items) (sym c.new-ends.ensures.items)
      (record { ends_fit = refl; below = All-nil (λ index. index < 1024) }),
  ap₂ (parts_from 0) c.new-indices.ensures.items c.new-ends.ensures.items,
  reported,
)

-- what is left begins with the ranges of the next transaction
left : (c : After-len-in-loop-index) (owner : Shard) → AllZip (IsReported owner c.args.shard) (ranges_in c.args.batch.now.txns) c.args.reaches.now
    → AllZip (IsReported owner c.args.shard)
    ((c.txn-txn.result.reads ++ c.txn-txn.result.writes) ++ ranges_in (drop (c.loop-index.index + 1) c.args.batch.now.txns)) c.loop-index.rest.now
left c owner reported =
    subst (λ (ranges : List Range). AllZip (IsReported owner c.args.shard) ranges c.loop-index.rest.now)
    (ranges_next c.args.batch.now.txns c.loop-index.index c.txn-txn.result c.txn-txn.ensures.txn) (c.loop-index.invariant owner reported).2

-- it has that many ranges
count : (c : After-len-in-loop-index) → c.len.result + c.len-in-loop-index.result ≡ length (c.txn-txn.result.reads ++ c.txn-txn.result.writes)
count c =
    let t = c.txn-txn.result in
    let reads = ap (λ (u : Txn). length u.reads) c.txn.view_is in
    let writes = ap (λ (u : Txn). length u.writes) c.txn.view_is in
    omega (arith, c.len.ensures.count, c.len-in-loop-index.ensures.count, reads, writes, length-append t.reads t.writes)

pub split_at-requires : goal.split_at-requires
split_at-requires c =
    let t = c.txn-txn.result in
    let later = ranges_in (drop (c.loop-index.index + 1) c.args.batch.now.txns) in
    let long = AllZip-long (IsReported c.requires.reported.0 c.args.shard) ((t.reads ++ t.writes) ++ later)
    c.loop-index.rest.now (left c c.requires.reported.0 c.requires.reported.1) in
    omega (arith, long, count c, length-append (t.reads ++ t.writes) later)

pub put_numbers-requires : goal.put_numbers-requires
put_numbers-requires c =
    let at = goal.at.put_numbers-requires c in
    let t = c.txn-txn.result in
    let later = ranges_in (drop (c.loop-index.index + 1) c.args.batch.now.txns) in
    let owner = c.requires.reported.0 in
    record {
      reported = (
        owner,
        zip_front (IsReported owner c.args.shard) (t.reads ++ t.writes) later c.loop-index.rest.now c.split_at.result.0.now
            (c.len.result + c.len-in-loop-index.result) (count at.After-len-in-loop-index) c.split_at.ensures.front
            (left at.After-len-in-loop-index owner c.requires.reported.1),
      );
    }

pub loop-index-preserved : goal.loop-index-preserved
loop-index-preserved c = λ owner reported.
    let at = goal.at.loop-index-preserved c in
    let t = c.txn-txn.result in
    let txns = c.args.batch.now.txns in
    let i = c.loop-index.index in
    let R = IsReported owner c.args.shard in
    let later = ranges_in (drop (i + 1) txns) in
    let rest = c.loop-index.rest.now in
    let n = c.len.result + c.len-in-loop-index.result in
    let own = zip_front R (t.reads ++ t.writes) later rest c.split_at.result.0.now n (count at.After-len-in-loop-index)
    c.split_at.ensures.front (left at.After-len-in-loop-index owner reported) in
    let before = c.loop-index.invariant owner reported in
    let more = read_indices owner t in
    let old = c.loop-index.indices.items in
    let old_ends = c.loop-index.ends.items in
    let put = c.in_ok-put_numbers.ensures.put owner own in
    let below : All (λ index. index < 1024) more = places_below 0 (goes_to owner) t.reads 1024 (omega (arith, t.few_reads)) in (
      subst₂ AreIndices (sym put.0) (sym put.1) (indices_appended old more old_ends before.0 below),
      ap₂ (parts_from 0) put.0 put.1 ∙ part_appended old more old_ends before.0.ends_fit
          ∙ ap (λ (parts : List (List ℕ)). parts ++ more ∷ []) before.1
          ∙ sym (map-append (read_indices owner) (take i txns) (t ∷ []))
          ∙ ap (map (read_indices owner)) (sym (take_next txns i t c.txn-txn.ensures.txn)),
      zip_back R (t.reads ++ t.writes) later rest c.split_at.result.1.now n (count at.After-len-in-loop-index)
          c.split_at.ensures.back (left at.After-len-in-loop-index owner reported),
    )

pub new-requires : goal.new-requires
new-requires c = record { fit = (c.loop-index.invariant c.requires.reported.0 c.requires.reported.1).0 }

pub returns : goal.returns
returns c = record {
  numbered = λ owner reported.
      let txns = c.args.batch.now.txns in
      let all : take c.loop-index.index txns ≡ txns =
      take_all c.loop-index.index txns (omega (arith, c.loop-index-test.false, c.len-index-end.ensures.count)) in
      c.new.ensures.indices ∙ (c.loop-index.invariant owner reported).1 ∙ ap (map (read_indices owner)) all;
}
