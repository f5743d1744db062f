use Rattle.std.proofs.Common.{◌≡◌, ◌++◌, ◌∷◌, ◌∙◌, ℕ, [], length, ap, sym, subst, arith, length-append}
use Rattle.std.specs.List.{AllZip}
use Rattle.std.proofs.lemmas.Slice.Zip.{AllZip-long}
use Rattle.keyspace.specs.declared.txn.Txn.{Txn}
use Rattle.keyspace.specs.Judge.{places_from}
use Rattle.shards.specs.Clips.{goes_to, read_indices}
use Rattle.shards.specs.Reach.{IsReported}
use Rattle.shards.proofs.Fronts.{zip_front}
use Rattle.shards.proofs.read_numbers.put_numbers.Goals as goal

pub split_at-requires : goal.split_at-requires
split_at-requires c =
    let R = IsReported c.requires.reported.0 c.args.shard in
    let zipped : AllZip R (c.txn.inside.reads ++ c.txn.inside.writes) c.args.reaches.now =
    subst (λ (t : Txn). AllZip R (t.reads ++ t.writes) c.args.reaches.now) (sym c.txn.view_is) c.requires.reported.1 in
    omega (
      arith,
      AllZip-long R (c.txn.inside.reads ++ c.txn.inside.writes) c.args.reaches.now zipped,
      c.len.ensures.count,
      length-append c.txn.inside.reads c.txn.inside.writes,
    )

pub returns : goal.returns
returns c = record {
  put = λ owner reported.
      let R = IsReported owner c.args.shard in
      let zipped : AllZip R (c.txn.inside.reads ++ c.txn.inside.writes) c.args.reaches.now =
      subst (λ (t : Txn). AllZip R (t.reads ++ t.writes) c.args.reaches.now) (sym c.txn.view_is) reported in
      let own = zip_front R c.txn.inside.reads c.txn.inside.writes c.args.reaches.now c.split_at.result.0.now c.len.result
      c.len.ensures.count c.split_at.ensures.front zipped in
      let indices : c.put_indices.new.indices.items ≡ c.args.indices.now.items ++ read_indices owner c.args.txn.now =
      c.in_ok-put_indices.ensures.put owner c.txn.inside.reads own
      ∙ ap (λ (u : Txn). c.args.indices.now.items ++ places_from 0 (goes_to owner) u.reads) c.txn.view_is in (
        indices,
        c.in_ok-push.ensures.items
            ∙ ap (λ (n : ℕ). c.args.ends.now.items ++ n ∷ []) (c.len-2.ensures ∙ c.put_indices.new.indices.ok.0 ∙ ap length indices),
      );
}
