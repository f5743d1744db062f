use Rattle.std.proofs.Common.{◌≡◌, ◌≤◌, ℕ, List, length, get_or, string_bytes, map, take_all, sym, subst, arith, rules}
use Rattle.batches_report.specs.Names.{AreEachOnce, names_at}
use Rattle.batches_report.proofs.Naming.{names_more}
use Rattle.batches_report.proofs.names.names_of.Goals as goal

pub loop-place-preserved : goal.loop-place-preserved
loop-place-preserved c =
    let is : c.from.result ≡ get_or c.args.places.now c.loop-place.place-index 0 = search rules in
    subst (λ (all : List (List ℕ)). AreEachOnce all (map string_bytes c.put_name_at.new.names.items))
    (sym (names_more c.args.txn.now c.args.places.now c.loop-place.place-index c.from.result c.loop-place-test.true is))
    (c.in_ok-put_name_at.ensures.put _ c.loop-place.invariant)

pub returns : goal.returns
returns c =
    let past : length c.args.places.now ≤ c.loop-place.place-index = omega (arith, c.loop-place-test.false) in record {
      once =
          subst (λ (places : List ℕ). AreEachOnce (names_at c.args.txn.now places) (map string_bytes c.loop-place.names.items))
          (take_all c.loop-place.place-index c.args.places.now past) c.loop-place.invariant;
    }
