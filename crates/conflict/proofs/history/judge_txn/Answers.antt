use Rattle.std.proofs.Common.{◌≡◌, ◌≤◌, ◌++◌, length, length-append, ap, sym, subst, ◌∙◌, true, w64, arith}
use Rattle.std.specs.List.{list_any}
use Rattle.std.proofs.lemmas.Int.{to_z-of_z}
use Rattle.keyspace.specs.Judge.{is_hit, is_too_old}
use Rattle.keyspace.specs.Places.{ArePlaces}
use Rattle.keyspace.specs.declared.txn.Txn.{Txn}
use Rattle.keyspace.specs.declared.txn.TheConstants.{MAX_RANGES}
use Rattle.conflict.specs.Lookup.{true_places}
use Rattle.conflict.proofs.Hits.{
  none_true,
  first_true,
  later_true,
  none_hit,
  some_hit,
  marked_entire,
  places_of_hits,
  places_of_both,
  are_places,
}
use Rattle.conflict.proofs.InBatch.{committed_entry, unmarked_entry, marked_entry}
use Rattle.conflict.proofs.history.judge_txn.Goals as goal
use Rattle.conflict.proofs.history.judge_txn.Goals.{
  else-not-contains-via-then-not-contains+else-not-contains-2,
  else-not-contains-via-else-not-contains,
  In_ok-push_places-2,
}

pub returns-then-not-contains-2 : goal.returns-then-not-contains-2
returns-then-not-contains-2 c =
    let t = c.args.txn.now in
    let first = c.args.first.now in
    let others = c.args.others.now in
    let young = sym (c.is_old.ensures.too_old
    ∙ ap (λ oldest. is_too_old oldest t) (to_z-of_z w64 c.args.oldest c.ranges.oldest))
    ∙ c.if-is_old.false in
    let made = c.new-then-not-contains-2.ensures in
    let places = made.places ∙ c.new-none.ensures.places ∙ c.new.ensures.items in
    let none = none_true first others (sym c.contains.ensures.value ∙ c.if-not-contains.true)
    (sym c.contains-then-not-contains.ensures.value ∙ c.if-not-contains-2.true) in
    record {
      judged = λ ws hits.
          committed_entry c.args.oldest ws t c.new-then-not-contains-2.result made.verdict places young
          (none_hit ws t (first ++ others) (hits young).1 none);
    }

pub returns-then-not-txn : goal.returns-then-not-txn
returns-then-not-txn c =
    let t = c.args.txn.now in
    let first = c.args.first.now in
    let others = c.args.others.now in
    let young = sym (c.is_old.ensures.too_old
    ∙ ap (λ oldest. is_too_old oldest t) (to_z-of_z w64 c.args.oldest c.ranges.oldest))
    ∙ c.if-is_old.false in
    let made = c.new-then-not-txn.ensures in
    let places = made.places ∙ c.new-none.ensures.places ∙ c.new.ensures.items in
    let some : list_any (λ hit. hit) (first ++ others) ≡ true =
    elim c.else-not-contains.branch [
      | else-not-contains-via-then-not-contains+else-not-contains-2 w ↦
          later_true first others (sym c.contains.ensures.value ∙ w.if-not-contains.true)
          (sym w.contains-then-not-contains.ensures.value ∙ w.if-not-contains-2.false)
      | else-not-contains-via-else-not-contains w ↦
          first_true first others (sym c.contains.ensures.value ∙ w.if-not-contains.false)
    ] in
    record {
      judged = λ ws hits.
          unmarked_entry c.args.oldest ws t c.new-then-not-txn.result made.verdict places young
          (some_hit ws t (first ++ others) (hits young).0.0 (hits young).0.1 some)
          (ap (λ (u : Txn). u.marked) (sym c.txn.view_is) ∙ c.if-not-txn.true);
    }

-- the places that are reported
reported : (c : In_ok-push_places-2) → c.push_places-2.new.places.items
    ≡ true_places 0 (c.args.first.now ++ c.args.others.now)
reported c =
    let first = c.args.first.now in
    let others = c.args.others.now in
    c.in_ok-push_places-2.ensures.places
    ∙ ap (λ places. places ++ true_places (length first) others) (c.in_ok-push_places.ensures.places
    ∙ ap (λ places. places ++ true_places 0 first) c.new-places.ensures.items)
    ∙ places_of_both first others

pub new-requires-2 : goal.new-requires-2
new-requires-2 c =
    let hits = c.args.first.now ++ c.args.others.now in
    let few : length hits ≤ MAX_RANGES = omega (arith, length-append c.args.first.now c.args.others.now, c.requires.few) in
    record {
      places = subst ArePlaces (sym (reported (goal.at.new-requires-2 c).In_ok-push_places-2)) (are_places hits few);
    }

pub returns : goal.returns
returns c =
    let t = c.args.txn.now in
    let first = c.args.first.now in
    let others = c.args.others.now in
    let young = sym (c.is_old.ensures.too_old
    ∙ ap (λ oldest. is_too_old oldest t) (to_z-of_z w64 c.args.oldest c.ranges.oldest))
    ∙ c.if-is_old.false in
    let made = c.new-3.ensures in
    let some : list_any (λ hit. hit) (first ++ others) ≡ true =
    elim c.else-not-contains.branch [
      | else-not-contains-via-then-not-contains+else-not-contains-2 w ↦
          later_true first others (sym c.contains.ensures.value ∙ w.if-not-contains.true)
          (sym w.contains-then-not-contains.ensures.value ∙ w.if-not-contains-2.false)
      | else-not-contains-via-else-not-contains w ↦
          first_true first others (sym c.contains.ensures.value ∙ w.if-not-contains.false)
    ] in
    record {
      judged = λ ws hits.
          marked_entry c.args.oldest ws t c.new-3.result made.verdict
          (made.places ∙ c.new-2.ensures.places ∙ reported (goal.at.returns c).In_ok-push_places-2
          ∙ ap (true_places 0) (marked_entire ws t (first ++ others) (hits young).1
          (ap (λ (u : Txn). u.marked) (sym c.txn.view_is) ∙ c.if-not-txn.false))
          ∙ places_of_hits 0 (is_hit ws t) t.reads) young
          (some_hit ws t (first ++ others) (hits young).0.0 (hits young).0.1 some)
          (ap (λ (u : Txn). u.marked) (sym c.txn.view_is) ∙ c.if-not-txn.false);
    }
