use Rattle.std.proofs.Common.{◌≡◌, ◌≤◌, ℕ, List, [], ◌∷◌, ◌++◌, length, Some, None, string_bytes, map, slice_get, append-nil, sym, ap, subst, ◌∙◌, arith}
use Rattle.std.proofs.lemmas.Option.{slice_get_past}
use Rattle.keys.specs.declared.range.Range.{Range}
use Rattle.keyspace.specs.declared.txn.Txn.{Txn}
use Rattle.batches_report.specs.Names.{AreEachOnce, name_if_some}
use Rattle.batches_report.proofs.names.put_name_at.Goals as goal

pub returns-in_ok-put_once : goal.returns-in_ok-put_once
returns-in_ok-put_once c =
    let reads_are = ap (λ (t : Txn). t.reads) c.txn.view_is in
    let at : slice_get c.args.txn.now.reads c.args.place ≡ Some c.get.result =
    ap (λ (rs : List Range). slice_get rs c.args.place) (sym reads_are) ∙ c.get.ensures.range in
    let named : string_bytes c.in_ok-name.name ∷ [] ≡ name_if_some (slice_get c.args.txn.now.reads c.args.place) =
    ap (λ (n : List ℕ). n ∷ []) c.in_ok-name.ensures.name ∙ ap name_if_some (sym at) in record {
      put = λ all once.
          subst (λ (more : List (List ℕ)). AreEachOnce (all ++ more) (map string_bytes c.put_once.new.names.items)) named
          (c.in_ok-put_once.ensures.put all once);
    }

pub returns-else-place-len : goal.returns-else-place-len
returns-else-place-len c =
    let reads_are = ap (λ (t : Txn). t.reads) c.txn.view_is in
    let same_length = ap (λ (rs : List Range). length rs) reads_are in
    let past : length c.args.txn.now.reads ≤ c.args.place = omega (arith, c.if-place-len.false, c.len.ensures.count, same_length) in
    let none : [] ≡ name_if_some (slice_get c.args.txn.now.reads c.args.place) =
    ap name_if_some (sym (slice_get_past c.args.txn.now.reads c.args.place past)) in record {
      put = λ all once.
          subst (λ (more : List (List ℕ)). AreEachOnce (all ++ more) (map string_bytes c.args.names.now.items)) none
          (subst (λ (these : List (List ℕ)). AreEachOnce these (map string_bytes c.args.names.now.items)) (sym (append-nil all)) once);
    }
