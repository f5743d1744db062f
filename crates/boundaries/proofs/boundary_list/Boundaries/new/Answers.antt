use Rattle.std.proofs.Common.{arith, ◌≡◌, ◌+◌, [], ◌∷◌, cond, refl, ap, ◌∙◌, is_some, option_map, w64}
use Rattle.std.specs.FinMap as finite
use Rattle.std.specs.Cmp.{nat_cmp_total}
use Rattle.std.proofs.lemmas.Int.{to_z-of_z}
use Rattle.std.specs.Ordering.{nat_cmp}
use Rattle.arena.specs.Arena.{Record, key_at}
use Rattle.boundaries.specs.declared.store.Store.{Store}
use Rattle.boundaries.specs.Item.{item_of}
use Rattle.boundaries.proofs.LeafChange.{headed_alone}
use Rattle.boundaries.proofs.Placing.{entries_from_header, placed_spare}
use Rattle.boundaries.proofs.StoredTrees.{stored_one}
use Rattle.boundaries.proofs.Trees.{tree_of_one}
use Rattle.boundaries.proofs.boundary_list.Boundaries.new.Goals as goal

pub invariant_of-result : goal.invariant_of-result
invariant_of-result c =
    let keys = c.place.new.self in
    let a = c.reserve_slots.new.self in
    let b = c.place-2.new.self in
    let slot = c.in_ok-slot.slot in
    let key = c.in_ok-key.key in
    let node = c.of-2.result in
    let k = c.in_ok-key.ensures in
    let n = c.in_ok-slot.ensures in
    let empty = c.reserve_slots.ensures.records ∙ c.new-nodes.ensures.empty in
    let spare = placed_spare a b (omega (arith, c.in_ok-reserve_slots.ensures.room)) n.spare in
    let tree = tree_of_one a b slot node c.of.result empty c.in_ok-reserve_slots.ensures.room n.was_free n.placed n.record n.others
    spare c.of-2.ensures.entries in
    let here = ap (option_map (λ r. r.key)) k.record in
    let entries = entries_from_header b slot node (ap (option_map (λ r. r.header)) n.record) in
    let one : finite.len keys.records ≡ 1 =
    ap finite.len k.placed ∙ finite.len-insert nat_cmp_total c.new-keys.result.records key (record { header = tt; key = [] })
    ∙ ap (λ o. cond (is_some o) (finite.len c.new-keys.result.records) (finite.len c.new-keys.result.records + 1)) k.was_free
    ∙ ap (λ records. finite.len records + 1) c.new-keys.ensures.empty
    ∙ ap (λ n. n + 1) (finite.len-empty nat_cmp (Record (Unit {0}))) in
    let own : c.of.result.key ≡ key = ap (λ x. x.key) c.of.ensures.item in
    let store : Store = record { keys = keys; nodes = b; removed = c.new-removed.result } in
    let headed = headed_alone (key_at keys) a b slot node c.of.result.key empty n.record n.others c.of-2.ensures.key_heads (rw own here) in
    let item : item_of c.of.result ≡ record { key = key; version = c.args.version } =
    c.of.ensures.item ∙ rw (to_z-of_z w64 c.args.version c.ranges.version) refl in
    stored_one c.new.result store slot key c.args.version c.new.ensures.store c.new.ensures.root c.new.ensures.raised
    c.new-removed.ensures (rw (entries, c.of-2.ensures.entries) (ap (λ x. x ∷ []) item)) here one headed tree
