use Rattle.std.proofs.Common.{◌≡◌, ◌∙◌, ℕ, suc, List, [], ◌∷◌, ◌++◌, ◌+◌, ◌-◌, ◌/◌, ◌<◌, ◌≤◌, length, get_or, arith, sym, ap, ap₂, subst, nat_cmp, Bor, IsSorted}
use Rattle.std.specs.Prelude.{Some, slice_get}
use Rattle.std.specs.Cmp.Lexicographic.{slice_cmp}
use Rattle.std.proofs.lemmas.List.{length-map}
use Rattle.std.proofs.lemmas.List.Elements.{All-map, All-contains}
use Rattle.shards.specs.Picking.{keys_of}
use Rattle.shards.proofs.Begins.{IsShort, key_at}
use Rattle.shards.proofs.KeyOrders.{ordered_from_sorted}
use Rattle.shards.proofs.Picked.{ArePicked, picked_none, picked_more, picked_all_used, from_begins, balanced_when_done}
use Rattle.shards.proofs.balanced_points.pick_points.Goals.{then-part-rest+in_ok-copied+in_ok-push, else-part-rest}
use Rattle.shards.proofs.balanced_points.pick_points.Goals as goal

pub loop-done-init : goal.loop-done-init
loop-done-init c =
    let n = c.args.shard_count in
    let begins = keys_of c.args.begins.now in
    let rest = keys_of c.keys_after-rest.result.now in
    let all : n ≡ n - 0 = omega arith in
    record {
      picked = subst (λ (left : ℕ). ArePicked n left begins c.new-points.result.items rest) all
          (subst (λ (points : List (List ℕ)). ArePicked n n begins points rest) (sym c.new-points.ensures.items)
          (picked_none n begins rest c.keys_after-rest.ensures.rest));
      sorted = c.keys_after-rest.ensures.sorted;
    }

abbrev none : Bor (List ℕ)
none = record { ref_ptr = (0, 0); now = [] }

pub copied-requires : goal.copied-requires
copied-requires c =
    let begins = keys_of c.args.begins.now in
    let rest = c.loop-done.rest.now in
    let part = length rest / (c.args.shard_count - c.loop-done.done) in
    let at = key_at rest part none c.if-part-rest.true in
    record {
      short = All-contains IsShort begins (get_or rest part none).now
          (All-map IsShort (λ (key : Bor (List ℕ)). key.now) c.args.begins.now c.requires.short)
          (from_begins _ _ begins _ (keys_of rest) c.loop-done.invariant.picked part _ at);
    }

abbrev IsOrdered : List (Bor (List ℕ)) → Type 0
IsOrdered refs = IsSorted (λ (a b : Bor (List ℕ)). slice_cmp nat_cmp a.now b.now) refs

-- the same points and keys, after the branches have joined
joined : (n left : ℕ) (begins old new : List (List ℕ)) (before after : List (Bor (List ℕ))) → new ≡ old → after ≡ before
    → ArePicked n left begins old (keys_of before) → ArePicked n left begins new (keys_of after)
joined n left begins old new before after same_points same_rest picked =
    subst (λ (points : List (List ℕ)). ArePicked n left begins points (keys_of after)) (sym same_points)
    (subst (λ (rest : List (Bor (List ℕ))). ArePicked n left begins old (keys_of rest)) (sym same_rest) picked)

pub loop-done-preserved : goal.loop-done-preserved
loop-done-preserved c =
    let n = c.args.shard_count in
    let left = n - (c.loop-done.done + 1) in
    let begins = keys_of c.args.begins.now in
    let points = c.loop-done.points.items in
    let refs = c.loop-done.rest.now in
    let rest = keys_of refs in
    let same : n - c.loop-done.done ≡ suc left = omega arith in
    let some : 0 < left = omega arith in
    let long : length rest ≡ length refs = length-map refs (λ (key : Bor (List ℕ)). key.now) in
    let picked = subst (λ (m : ℕ). ArePicked n m begins points rest) same c.loop-done.invariant.picked in
    let ordered = ordered_from_sorted c.args.begins.now c.requires.sorted in
    let part = length refs / (n - c.loop-done.done) in
    let same_part : part ≡ length rest / suc left = ap₂ ◌/◌ (sym long) same in
    elim c.if-part-rest.branch [
      | then-part-rest+in_ok-copied+in_ok-push w ↦
          let point = (get_or refs part none).now in
          let next = keys_of w.keys_after-rest-then-part-rest.result.now in
          let at = subst (λ (i : ℕ). slice_get rest i ≡ Some point) same_part (key_at refs part none w.if-part-rest.true) in
          let more = picked_more n left begins points rest ordered picked point next at w.keys_after-rest-then-part-rest.ensures.rest in
          let new_points : c.if-part-rest.points.items ≡ points ++ point ∷ [] =
          ap (λ v. v.items) w.points-is ∙ w.in_ok-push.ensures.items ∙ ap (λ (key : List ℕ). points ++ key ∷ []) w.in_ok-copied.ensures.bytes in
          let new_rest : c.if-part-rest.rest.now ≡ w.keys_after-rest-then-part-rest.result.now = ap (λ r. r.now) w.rest-is in
          record {
            picked = joined n left begins (points ++ point ∷ []) c.if-part-rest.points.items
                w.keys_after-rest-then-part-rest.result.now c.if-part-rest.rest.now new_points new_rest more;
            sorted = subst IsOrdered (sym new_rest) w.keys_after-rest-then-part-rest.ensures.sorted;
          }
      | else-part-rest w ↦
          let short : length rest ≤ length rest / suc left = omega (arith, w.if-part-rest.false, long, same_part) in
          let less = picked_all_used n left begins points rest ordered picked some short in
          let same_points : c.if-part-rest.points.items ≡ points = ap (λ v. v.items) w.points-is in
          let same_rest : c.if-part-rest.rest.now ≡ refs = ap (λ r. r.now) w.rest-is in
          record {
            picked = joined n left begins points c.if-part-rest.points.items refs c.if-part-rest.rest.now same_points same_rest less;
            sorted = subst IsOrdered (sym same_rest) c.loop-done.invariant.sorted;
          }
    ]

pub returns-clause-balanced : goal.returns-clause-balanced
returns-clause-balanced c =
    let n = c.args.shard_count in
    let one : n - c.loop-done.done ≡ 1 = omega arith in
    balanced_when_done n _ _ (keys_of c.loop-done.rest.now)
    (subst (λ (m : ℕ). ArePicked n m (keys_of c.args.begins.now) c.loop-done.points.items (keys_of c.loop-done.rest.now)) one
    c.loop-done.invariant.picked)
