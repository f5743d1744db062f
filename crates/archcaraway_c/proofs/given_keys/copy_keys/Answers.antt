use Rattle.std.proofs.Common.{◌≡◌, ◌+◌, ◌∙◌, ◌++◌, ◌∷◌, ℕ, List, [], length, take, drop, get_or, sym, ap, ap₂, append_assoc, length-drop, arith}
use Rattle.archcaraway_c.specs.Points.{keys_given}
use Rattle.archcaraway_c.proofs.KeysGiven.{drop_step, sum_step}
use Rattle.archcaraway_c.proofs.given_keys.copy_keys.Goals as goal

pub loop-index-preserved : goal.loop-index-preserved
loop-index-preserved c =
    let lengths = c.args.lengths.now in
    let i = c.loop-index.index in
    let n = get_or lengths i 0 in
    let rest = c.loop-index.rest.now in
    let later = c.split_at.result.1.now in
    let items = c.loop-index.keys.items in
    let key = c.in-Ok.key in
    let front : key ≡ take n rest = c.in-Ok.ensures.bytes ∙ c.split_at.ensures.front in
    let back : later ≡ drop n rest = c.split_at.ensures.back in
    let step : key ∷ keys_given later (drop (i + 1) lengths) ≡ keys_given rest (drop i lengths) =
    ap₂ (λ (k l : List ℕ). k ∷ keys_given l (drop (i + 1) lengths)) front back
    ∙ sym (ap (keys_given rest) (drop_step lengths i c.loop-index-test.true)) in
    record {
      keys = ap (λ (all : List (List ℕ)). all ++ keys_given later (drop (i + 1) lengths)) c.in-Ok-push.ensures.items
          ∙ append_assoc items (key ∷ []) (keys_given later (drop (i + 1) lengths))
          ∙ ap (λ (all : List (List ℕ)). items ++ all) step ∙ c.loop-index.invariant.keys;
      bytes = omega (arith, c.loop-index.invariant.bytes, sum_step lengths i c.loop-index-test.true, ap length back, length-drop n rest);
    }
