-- The tokens of a range, in sequence.
use Rattle.std.proofs.Common.{◌≡◌, List, [], ◌∷◌, ◌++◌, codes, decimal, ap, ◌∙◌, append_assoc}
use Rattle.json.specs.Token.{Token, begin_object, end_object, key, number}
use Rattle.json.specs.Tree.{json_tokens}
use Rattle.json_lines.specs.Written.{key_json}
use Rattle.replay_hot_ranges.specs.Text.{hot_json}
use Rattle.replay_hot_ranges.specs.declared.hot_range.HotRange.{HotRange}

-- two pieces
joined : (start now next xs ys : List Token) → now ≡ start ++ xs → next ≡ now ++ ys → next ≡ start ++ (xs ++ ys)
joined start now next xs ys first second =
    second ∙ ap (λ (zs : List Token). zs ++ ys) first ∙ append_assoc start xs ys

pub hot_tokens : (o p q r s t u v w : List Token) (hot : HotRange) → p ≡ o ++ begin_object ∷ [] → q ≡ p ++ key (codes "begin") ∷ []
    → r ≡ q ++ json_tokens (key_json hot.begin.now) → s ≡ r ++ key (codes "end") ∷ [] → t ≡ s ++ json_tokens (key_json hot.end.now)
    → u ≡ t ++ key (codes "conflicts") ∷ [] → v ≡ u ++ number (decimal hot.conflicts) ∷ [] → w ≡ v ++ end_object ∷ []
    → w ≡ o ++ json_tokens (hot_json hot)
unfolding hot_json
hot_tokens o p q r s t u v w hot e1 e2 e3 e4 e5 e6 e7 e8 =
    let a = begin_object ∷ [] in
    let b = key (codes "begin") ∷ [] in
    let c = json_tokens (key_json hot.begin.now) in
    let d = key (codes "end") ∷ [] in
    let e = json_tokens (key_json hot.end.now) in
    let f = key (codes "conflicts") ∷ [] in
    let g = number (decimal hot.conflicts) ∷ [] in
    joined o v w ((((((a ++ b) ++ c) ++ d) ++ e) ++ f) ++ g) (end_object ∷ [])
    (joined o u v (((((a ++ b) ++ c) ++ d) ++ e) ++ f) g
    (joined o t u ((((a ++ b) ++ c) ++ d) ++ e) f
    (joined o s t (((a ++ b) ++ c) ++ d) e
    (joined o r s ((a ++ b) ++ c) d (joined o q r (a ++ b) c (joined o p q a b e1 e2) e3) e4) e5) e6) e7) e8
