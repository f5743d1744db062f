-- What a node knows of the bytes of keys stays right where its own keys stay.
use Rattle.std.proofs.Common.{◌≡◌, ℕ, List, [], ◌∷◌, Some, map, unwrap_or, refl, sym, ap, ap₂, ◌∙◌}
use Rattle.std.specs.List.{All}
use Rattle.std.proofs.lemmas.List.Elements.{All-head, All-tail, All-cons, All-nil}
use Rattle.boundaries.specs.Heads.{KeyBytes, KeyHeads, AreHeads, IsKnown, Begins, head_at, head_after}
use Rattle.boundaries.proofs.Headed.{all_known}

-- the bytes of a key stay known
abbrev Stays : KeyBytes → KeyBytes → ℕ → Type 0
Stays a b key = (text : List ℕ) → a key ≡ Some text → b key ≡ Some text

heads_left : (a b : KeyBytes) (prefix_len : ℕ) (keys : List ℕ) → All (Stays a b) keys → All (IsKnown a) keys
    → map (head_at a prefix_len) keys ≡ map (head_at b prefix_len) keys
heads_left a b prefix_len [] stay known = refl
heads_left a b prefix_len (key ∷ keys) stay known =
    let k = All-head (IsKnown a) key keys known in
    let same = All-head (Stays a b) key keys stay k.text k.known in
    ap₂ (λ x xs. x ∷ xs) (ap (λ o. head_after prefix_len (unwrap_or o [])) (k.known ∙ sym same))
    (heads_left a b prefix_len keys (All-tail (Stays a b) key keys stay) (All-tail (IsKnown a) key keys known))

begins_left : (a b : KeyBytes) (prefix keys : List ℕ) → All (Stays a b) keys → All (Begins a prefix) keys
    → All (Begins b prefix) keys
begins_left a b prefix [] stay begins = All-nil (Begins b prefix)
begins_left a b prefix (key ∷ keys) stay begins =
    let x = All-head (Begins a prefix) key keys begins in
    All-cons (Begins b prefix) key keys
    (record {
      text = x.text;
      known = All-head (Stays a b) key keys stay x.text x.known;
      are_bytes = x.are_bytes;
      begins = x.begins;
    })
    (begins_left a b prefix keys (All-tail (Stays a b) key keys stay) (All-tail (Begins a prefix) key keys begins))

pub key_heads_left : (a b : KeyBytes) (key_heads : KeyHeads) → All (Stays a b) key_heads.keys → AreHeads a key_heads → AreHeads b key_heads
key_heads_left a b key_heads stay h =
    record {
      prefix = h.prefix;
      prefix_len = h.prefix_len;
      begins = begins_left a b h.prefix key_heads.keys stay h.begins;
      heads = h.heads ∙ heads_left a b key_heads.prefix_len key_heads.keys stay (all_known a key_heads h);
    }
