-- The bytes of keys, and what is known of them by two bounds.
use Rattle.std.proofs.Common.{◌≡◌, ◌≤◌, ℕ, true, List, [], Option, None, Some, IfSome, is_some, unwrap_or, take, ap, ◌∙◌, arith}
use Rattle.boundaries.specs.Finding.{BeginsInCommon}
use Rattle.boundaries.proofs.HeadOrder.{take_fewer}
use Rattle.boundaries.proofs.Words.{CanStep, HasPrefix, IsTargetHead, KeyBound, KeyBytes, KeyHeads, Keys, Node, bytes_at, key_at}

-- a key that has a record has its bytes
pub known_bytes : (keys : Keys) (slot : ℕ) (text : List ℕ) → key_at keys slot ≡ Some text → bytes_at keys slot ≡ text
known_bytes keys slot text is = ap (λ o. unwrap_or o []) is

-- The first key of a node that can be searched begins with that many bytes of the bound's.
pub first_common : (keys : Keys) (bound : KeyBound) (node : Node) (known : ℕ) → CanStep keys bound node known
    → BeginsInCommon keys bound node known
first_common keys bound node known can =
    (can.can_find.some, λ e text there is n within le. ((can.known e there).1 text is n within).0 le)

-- It begins with as many bytes of another one's, which begins as the bound's does so far.
pub common_beside : (keys : Keys) (bound other : KeyBound) (node : Node) (known common fewer : ℕ) → CanStep keys bound node known
    → take common bound.key.now ≡ take common other.key.now → fewer ≤ known → fewer ≤ common → BeginsInCommon keys other node fewer
common_beside keys bound other node known common fewer can same few less = (
  can.can_find.some,
  λ e text there is n within le.
      ((can.known e there).1 text is n within).0 (omega (arith, le, few))
      ∙ take_fewer n common bound.key.now other.key.now (omega (arith, le, less)) same,
)

-- What begins as far alike as a target that has a head begins as all keys do, too.
pub prefix_beside : (bytes : KeyBytes) (key_heads : KeyHeads) (target other : List ℕ) (common : ℕ) (head : Option ℕ)
    → IfSome head (IsTargetHead bytes key_heads target) → is_some head ≡ true → key_heads.prefix_len ≤ common
    → take common target ≡ take common other → HasPrefix bytes key_heads other
prefix_beside bytes key_heads target other common None is some short same = absurd (cc)
prefix_beside bytes key_heads target other common (Some head) is some short same =
    let p = is.has_prefix in
    record {
      key = p.key;
      text = p.text;
      there = p.there;
      known = p.known;
      long = p.long;
      same = p.same ∙ take_fewer key_heads.prefix_len common target other short same;
    }
