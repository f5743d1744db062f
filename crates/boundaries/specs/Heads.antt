-- What nodes know of the bytes of keys. This project's own.
use Rattle.std.specs.Prelude.{◌≡◌, ◌⊎◌, ◌≤◌, ◌↔◌, ◌/◌, ℕ, Bool, true, false, List, [], length, map, take, drop, Option, Some, slice_get, unwrap_or, IfSome}
use Rattle.std.specs.List.{All, AllZip, Contains}
use Rattle.keys.specs.Key.{IsBytes, IsBefore}
use Rattle.keys.specs.Head.{head_of}
use Rattle.boundaries.specs.declared.entry.NodeEntry.{NodeEntry}

-- the bytes of keys, of those that are known
abbrev pub KeyBytes : Type 0
KeyBytes = ℕ → Option (List ℕ)

-- the bytes of this key are known
pub record IsKnown (bytes : KeyBytes) (key : ℕ) : Type 0 where
  pub text : List ℕ
  pub known : bytes key ≡ Some text
  pub are_bytes : IsBytes text

-- the key is known, and begins with these bytes unless it is empty
pub record Begins (bytes : KeyBytes) (prefix : List ℕ) (key : ℕ) : Type 0 where
  pub text : List ℕ
  pub known : bytes key ≡ Some text
  pub are_bytes : IsBytes text
  pub begins : (text ≡ []) ⊎ (take (length prefix) text ≡ prefix)

-- the head of a key after its first n bytes: the next four bytes as a number, the upper half of a key head
abbrev pub head_after : ℕ → List ℕ → ℕ
head_after prefix_len text = head_of (drop prefix_len text) / 4294967296

-- that of a key
abbrev pub head_at : KeyBytes → ℕ → ℕ → ℕ
head_at bytes prefix_len key = head_after prefix_len (unwrap_or (bytes key) [])

-- what a node knows: its keys, the length of the common prefix of all of them except an empty one, and the head of each after it
pub record KeyHeads : Type 0 where
  pub keys : List ℕ
  pub prefix_len : ℕ
  pub heads : List ℕ

-- its knowledge is right
pub record AreHeads (bytes : KeyBytes) (key_heads : KeyHeads) : Type 0 where
  pub prefix : List ℕ
  pub prefix_len : length prefix ≡ key_heads.prefix_len
  pub begins : All (Begins bytes prefix) key_heads.keys
  pub heads : key_heads.heads ≡ map (head_at bytes key_heads.prefix_len) key_heads.keys

-- each node's knowledge is right
abbrev pub AllAreHeads : KeyBytes → (ℕ → Option KeyHeads) → Type 0
AllAreHeads bytes all_heads = (s : ℕ) → IfSome (all_heads s) (AreHeads bytes)

-- Whether a key is below a bound goes by its bytes and by those of the target.
pub record IsBelowInOrder (text target : List ℕ) (is_below : Bool) : Type 0 where
  pub before : IsBefore text target → is_below ≡ true
  pub following : IsBefore target text → is_below ≡ false

-- The two agree on the first n bytes, or up to the end of the first one.
abbrev pub HaveCommonPrefix : ℕ → List ℕ → List ℕ → Type 0
HaveCommonPrefix common_prefix_len text target = (count : ℕ) → count ≤ length text → count ≤ common_prefix_len → take count text ≡ take count target

-- Their common prefix has just this length.
abbrev pub IsCommonPrefixLen : ℕ → List ℕ → List ℕ → Type 0
IsCommonPrefixLen common_prefix_len text target = (count : ℕ) → count ≤ length text → (count ≤ common_prefix_len) ↔ (take count text ≡ take count target)

-- The key is below the bound, and its common prefix with the target has this length.
abbrev pub IsCommonPrefix : KeyBytes → (ℕ → Bool) → List ℕ → ℕ → ℕ → Type 0
IsCommonPrefix bytes is_below target known key =
    (is_below key ≡ true) × ((text : List ℕ) → bytes key ≡ Some text → IsCommonPrefixLen known text target)

-- the same of the key of the entry at an index
abbrev pub IsCommonPrefixAt : KeyBytes → (ℕ → Bool) → List ℕ → ℕ → List NodeEntry → ℕ → Type 0
IsCommonPrefixAt bytes is_below target known entries index =
    (e : NodeEntry) → slice_get entries index ≡ Some e → IsCommonPrefix bytes is_below target known e.key

-- The target begins as all keys of the node do: as one of them that is long enough, as far as the node shows.
pub record HasPrefix (bytes : KeyBytes) (key_heads : KeyHeads) (target : List ℕ) : Type 0 where
  pub key : ℕ
  pub text : List ℕ
  pub there : Contains key_heads.keys key
  pub known : bytes key ≡ Some text
  pub long : key_heads.prefix_len ≤ length text
  pub same : take key_heads.prefix_len text ≡ take key_heads.prefix_len target

-- The head of a key that is empty or begins as all keys of the node do.
pub record IsHeadBeside (bytes : KeyBytes) (key_heads : KeyHeads) (key head : ℕ) : Type 0 where
  pub begins : (text : List ℕ) → bytes key ≡ Some text → (text ≡ []) ⊎ HasPrefix bytes key_heads text
  pub head_is : head ≡ head_at bytes key_heads.prefix_len key

-- the heads of some keys
abbrev pub AreHeadsBeside : KeyBytes → KeyHeads → List ℕ → List ℕ → Type 0
AreHeadsBeside bytes key_heads keys heads = AllZip (IsHeadBeside bytes key_heads) keys heads

-- The head of the target, which begins as all keys do.
pub record IsTargetHead (bytes : KeyBytes) (key_heads : KeyHeads) (target : List ℕ) (head : ℕ) : Type 0 where
  pub has_prefix : HasPrefix bytes key_heads target
  pub head_is : head ≡ head_after key_heads.prefix_len target
  pub are_bytes : IsBytes target
