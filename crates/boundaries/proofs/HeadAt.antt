-- What a node's heads tells of the key at an index.
use Rattle.std.proofs.Common.{◌≡◌, ◌≢◌, ◌⊎◌, ℕ, ◌+◌, ◌-◌, ◌<◌, ◌≤◌, Bool, true, nat_lt, List, [], length, filter, get_or, take, slice_get, slice_index, Option, None, Some, refl, sym, ap, ◌∙◌, inl, inr, arith, length-take, get_or-take, lt-ltb, ltb-true}
use Rattle.std.specs.Int.{w32, to_be_bytes}
use Rattle.std.specs.List.{Contains}
use Rattle.std.proofs.lemmas.List.Elements.{All-contains}
use Rattle.std.proofs.lemmas.Bool.{cases_lt}
use Rattle.std.proofs.lemmas.Bool.Decides.{nat_tests}
use Rattle.std.proofs.lemmas.List.{get_or_default, get_or-map}
use Rattle.std.proofs.lemmas.Option.{get_or_from_slice_get, slice_get_within, slice_get-get_or, slice_get-map}
use Rattle.keys.specs.Key.{IsBytes, IsBefore}
pub use Rattle.keys.proofs.callers.Lists.{some_at as entry_at}
use Rattle.boundaries.proofs.Words.{NodeEntry, Node, FAN_OUT, PADDING, entries_of, key_heads_of, keys_of, KeyBytes, Begins, head_after, head_at, KeyHeads, AreHeads, IsBelowInOrder, IsCommonPrefixLen, IsCommonPrefixAt, HasPrefix, IsTargetHead, IsPartitioned}
use Rattle.boundaries.proofs.callers.Partitions.{length-items_below, none_fail, not_both}
use Rattle.boundaries.proofs.HeadChanges.{heads_count, prefix_begins}
use Rattle.boundaries.proofs.HeadCounts.{passing_before, passing_inside}
use Rattle.boundaries.proofs.HeadOrder.{empty_head, empty_before, empty_before_too, describes_empty, answered_by_heads, too, common_by_heads}

-- the key of the entry there
pub key_there : (entries : List NodeEntry) (index : ℕ) (e : NodeEntry) → slice_get entries index ≡ Some e
    → slice_get (keys_of entries) index ≡ Some e.key
key_there entries index e there = rw (slice_get-map (λ (x : NodeEntry). x.key) entries index, there) refl

-- the entry itself, among all those that the node has room for
pub entry_there : (room : List NodeEntry) (len index : ℕ) (e d : NodeEntry) → slice_get (take len room) index ≡ Some e
    → get_or room index d ≡ e
entry_there room len index e d there = grind (arith, slice_get_within, length-take, get_or-take, get_or_from_slice_get)

-- what is known of the key at an index
pub record IsKeyAt (bytes : KeyBytes) (key_heads : KeyHeads) (prefix : List ℕ) (index key : ℕ) : Type 0 where
  pub text : List ℕ
  pub known : bytes key ≡ Some text
  pub are_bytes : IsBytes text
  pub begins : ((text ≡ []) × (get_or key_heads.heads index 0 ≡ 0))
      ⊎ ((take key_heads.prefix_len text ≡ prefix) × (key_heads.prefix_len ≤ length text))
  pub head : get_or key_heads.heads index 0 ≡ head_after key_heads.prefix_len text

module _ (bytes : KeyBytes) (key_heads : KeyHeads) (h : AreHeads bytes key_heads) where
  abbrev n : ℕ
  n = key_heads.prefix_len

  abbrev head_of : ℕ → ℕ
  head_of index = get_or key_heads.heads index 0

  pub key_at : (index key : ℕ) → slice_get key_heads.keys index ≡ Some key → IsKeyAt bytes key_heads h.prefix index key
  key_at index key there =
      let inside : index < length key_heads.keys = slice_get_within key_heads.keys index key there in
      let read = get_or_from_slice_get key_heads.keys index key key there in
      let own = All-contains (Begins bytes h.prefix) key_heads.keys key h.begins (index, inside, read) in
      let head : head_of index ≡ head_after n own.text =
      cc (own.known, get_or-map (head_at bytes n) key_heads.keys index key 0 inside) in
      let begins : ((own.text ≡ []) × (head_of index ≡ 0)) ⊎ ((take n own.text ≡ h.prefix) × (n ≤ length own.text)) =
      grind (arith, own.begins, head, h.prefix_len, empty_head n, length-take n own.text) in
      record { text = own.text; known = own.known; are_bytes = own.are_bytes; begins = begins; head = head }

  -- a key whose head isn't zero isn't empty
  filled_at : (index key : ℕ) (there : slice_get key_heads.keys index ≡ Some key) → head_of index ≢ 0
      → (take n (key_at index key there).text ≡ h.prefix) × (n ≤ length (key_at index key there).text)
  filled_at index key there differ =
      elim (key_at index key there).begins [ inr long ↦ long | inl empty ↦ absurd (differ empty.1) ]

  -- The target begins as all keys do.
  sought_begins : (target : List ℕ) → HasPrefix bytes key_heads target → h.prefix ≡ take n target
  sought_begins target has_prefix = rw (← h.prefix_len) (sym (prefix_begins bytes key_heads h target has_prefix))

  -- It does if it begins as one of them that isn't empty.
  pub agrees_at : (index key : ℕ) (target : List ℕ) → slice_get key_heads.keys index ≡ Some key → (n ≡ 0) ⊎ (head_of index ≢ 0)
      → ((text : List ℕ) → bytes key ≡ Some text → n ≤ length text → take n text ≡ take n target)
      → HasPrefix bytes key_heads target
  agrees_at index key target there filled have_prefix =
      let k = key_at index key there in
      let long : n ≤ length k.text =
      elim filled [ inl none ↦ omega (arith, none) | inr differ ↦ (filled_at index key there differ).1 ] in
      let at : Contains key_heads.keys key =
      (index, slice_get_within key_heads.keys index key there, get_or_from_slice_get key_heads.keys index key key there) in
      record { key = key; text = k.text; there = at; known = k.known; long = long; same = have_prefix k.text k.known long }

  module _ (target : List ℕ) (is_below : ℕ → Bool)
      (order : (key : ℕ) (text : List ℕ) → bytes key ≡ Some text → IsBelowInOrder text target (is_below key)) where
    -- Whether the key is below the bound is told by its head, if that isn't the one of the target.
    pub answered_at : (index key head : ℕ) → slice_get key_heads.keys index ≡ Some key → IsTargetHead bytes key_heads target head
        → head ≢ head_of index → nat_lt (head_of index) head ≡ is_below key
    answered_at index key head there is differ =
        let k = key_at index key there in
        let describes = order key k.text k.known in
        elim k.begins [
          | inr long ↦
              let answered = answered_by_heads n k.text target k.are_bytes is.are_bytes long.1 (long.0 ∙ sought_begins target is.has_prefix)
              (λ e. differ (cc (is.head_is, k.head))) (is_below key) describes in
              cc (k.head, is.head_is, answered)
          | inl empty ↦ grind (arith, nat_tests, is.head_is, empty_before n target, empty.0, empty.1, describes.before)
        ]

    -- A key whose head is less passes.
    pub less_passes : (index key head : ℕ) → slice_get key_heads.keys index ≡ Some key → IsTargetHead bytes key_heads target head
        → nat_lt (head_of index) head ≡ true → is_below key ≡ true
    less_passes index key head there is less =
        cc (answered_at index key head there is (λ e. absurd (omega (arith, ltb-true (head_of index) head less))))

    -- Where the first key isn't empty and is below the bound, and differs from the target before all keys' common beginning ends,
    -- all keys are below the bound.
    module _ (common_prefix_len first : ℕ) (at_first : slice_get key_heads.keys 0 ≡ Some first) (filled : head_of 0 ≢ 0) (less : common_prefix_len < n)
        (passed : is_below first ≡ true)
        (describes : (text : List ℕ) → bytes first ≡ Some text → IsCommonPrefixLen common_prefix_len text target) where
      -- Their bytes come before the target, and differ from it as those of the first one do.
      bytes_too : (index key : ℕ) (there : slice_get key_heads.keys index ≡ Some key)
          → IsBefore (key_at index key there).text target × IsCommonPrefixLen common_prefix_len (key_at index key there).text target
      bytes_too index key there =
          let f = key_at 0 first at_first in
          let k = key_at index key there in
          let own = filled_at 0 first at_first filled in
          let ahead : IsBefore target f.text → ⊥ = λ following. not_both _ passed ((order first f.text f.known).following following) in
          elim k.begins [
            | inr begins ↦
                too common_prefix_len n f.text k.text target less own.1 begins.1 (begins.0 ∙ sym own.0) (describes f.text f.known) ahead
            | inl empty ↦
                rw empty.0 (empty_before_too f.text target (omega (arith, own.1, less)) ahead, describes_empty common_prefix_len target)
          ]

      passes_too : (index key : ℕ) → slice_get key_heads.keys index ≡ Some key → is_below key ≡ true
      passes_too index key there =
          let k = key_at index key there in (order key k.text k.known).before (bytes_too index key there).0

      pub differs_too : (index key : ℕ) → slice_get key_heads.keys index ≡ Some key → (text : List ℕ) → bytes key ≡ Some text
          → IsCommonPrefixLen common_prefix_len text target
      differs_too index key there text known =
          let same : (key_at index key there).text ≡ text = cc ((key_at index key there).known) in
          rw same at (bytes_too index key there).1

    -- How far a key below the bound and the target begin alike is told by its head, if that isn't the one of the target.
    pub common_at : (index key head count : ℕ) → slice_get key_heads.keys index ≡ Some key
        → IsTargetHead bytes key_heads target head → is_below key ≡ true → head_of index ≢ head → count ≤ 4
        → take count (to_be_bytes w32 (head_of index)) ≡ take count (to_be_bytes w32 head)
        → (count < 4 → slice_index (to_be_bytes w32 (head_of index)) count ≢ slice_index (to_be_bytes w32 head) count)
        → (text : List ℕ) → bytes key ≡ Some text → IsCommonPrefixLen (n + count) text target
    common_at index key head count there is passed apart few have_prefix differ text known =
        let k = key_at index key there in
        let own = k.head in
        let other = is.head_is in
        let same : k.text ≡ text = cc (k.known) in
        let ahead : IsBefore target k.text → ⊥ = λ following. not_both _ passed ((order key k.text k.known).following following) in
        rw (← same) (elim k.begins [
          | inl empty ↦ rw empty.0 (describes_empty (n + count) target)
          | inr begins ↦
              common_by_heads n k.text target k.are_bytes is.are_bytes begins.1 (begins.0 ∙ sought_begins target is.has_prefix)
              (λ e. apart (cc)) count few (cc) (λ less e. differ less (cc)) ahead
        ])

-- A head that isn't the greatest number is that of an entry.
pub filled_within : (bytes : KeyBytes) (node : Node) → AreHeads bytes (key_heads_of node) → length node.heads ≡ FAN_OUT
    → (count : ℕ) → count ≤ FAN_OUT → (0 < count → get_or node.heads (count - 1) 0 ≢ PADDING) → count ≤ length (entries_of node)
filled_within bytes node h size count room filled =
    let all = heads_count bytes _ (key_heads_of node) h refl in
    let last = count - 1 in
    grind (arith, all, length-take node.len node.heads, get_or_default node.heads last 0 PADDING, node.padded last)

module _ (bytes : KeyBytes) (node : Node) (h : AreHeads bytes (key_heads_of node)) (target : List ℕ)
    (is_below : ℕ → Bool)
    (order : (key : ℕ) (text : List ℕ) → bytes key ≡ Some text → IsBelowInOrder text target (is_below key)) where
  abbrev es : List NodeEntry
  es = entries_of node

  abbrev passes : NodeEntry → Bool
  passes e = is_below e.key

  abbrev own_head : ℕ → ℕ
  own_head index = get_or (key_heads_of node).heads index 0

  -- Where the first key isn't empty and is below the bound, and differs from the target before all keys' common beginning ends,
  -- all entries are below the bound. That is known of the first one.
  pub all_known : (common_prefix_len : ℕ) → 0 < length es → IsCommonPrefixAt bytes is_below target common_prefix_len es 0
      → (own_head 0 ≢ 0 → common_prefix_len < node.prefix_len) → own_head 0 ≢ 0 → length (filter passes es) ≡ length es
  all_known common_prefix_len some knows less filled =
      let first = entry_at es 0 some in
      let known = knows first.0 first.1 in
      let all = passes_too bytes (key_heads_of node) h target is_below order common_prefix_len first.0.key
      (key_there es 0 first.0 first.1) filled (less filled) known.0 known.1 in
      ap length (none_fail passes es (λ i d inside. all i _ (key_there es i _ (slice_get-get_or es i d inside)))).0

  module _ (head : ℕ) (is : IsTargetHead bytes (key_heads_of node) target head) (partitioned : IsPartitioned passes es) where
    -- An entry passes if its head is below that of the target.
    one_passes : (index : ℕ) → index < length es → own_head index < head → index < length (filter passes es)
    one_passes index inside less =
        let e = entry_at es index inside in
        passing_inside passes es index e.0 partitioned e.1 (less_passes bytes (key_heads_of node) h target is_below order index
        e.0.key head (key_there es index e.0 e.1) is (lt-ltb (own_head index) head less))

    -- Entries behind some that pass do so, too, as far as their heads are below that of the target.
    pub many_pass : (from first : ℕ) → from ≤ length (filter passes es) → first ≤ length es
        → ((index : ℕ) → from ≤ index → index < first → own_head index < head) → first ≤ length (filter passes es)
    many_pass from first least within below =
        let count = length (filter passes es) in
        grind (arith, one_passes count, below count)

    -- No more entries are below the bound than stand before one whose head is above that of the target.
    pub few_pass : (end : ℕ) → (end < length es → head < own_head end) → length (filter passes es) ≤ end
    few_pass end above = elim (cases_lt end (length es)) [
      | inr all ↦ omega (arith, length-items_below passes es)
      | inl inside ↦
          let e = entry_at es end inside in
          let answered = answered_at bytes (key_heads_of node) h target is_below order end e.0.key head (key_there es end e.0 e.1) is in
          grind (arith, nat_tests, above inside, answered, passing_before passes es end e.0 partitioned e.1)
    ]

    -- Entries pass up to one whose head is below that of the target.
    pub few_below : (count : ℕ) → count ≤ length es → (0 < count → get_or node.heads (count - 1) 0 < head)
        → count ≤ length (filter passes es)
    few_below count within below =
        let last = count - 1 in
        grind (arith, one_passes last, get_or-take node.len node.heads last 0, length-take node.len node.entries)
