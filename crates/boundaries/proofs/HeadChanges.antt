-- What nodes know of the bytes of their keys, through changes of these.
use Rattle.std.proofs.Common.{◌≡◌, ◌≢◌, ◌⊎◌, inl, inr, ℕ, ◌+◌, ◌-◌, ◌<◌, ◌≤◌, min, List, [], ◌∷◌, ◌++◌, Some, length, get_or, take, drop, map, All, refl, sym, ◌∙◌, arith, slice_get, slice_set}
use Rattle.std.specs.List.{AllZip, Contains}
use Rattle.std.proofs.lemmas.List.{get_or-map, get_or-take, length-map, length-take, length-take-le, drop_at, map-append, map-set, map_more, take_at, take-map, drop-map, take_more_set}
use Rattle.std.proofs.lemmas.Option.{slice_get_within, get_or_from_slice_get}
use Rattle.std.proofs.lemmas.List.Elements.{All-nil, All-cons, All-append, All-contains, All-drop, All-more, All-set, All-take}
use Rattle.boundaries.proofs.Words.{NodeEntry, KeyBytes, IsKnown, Begins, KeyHeads, AreHeads, HasPrefix, IsHeadBeside, IsTargetHead, head_after, head_at, keys_of}
use Rattle.boundaries.proofs.Headed.{all_known, begins_if_long}
use Rattle.boundaries.proofs.HeadOrder.{take_fewer}
use Rattle.boundaries.proofs.callers.Partitions.{All-front, All-back}

-- Elements are put in place of those from one index up to another.
All-spliced : {X : Type 0} (P : X → Type 0) (xs new : List X) (from to : ℕ) → All P xs → All P new
    → All P (take from xs ++ (new ++ drop to xs))
All-spliced P xs new from to all more =
    All-append P _ _ (All-take P from xs all) (All-append P new (drop to xs) more (All-drop P to xs all))

-- the keys of so many entries are as many
pub keys_count : (es : List NodeEntry) (len : ℕ) → len ≤ length es → length (keys_of (take len es)) ≡ len
keys_count es len most = length-map (take len es) (λ (e : NodeEntry). e.key) ∙ length-take-le len es most

-- what is computed of elements where others are put in place of those from one index up to another
pub map_spliced : {X Y : Type 0} (f : X → Y) (xs new now : List X) (from to : ℕ) → now ≡ take from xs ++ (new ++ drop to xs)
    → map f now ≡ take from (map f xs) ++ (map f new ++ drop to (map f xs))
map_spliced f xs new now from to is = simp (is, map-append, take-map, drop-map)

-- the key of an entry is one of the keys
pub keys_there : (es : List NodeEntry) (i : ℕ) (e : NodeEntry) → i < length es → get_or es i e ≡ e → Contains (keys_of es) e.key
keys_there es i e inside is =
    (i, omega (arith, length-map es (λ (x : NodeEntry). x.key)), cc (get_or-map (λ (x : NodeEntry). x.key) es i e e.key inside))

-- the key of the last one
pub last_there : (es : List NodeEntry) (e : NodeEntry) → slice_get es (length es - 1) ≡ Some e → Contains (keys_of es) e.key
last_there es e is = keys_there es (length es - 1) e (slice_get_within es _ e is) (get_or_from_slice_get es _ e e is)

-- the head of a key is that of its bytes
pub head_known : (bytes : KeyBytes) (prefix_len key head : ℕ) → IsKnown bytes key
    → ((text : List ℕ) → bytes key ≡ Some text → head ≡ head_after prefix_len text) → head ≡ head_at bytes prefix_len key
head_known bytes prefix_len key head k d = rw k.known (d k.text k.known)

-- Entries of which some are in use, and one of these.
module _ (es : List NodeEntry) (len i : ℕ) (e : NodeEntry) (inside : i < len) (most : len ≤ length es) (is : e ≡ get_or es i e) where
  -- its key
  key_read : e.key ≡ get_or (keys_of (take len es)) i e.key
  key_read = grind (arith, get_or-map, get_or-take, length-take)

  pub key_there : Contains (keys_of (take len es)) e.key
  key_there = (i, omega (arith, keys_count es len most), sym key_read)

  -- its head
  pub head_there : (f : ℕ → ℕ) (heads : List ℕ) → take len heads ≡ map f (keys_of (take len es)) → get_or heads i 0 ≡ f e.key
  head_there f heads right = grind (arith, get_or-map, get_or-take, keys_count, key_read)

  -- with its head one more is right
  pub head_next : (f : ℕ → ℕ) (heads : List ℕ) (head : ℕ) → i < length heads → head ≡ f e.key
      → take i heads ≡ map f (take i (keys_of (take len es)))
      → take (i + 1) (slice_set heads i head) ≡ map f (take (i + 1) (keys_of (take len es)))
  head_next f heads head room right before = grind (arith, map_more, take_more_set, keys_count, key_read)

-- A key is empty, or begins as the keys do of which this is known.
abbrev pub BeginsAsThese : KeyBytes → KeyHeads → ℕ → Type 0
BeginsAsThese bytes key_heads key = (text : List ℕ) → bytes key ≡ Some text → (text ≡ []) ⊎ HasPrefix bytes key_heads text

-- A key is empty, or begins with so many bytes in common with a first one, and that one is no shorter.
abbrev pub BeginsAsFirst : KeyBytes → ℕ → ℕ → ℕ → Type 0
BeginsAsFirst bytes first count key =
    (a b : List ℕ) → bytes first ≡ Some a → bytes key ≡ Some b → (b ≡ []) ⊎ ((count ≤ length a) × (take count a ≡ take count b))

module _ (bytes : KeyBytes) where
  -- a known key whose text is empty or begins with these bytes
  begins_with : (prefix : List ℕ) (key : ℕ) (k : IsKnown bytes key)
      → (k.text ≡ []) ⊎ (take (length prefix) k.text ≡ prefix) → Begins bytes prefix key
  begins_with prefix key k begins = record { text = k.text; known = k.known; are_bytes = k.are_bytes; begins = begins }

  -- one key more that begins as the first one does, for fewer bytes perhaps
  pub first_more : (first count n i : ℕ) (keys : List ℕ) (key : ℕ) → i < length keys → key ≡ get_or keys i key
      → ((a b : List ℕ) → bytes first ≡ Some a → bytes key ≡ Some b → take n a ≡ take n b)
      → ((a b : List ℕ) → bytes first ≡ Some a → bytes key ≡ Some b → (n ≤ length a) × (n ≤ length b))
      → All (BeginsAsFirst bytes first count) (take i keys) → All (BeginsAsFirst bytes first (min count n)) (take (i + 1) keys)
  first_more first count n i keys key inside is same within before =
      let less = min count n in
      let here : BeginsAsFirst bytes first less key = λ a b one other.
      grind (arith, within a b one other, same a b one other, take_fewer less n a b) in
      All-more (BeginsAsFirst bytes first less) keys i key inside
      (λ j d lt a b one other. grind (arith, before j d lt a b one other, take_fewer less count a b)) (rw (← is) here)

  -- an empty key more
  pub first_empty : (first count i : ℕ) (keys : List ℕ) (key : ℕ) → i < length keys → key ≡ get_or keys i key
      → ((b : List ℕ) → bytes key ≡ Some b → b ≡ [])
      → All (BeginsAsFirst bytes first count) (take i keys) → All (BeginsAsFirst bytes first count) (take (i + 1) keys)
  first_empty first count i keys key inside is empty before =
      All-more (BeginsAsFirst bytes first count) keys i key inside before (rw (← is) (λ a b one other. inl (empty b other)))

  -- Keys that all begin as one of them does that isn't empty begin with bytes of it.
  pub begin_of_first : (first count : ℕ) (keys : List ℕ) → Contains keys first → All (IsKnown bytes) keys
      → All (BeginsAsFirst bytes first count) keys → (text : List ℕ) → bytes first ≡ Some text → text ≢ []
      → (count ≤ length text) × All (Begins bytes (take count text)) keys
  begin_of_first first count keys there known common text is filled =
      let own = All-contains (BeginsAsFirst bytes first count) keys first common there text text is is in
      let long : count ≤ length text = grind (arith, own, filled) in
      let size = length-take-le count text long in (
        long,
        λ i d inside.
            let k = known i d inside in
            begins_with (take count text) (get_or keys i d) k (grind (arith, size, common i d inside text k.text is k.known)),
      )

  -- Keys that begin with bytes of a text begin with fewer of them.
  pub begin_fewer : (fewer count : ℕ) (text keys : List ℕ) → fewer ≤ count → count ≤ length text
      → All (Begins bytes (take count text)) keys → All (Begins bytes (take fewer text)) keys
  begin_fewer fewer count text keys less long begins = λ i d inside.
      let b = begins i d inside in
      let short = length-take-le fewer text (omega (arith, less, long)) in
      record {
        text = b.text;
        known = b.known;
        are_bytes = b.are_bytes;
        begins = grind (arith, less, length-take-le count text long, short, b.begins, take_fewer fewer count b.text text);
      }

  -- The head of a target is that of a key with its bytes.
  pub target_beside : (key_heads : KeyHeads) (key head : ℕ) → IsKnown bytes key
      → ((text : List ℕ) → bytes key ≡ Some text → IsTargetHead bytes key_heads text head) → IsHeadBeside bytes key_heads key head
  target_beside key_heads key head known given =
      let head_is = head_known bytes key_heads.prefix_len key head known (λ text is. (given text is).head_is) in
      record { begins = λ text is. inr ((given text is).has_prefix); head_is = head_is }

  -- The heads of keys beside those of a node are theirs, and the keys begin as all others do.
  beside_right : (key_heads : KeyHeads) (keys heads : List ℕ) → AllZip (IsHeadBeside bytes key_heads) keys heads
      → (heads ≡ map (head_at bytes key_heads.prefix_len) keys) × All (BeginsAsThese bytes key_heads) keys
  beside_right key_heads [] [] given = (refl, All-nil (BeginsAsThese bytes key_heads))
  beside_right key_heads (key ∷ keys) (head ∷ heads) given =
      let rest = beside_right key_heads keys heads given.1 in
      (cc (given.0.head_is, rest.0), All-cons (BeginsAsThese bytes key_heads) key keys given.0.begins rest.1)
  beside_right key_heads _ _ given = absurd given

  -- There are as many heads as entries.
  pub heads_count : (es : List NodeEntry) (key_heads : KeyHeads) → AreHeads bytes key_heads → key_heads.keys ≡ keys_of es
      → length key_heads.heads ≡ length es
  heads_count es key_heads h is =
      cc (h.heads, length-map key_heads.keys (head_at bytes key_heads.prefix_len), length-map es (λ (e : NodeEntry). e.key))

  -- a node that knows its keys' bytes
  module _ (key_heads : KeyHeads) (h : AreHeads bytes key_heads) where
    -- one whose keys begin with the same bytes
    headed_equal : (new : KeyHeads) → new.prefix_len ≡ key_heads.prefix_len → All (Begins bytes h.prefix) new.keys
        → new.heads ≡ map (head_at bytes key_heads.prefix_len) new.keys → AreHeads bytes new
    headed_equal new same begins heads =
        record { prefix = h.prefix; prefix_len = h.prefix_len ∙ sym same; begins = begins; heads = rw same heads }

    -- A text that begins as all keys do begins with these bytes.
    pub prefix_begins : (text : List ℕ) → HasPrefix bytes key_heads text → take (length h.prefix) text ≡ h.prefix
    prefix_begins text a =
        let b = All-contains (Begins bytes h.prefix) key_heads.keys a.key h.begins a.there in
        let texts : b.text ≡ a.text = cc (b.known, a.known) in
        grind (arith, begins_if_long h.prefix b.text b.begins)

    -- A key that begins as all others do for so many bytes begins with these.
    agrees_begins : (key : ℕ) → IsKnown bytes key → BeginsAsThese bytes key_heads key → Begins bytes h.prefix key
    agrees_begins key k has_prefix =
        begins_with h.prefix key k
        (elim (has_prefix k.text k.known) [ inl empty ↦ inl empty | inr a ↦ inr (prefix_begins k.text a) ])

    -- a key of the node itself does
    pub key_agrees : (key : ℕ) → Contains key_heads.keys key → BeginsAsThese bytes key_heads key
    key_agrees key there text known =
        let b = All-contains (Begins bytes h.prefix) key_heads.keys key h.begins there in
        let texts : text ≡ b.text = cc (b.known) in
        elim b.begins [
          | inl empty ↦ inl (texts ∙ empty)
          | inr same ↦
              let long : key_heads.prefix_len ≤ length text = grind (arith, length-take (length h.prefix) b.text) in
              inr (record { key = key; text = text; there = there; known = known; long = long; same = refl })
        ]

    -- and a key that begins as one of them for so many bytes does
    pub common_agrees : (first key count : ℕ) → Contains key_heads.keys first → key_heads.prefix_len ≤ count
        → ((a b : List ℕ) → bytes first ≡ Some a → bytes key ≡ Some b → take count a ≡ take count b)
        → ((a b : List ℕ) → bytes first ≡ Some a → bytes key ≡ Some b → (count ≤ length a) × (count ≤ length b))
        → (text : List ℕ) → bytes key ≡ Some text → HasPrefix bytes key_heads text
    common_agrees first key count there enough same within text known =
        let b = All-contains (Begins bytes h.prefix) key_heads.keys first h.begins there in
        let long : key_heads.prefix_len ≤ length b.text = omega (arith, (within b.text text b.known known).0) in
        let have_prefix = take_fewer key_heads.prefix_len count b.text text enough (same b.text text b.known known) in
        record { key = first; text = b.text; there = there; known = b.known; long = long; same = have_prefix }

    -- Another key that begins alike is set.
    pub headed_set : (new : KeyHeads) (i key head : ℕ) → IsKnown bytes key → BeginsAsThese bytes key_heads key
        → head ≡ head_at bytes key_heads.prefix_len key → new.keys ≡ slice_set key_heads.keys i key
        → new.prefix_len ≡ key_heads.prefix_len → new.heads ≡ slice_set key_heads.heads i head → AreHeads bytes new
    headed_set new i key head k has_prefix right keys prefix_len heads =
        headed_equal new prefix_len
        (rw keys (All-set (Begins bytes h.prefix) key_heads.keys i key (agrees_begins key k has_prefix) h.begins))
        (cc (h.heads, map-set (head_at bytes key_heads.prefix_len) key_heads.keys i key))

    -- then the keys are known
    pub known_set : (i key : ℕ) → IsKnown bytes key → (keys : List ℕ) → keys ≡ slice_set key_heads.keys i key
        → All (IsKnown bytes) keys
    known_set i key k keys is = rw is (All-set (IsKnown bytes) key_heads.keys i key k (all_known bytes key_heads h))

    -- those where others are put in place of some
    pub known_spliced : (new keys : List ℕ) (from to : ℕ) → All (IsKnown bytes) new
        → keys ≡ take from key_heads.keys ++ (new ++ drop to key_heads.keys) → All (IsKnown bytes) keys
    known_spliced new keys from to known is =
        rw is (All-spliced (IsKnown bytes) key_heads.keys new from to (all_known bytes key_heads h) known)

    -- Others are put in place of those from one index up to another, with the heads given.
    pub headed_spliced : (now : KeyHeads) (new heads : List ℕ) (from to : ℕ) → All (IsKnown bytes) new
        → AllZip (IsHeadBeside bytes key_heads) new heads
        → now.keys ≡ take from key_heads.keys ++ (new ++ drop to key_heads.keys) → now.prefix_len ≡ key_heads.prefix_len
        → now.heads ≡ take from key_heads.heads ++ (heads ++ drop to key_heads.heads) → AreHeads bytes now
    headed_spliced now new heads from to known given keys_are prefix_len heads_are =
        let right = beside_right key_heads new heads given in
        headed_equal now prefix_len (rw keys_are (All-spliced (Begins bytes h.prefix) key_heads.keys new from to h.begins
        (λ i d inside. agrees_begins (get_or new i d) (known i d inside) (right.1 i d inside))))
        (cc (h.heads, right.0, map_spliced (head_at bytes key_heads.prefix_len) key_heads.keys new now.keys from to keys_are))

    -- Those from one index up to another are taken out, with their heads.
    pub headed_removed : (new : KeyHeads) (from to : ℕ) → new.keys ≡ take from key_heads.keys ++ drop to key_heads.keys
        → new.prefix_len ≡ key_heads.prefix_len → new.heads ≡ take from key_heads.heads ++ drop to key_heads.heads
        → AreHeads bytes new
    headed_removed new from to = headed_spliced new [] [] from to (All-nil (IsKnown bytes)) tt

  -- Heads that are right of all keys are right of those in front, and of those behind.
  pub headed_apart : (all front back : KeyHeads) → AreHeads bytes all
      → front.keys ++ back.keys ≡ all.keys → front.heads ++ back.heads ≡ all.heads → length front.heads ≡ length front.keys
      → front.prefix_len ≡ all.prefix_len → back.prefix_len ≡ all.prefix_len → AreHeads bytes front × AreHeads bytes back
  headed_apart all front back h keys heads count front_len back_len =
      let f = head_at bytes all.prefix_len in
      let P = Begins bytes h.prefix in
      let n = length front.keys in
      let begins = rw (← keys) at h.begins in
      let mapped = map-append f front.keys back.keys in
      let len = length-map front.keys f in (
        headed_equal all h front front_len (All-front P front.keys back.keys begins)
            (cc (take_at front.heads back.heads n count, take_at (map f front.keys) (map f back.keys) n len)),
        headed_equal all h back back_len (All-back P front.keys back.keys begins)
            (cc (drop_at front.heads back.heads n count, drop_at (map f front.keys) (map f back.keys) n len)),
      )

  -- two nodes, where one key of the second begins as the keys of the first do, and as many bytes are known
  module _ (one other : KeyHeads) (h : AreHeads bytes one) (others : AreHeads bytes other) (key : ℕ)
      (as_many : one.prefix_len ≡ other.prefix_len) (there : Contains other.keys key)
      (has_prefix : (text : List ℕ) → bytes key ≡ Some text → HasPrefix bytes one text) where
    -- All keys of both begin with the same bytes.
    same_prefix : others.prefix ≡ h.prefix
    same_prefix =
        let k = All-contains (Begins bytes others.prefix) other.keys key others.begins there in
        let begins = prefix_begins one h k.text (has_prefix k.text k.known) in
        grind (arith, length-take (length h.prefix) k.text, begins_if_long others.prefix k.text k.begins)

    -- Those of the second are put before the one at an index of the first, with their heads.
    pub headed_joined : (now : KeyHeads) (at : ℕ) → now.keys ≡ take at one.keys ++ (other.keys ++ drop at one.keys)
        → now.prefix_len ≡ one.prefix_len → now.heads ≡ take at one.heads ++ (other.heads ++ drop at one.heads) → AreHeads bytes now
    headed_joined now at keys prefix_len heads =
        headed_equal one h now prefix_len
        (rw keys (All-spliced (Begins bytes h.prefix) one.keys other.keys at at h.begins (rw same_prefix at others.begins)))
        (cc (h.heads, others.heads, map_spliced (head_at bytes one.prefix_len) one.keys other.keys now.keys at at keys))
