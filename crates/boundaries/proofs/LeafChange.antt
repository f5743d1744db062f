-- How many entries of a leaf pass, and the keys that it has once it is changed.
use Rattle.std.proofs.Common.{rules, option_map, ◌≢◌, ◌≡◌, inl, ℕ, zero, suc, ◌≤◌, Bool, not, List, [], ◌∷◌, Some, length, get_or, set, take, drop, filter, refl, sym, ◌∙◌, ap, arith}
use Rattle.std.proofs.lemmas.List.{take_at, drop_at, length-map}
use Rattle.std.proofs.lemmas.List.Elements.{All-nil, All-cons}
use Rattle.std.proofs.Math.Seq.{map-set_same}
use Rattle.std.specs.FinMap as finite
use Rattle.std.specs.Ordering.{nat_cmp}
use Rattle.arena.specs.Arena.{Arena, Record, record_at}
use Rattle.boundaries.specs.declared.entry.NodeEntry.{NodeEntry}
use Rattle.boundaries.specs.declared.node.Node.{Node}
use Rattle.boundaries.specs.Heads.{KeyBytes, Begins, AreHeads, AllAreHeads}
use Rattle.boundaries.specs.Item.{item_of}
use Rattle.boundaries.specs.Node.{entries_of, key_heads_of, all_heads_of, keys_of}
use Rattle.boundaries.specs.Path.{IsPartitioned}
use Rattle.boundaries.specs.Subtree.{entries_at}
use Rattle.boundaries.specs.Store.{IsTree}
use Rattle.boundaries.proofs.HeadOrder.{empty_head}
use Rattle.boundaries.proofs.Headed.{headed_put}

-- so many entries are below the bound, and the others stand behind them
pub parted : (p : ℕ → Bool) (es : List NodeEntry) (n : ℕ) → IsPartitioned (λ e. p e.key) es → n ≡ length (filter (λ e. p e.key) es)
    → (take n es ≡ filter (λ e. p e.key) es) × (drop n es ≡ filter (λ e. not (p e.key)) es)
parted p es n partitioned count =
    let front = filter (λ (e : NodeEntry). p e.key) es in
    let rest = filter (λ (e : NodeEntry). not (p e.key)) es in
    (ap (take n) partitioned ∙ take_at front rest n (sym count), ap (drop n) partitioned ∙ drop_at front rest n (sym count))

-- the root of a tree has an entry
pub root_some : (nodes : Arena Node) (slot height len room : ℕ) → IsTree nodes slot height len room
    → 1 ≤ length (entries_at nodes slot)
root_some nodes slot zero len room t = omega (arith, t.some, t.counted, length-map (entries_at nodes slot) item_of)
root_some nodes slot (suc height) len room t = t.rooted.subtree.1

-- A node whose keys stay knows as much as before.
pub key_heads_stays : (bytes : KeyBytes) (old new : Node) (i : ℕ) (d e : NodeEntry)
    → key_heads_of new ≡ record (key_heads_of old) { keys = keys_of (entries_of new) }
    → entries_of new ≡ set (entries_of old) i e → e.key ≡ (get_or (entries_of old) i d).key → AreHeads bytes (key_heads_of old)
    → AreHeads bytes (key_heads_of new)
key_heads_stays bytes old new i d e key_heads entries key headed =
    let kept = map-set_same (λ (e : NodeEntry). e.key) (entries_of old) i e d key in
    let keys : keys_of (entries_of new) ≡ keys_of (entries_of old) = ap keys_of entries ∙ kept in
    rw (key_heads, keys) headed

-- The empty key is known, and its head is zero: a node that has no other knows it.
headed_empty : (bytes : KeyBytes) (key : ℕ) → bytes key ≡ Some []
    → AreHeads bytes (record { keys = key ∷ []; prefix_len = 0; heads = 0 ∷ [] })
headed_empty bytes key empty =
    let begins : Begins bytes [] key = record { text = []; known = empty; are_bytes = search rules; begins = inl refl } in
    record {
      prefix = [];
      prefix_len = refl;
      begins = All-cons (Begins bytes []) key [] begins (All-nil (Begins bytes []));
      heads = rw empty (ap (λ d. d ∷ []) (sym (empty_head 0)));
    }

-- an arena whose only node has the empty key alone
pub headed_alone : (bytes : KeyBytes) (a b : Arena Node) (slot : ℕ) (node : Node) (key : ℕ)
    → a.records ≡ finite.empty → record_at b slot ≡ Some (record { header = node; key = [] })
    → ((s : ℕ) → s ≢ slot → record_at b s ≡ record_at a s)
    → key_heads_of node ≡ record { keys = key ∷ []; prefix_len = 0; heads = 0 ∷ [] } → bytes key ≡ Some []
    → AllAreHeads bytes (all_heads_of b)
headed_alone bytes a b slot node key none is others key_heads empty =
    let nothing : AllAreHeads bytes (all_heads_of a) = λ s. (rw (none, finite.get-empty nat_cmp s) tt) in
    headed_put bytes a b slot node nothing (ap (option_map (λ (r : Record Node). r.header)) is)
    (rw key_heads (headed_empty bytes key empty)) others
