use Rattle.std.proofs.Common.{◌≡◌, ◌≤◌, ◌-◌, ℕ, List, take, All, sym, subst, length, slice_get, arith, length-take-le}
use Rattle.std.proofs.lemmas.List.Elements.{All-contains}
use Rattle.boundaries.proofs.Words.{key_at, IsKnown, Begins, entries_of, keys_of}
use Rattle.boundaries.proofs.HeadChanges.{begin_fewer, last_there}
use Rattle.boundaries.proofs.node.Node.prefix.Goals as goal
use Rattle.boundaries.proofs.node.Node.prefix.Goals.{After-keys_prefix_len-count}

pub keys_prefix_len-count-requires-clause-there : goal.keys_prefix_len-count-requires-clause-there
keys_prefix_len-count-requires-clause-there c =
    last_there c.entries-entries.result.now c.in-Some-Some.last.now (sym c.in-Some-Some.ensures'.value)

-- All keys begin with so many bytes of the last one, or with fewer.
begun : (c : After-keys_prefix_len-count) (fewer : ℕ) → fewer ≤ c.keys_prefix_len-count.result
    → (prefix : List ℕ) × (length prefix ≡ fewer)
    × All (Begins (key_at c.args.keys.now) prefix) (keys_of (entries_of c.args.self.now))
begun c fewer less =
    let there = rw entries at (last_there xs last (sym {b = slice_get xs (length xs - 1)} c.in-Some-Some.ensures'.value)) in
    let k = All-contains (IsKnown _) (keys_of (entries_of c.args.self.now)) last.key c.requires.known there in
    let begin = c.keys_prefix_len-count.ensures.begin k.text k.known in
    let begins = subst (λ es. All (Begins (key_at c.args.keys.now) (take count k.text)) (keys_of es)) entries begin.1 in
    (take fewer k.text, length-take-le fewer k.text (omega (arith, less, begin.0)), begin_fewer _ fewer count k.text _ less begin.0 begins)
  where
    open c use {entries-entries.{result.{now as xs}, ensures.{entries}}, in-Some-Some.{last.{now as last}}}
    open c use {keys_prefix_len-count.{result as count}}

pub returns-then-is_empty-2 : goal.returns-then-is_empty-2
returns-then-is_empty-2 c = record {
  begin = begun (goal.at.returns-then-is_empty-2 c).After-keys_prefix_len-count c.without_some.result c.without_some.ensures.fewer;
}

pub returns : goal.returns
returns c = record {
  begin = begun (goal.at.returns c).After-keys_prefix_len-count c.keys_prefix_len-count.result (omega arith);
}
