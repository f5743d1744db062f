use Rattle.std.proofs.Common.{◌≡◌, ◌≤◌, ◌-◌, List, ℕ, length, take, Some, slice_get, arith, leb-true}
use Rattle.boundaries.proofs.Words.{key_at, entries_of, key_heads_of}
use Rattle.boundaries.proofs.HeadChanges.{common_agrees, last_there}
use Rattle.boundaries.proofs.KeyBytes.{known_bytes}
use Rattle.boundaries.proofs.node.Node.begins.Goals as goal

pub returns-in-Some : goal.returns-in-Some
returns-in-Some c =
    let es = entries_of c.args.self.now in
    let keys = c.args.keys.now in
    let last = c.in-Some.last.now in
    let common = c.common_prefix_len.ensures in
    let get : slice_get es (length es - 1) ≡ Some last = cc (c.entries.ensures.entries, c.in-Some.ensures.value) in
    let same : (a b : List ℕ) → key_at keys last.key ≡ Some a → key_at keys c.args.key ≡ Some b
    → take c.common_prefix_len.result a ≡ take c.common_prefix_len.result b =
    λ a b one other. rw (known_bytes keys last.key a one, known_bytes keys c.args.key b other) at
    rw (c.bytes_of-own.ensures.bytes, c.bytes_of.ensures.bytes) at common.same in
    let within : (a b : List ℕ) → key_at keys last.key ≡ Some a → key_at keys c.args.key ≡ Some b
    → (c.common_prefix_len.result ≤ length a) × (c.common_prefix_len.result ≤ length b) =
    λ a b one other. rw (known_bytes keys last.key a one, known_bytes keys c.args.key b other) at
    rw (c.bytes_of-own.ensures.bytes, c.bytes_of.ensures.bytes) at common.within in
    record {
      has_prefix = λ enough.
          let least = leb-true c.prefix_len.result c.common_prefix_len.result enough in
          common_agrees (key_at keys) (key_heads_of c.args.self.now) c.requires.headed last.key c.args.key
          c.common_prefix_len.result (last_there es last get) (omega (arith, least)) same within;
    }
