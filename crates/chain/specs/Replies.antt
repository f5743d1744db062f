-- The replies that are kept, by proxy and version. When replies are given up is this project's own rule.
use Rattle.std.specs.Prelude.{◌≡◌, ℕ, ℤ, Bool, ◌&&◌, ◌==◌, int_le, Option, Some}
use Rattle.std.specs.declared.cmp.Ordering.{Ordering}
use Rattle.std.specs.Ordering.{nat_cmp, int_cmp, ordering_then}
use Rattle.std.specs.BTreeMap as tree
use Rattle.std.specs.BTreeMap.{BTreeMap}
use Rattle.std.specs.FinMap as map
use Rattle.keyspace.specs.declared.reply.Reply.{Reply}

-- a key of the map is a proxy and a version: by proxy, and then by version
abbrev pub key_cmp : ℕ × ℤ → ℕ × ℤ → Ordering
key_cmp a b = ordering_then (nat_cmp a.0 b.0) (int_cmp a.1 b.1)

-- a finite map from proxy and version to a reply
abbrev pub Kept : Type 0
Kept = map.FinMap key_cmp Reply

-- the reply kept of the proxy for the version
abbrev pub reply_of : Kept → ℕ → ℤ → Option Reply
reply_of kept proxy version = map.get kept (proxy, version)

-- whether the key is the proxy's, and its version at most this one
abbrev pub is_up_to : ℕ → ℤ → ℕ × ℤ → Bool
is_up_to proxy version key = (proxy == key.0) && int_le key.1 version

-- each reply is kept under its own version
abbrev pub IsFiled : BTreeMap (ℕ × ℤ) Reply → Type 0
IsFiled kept = (key : ℕ × ℤ) (reply : Reply) → tree.get key_cmp kept key ≡ Some reply → reply.version ≡ key.1
