use Rattle.std.proofs.Common.{◌≡◌, ◌<◌, ◌∙◌, length, slice_set, ap, arith, length-set, length-take-le}
use Rattle.std.proofs.Math.Seq.{take-set-lt, map-set}
use Rattle.boundaries.proofs.Words.{KeyHeads, entries_of, key_at, key_heads_of, keys_of}
use Rattle.boundaries.proofs.HeadChanges.{headed_set, known_set}
use Rattle.boundaries.proofs.node.Node.set_with_head.Goals as goal

pub compute_heads-requires : goal.compute_heads-requires
compute_heads-requires c =
    let old = c.args.self.now in
    let keys = simp map-set at (ap keys_of c.set.ensures.entries) in
    record { known = known_set _ (key_heads_of old) c.requires.headed c.args.index c.args.entry.key c.requires.known _ keys }

pub returns-clause-headed : goal.returns-clause-headed
returns-clause-headed c =
    let count = ap length c.set-2.ensures.entries ∙ length-set (entries_of old) i c.args.entry in
    let inside : i < new.len = omega (arith, c.requires.within, length-take-le new.len new.entries (omega arith), count) in
    let prefix_len : new.prefix_len ≡ old.prefix_len = ap (λ (h : KeyHeads). h.prefix_len) kept in
    let head = c.in-Some.head in
    let beside = rw c.in-Some.is at c.head_of.ensures.head in
    headed_set (key_at c.args.keys.now) (key_heads_of old) c.requires.headed _ i key head c.requires.known
    beside.begins beside.head_is (simp map-set at (ap keys_of c.set-2.ensures.entries)) prefix_len
    (take-set-lt new.len new.heads i head inside ∙ ap (λ (h : KeyHeads). slice_set h.heads i head) kept)
  where
    open c use {args.{self.{now as old}, index as i, entry.{key}}, set-2.{new.{self as new}, ensures.{key_heads as kept}}}
