use Rattle.std.proofs.Common.{◌≡◌, Some, slice_get, refl, sym}
use Rattle.std.proofs.lemmas.Option.{slice_get_within, get_or_from_slice_get}
use Rattle.boundaries.proofs.Words.{NodeEntry, entries_of, key_at, key_heads_of, keys_of}
use Rattle.boundaries.proofs.HeadChanges.{headed_joined, keys_there, known_spliced, map_spliced}
use Rattle.boundaries.proofs.Headed.{all_known}
use Rattle.boundaries.proofs.node.Node.insert.Goals as goal

pub compute_heads-requires : goal.compute_heads-requires
compute_heads-requires c =
    let known = known_spliced _ (key_heads_of one) both.0 (keys_of (entries_of other)) _ at at
    (all_known _ (key_heads_of other) both.1) in record {
      known = known (map_spliced (λ (e : NodeEntry). e.key) (entries_of one) (entries_of other) _ at at
          (rw c.entries-2.ensures.entries at c.replace-2.ensures.entries));
    }
  where
    open c use {args.{self.{now as one}, other.{now as other}, index as at}, requires.{headed as both}}

pub lengthen_prefix-requires : goal.lengthen_prefix-requires
lengthen_prefix-requires c =
    let bytes = key_at c.args.keys.now in
    let get : slice_get es 0 ≡ Some first = sym {b = slice_get es 0} c.in-Some.ensures.value in
    let there = keys_there es 0 first (slice_get_within es 0 first get) (get_or_from_slice_get es 0 first first get) in
    let keys = map_spliced (λ (e : NodeEntry). e.key) (entries_of one) (entries_of other) _ at at
    (rw c.entries-then-begins.ensures.entries at c.replace.ensures.entries) in
    let joined = headed_joined bytes (key_heads_of one) (key_heads_of other) c.requires.headed.0 c.requires.headed.1 first.key
    c.if-self-other.true (rw c.entries.ensures.entries at there) (c.if-begins.ensures.has_prefix refl) _ at keys
    heads.prefix_len (rw c.heads.ensures.heads at heads.heads_are) in
    record { headed = joined }
  where
    open c use {args.{self.{now as one}, other.{now as other}, index as at}, entries.{result.{now as es}}, in-Some.{first.{now as first}}}
    open c use {replace.{ensures.{heads}}}
