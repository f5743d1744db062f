use Rattle.boundaries.proofs.Words.{NodeEntry, entries_of, key_heads_of, keys_of}
use Rattle.boundaries.proofs.HeadChanges.{headed_spliced, known_spliced, map_spliced}
use Rattle.boundaries.proofs.node.Node.splice.Goals as goal

pub compute_heads-requires : goal.compute_heads-requires
compute_heads-requires c =
    let can = c.requires.can_splice in
    let old = c.args.self.now in
    let splice = c.args.splice in
    let keys = map_spliced (λ (e : NodeEntry). e.key) (entries_of old) _ _ splice.from splice.to c.replace.ensures.entries in
    record {
      known = known_spliced _ (key_heads_of old) can.headed (keys_of splice.new.now) _ splice.from splice.to can.known keys;
    }

pub returns-clause-headed : goal.returns-clause-headed
returns-clause-headed c =
    let can = c.requires.can_splice in
    let old = c.args.self.now in
    let splice = c.args.splice in
    let keys = map_spliced (λ (e : NodeEntry). e.key) (entries_of old) _ _ splice.from splice.to c.replace-2.ensures.entries in
    headed_spliced _ (key_heads_of old) can.headed _ _ _ splice.from splice.to can.known (rw c.in-Some.is at can.beside) keys
    c.replace-2.ensures.heads.prefix_len (rw c.front.ensures.front at c.replace-2.ensures.heads.heads_are)
