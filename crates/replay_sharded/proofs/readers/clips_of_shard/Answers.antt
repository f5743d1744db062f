use Rattle.replay_sharded.proofs.Readings.{clips_are_of, if_ok_three}
use Rattle.replay_sharded.proofs.readers.clips_of_shard.Goals as goal

pub returns-clause-clips : goal.returns-clause-clips
returns-clause-clips g c =
    if_ok_three c.clips_each.result _ _ _ _
    (λ clips readers shard none files own at read.
    clips_are_of g.S.Source.remaining c.args.readers.items _ files own clips.items readers shard none at read)
    c.clips_each.ensures.readers c.clips_each.ensures.shard c.clips_each.ensures.none
