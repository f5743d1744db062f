use Rattle.replay_shards.proofs.Streams.{gave_clips}
use Rattle.replay_shards.proofs.laws.streams_give_clips.Goals as goal

pub returns : goal.returns
returns g c = record { clips = λ shard first last clips at gives. gave_clips g.S.Source.remaining shard first last clips at gives }
