use Rattle.std.proofs.Common.{◌∙◌, List, ℕ, Bor, ap, arith, length}
use Rattle.replay_arguments.specs.Opening.{contents_each}
use Rattle.replay_program.specs.Program.{texts}
use Rattle.replay_program.proofs.ShardingFiles.{files_of_names, points_by_sample, points_of_file, readers_of_files}
use Rattle.replay_program.proofs.program.several_resolvers.opened.points_of.Goals as goal

pub points_of_sample-requires : goal.points_of_sample-requires
points_of_sample-requires g c =
    let asks = c.requires.asked.1 in
    let names = c.deref.result.now in
    let contents = g.F.Files.contents c.args.files.now in
    record {
      some = asks.sharding.resolvers.least;
      few = omega (arith, asks.sharding.resolvers.most);
      readers = omega (
        arith,
        asks.least,
        c.args.line.now.files.ok.0,
        ap (λ (names : List (Bor (List ℕ))). length names) c.deref.ensures.value,
        files_of_names contents names,
        readers_of_files g.F.Reader.Source.remaining (contents_each contents (texts names)) c.in_ok-readers.readers
            c.in_ok-readers.ensures.contents,
      );
    }

pub read_points-requires : goal.read_points-requires
read_points-requires g c =
    let asks = c.requires.asked.1 in
    record { some = asks.sharding.resolvers.least; few = omega (arith, asks.sharding.resolvers.most) }
