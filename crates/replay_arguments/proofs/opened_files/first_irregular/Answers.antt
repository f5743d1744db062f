use Rattle.std.proofs.Common.{rules}
use Rattle.replay_arguments.proofs.Openings.{each_more}
use Rattle.replay_arguments.proofs.opened_files.first_irregular.Goals as goal

pub loop-proxy-preserved : goal.loop-proxy-preserved
loop-proxy-preserved g c =
    let files = c.args.files.now in
    each_more (g.F.Files.is_regular files) c.args.names.now c.loop-proxy.proxy _ c.loop-proxy-test.true
    (c.is_regular.ensures.regular (search rules)) c.loop-proxy.invariant
