use Rattle.std.proofs.Common.{rules}
use Rattle.replay_arguments.proofs.Openings.{opened_more}
use Rattle.replay_arguments.proofs.opened_files.create_each.Goals as goal

pub loop-proxy-preserved : goal.loop-proxy-preserved
loop-proxy-preserved g c =
    let files = c.args.files.now in
    record {
      opened = opened_more g.F.Writer.Sink.given (g.F.Files.begun files) (g.F.Files.has_created files) c.args.names.now
          c.loop-proxy.writers.items c.push_reserved.new.self.items c.loop-proxy.proxy c.in-Ok.writer _ c.loop-proxy-test.true
          (search rules) c.in-Ok.ensures.begun c.in-Ok.ensures.created c.loop-proxy.invariant.opened;
      capacity = search rules;
      count = search rules;
    }
