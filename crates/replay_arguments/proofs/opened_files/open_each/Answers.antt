use Rattle.std.proofs.Common.{rules}
use Rattle.replay_arguments.proofs.Openings.{opened_more}
use Rattle.replay_arguments.proofs.opened_files.open_each.Goals as goal

pub loop-proxy-preserved : goal.loop-proxy-preserved
loop-proxy-preserved g c =
    let files = c.args.files.now in
    record {
      opened = opened_more g.F.Reader.Source.remaining (g.F.Files.contents files) (g.F.Files.has_opened files) c.args.names.now
          c.loop-proxy.readers.items c.push_reserved.new.self.items c.loop-proxy.proxy c.in-Ok.reader _ c.loop-proxy-test.true
          (search rules) c.in-Ok.ensures.contents c.in-Ok.ensures.opened c.loop-proxy.invariant.opened;
      capacity = search rules;
      count = search rules;
    }
