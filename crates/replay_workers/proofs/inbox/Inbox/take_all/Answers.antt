use Rattle.std.proofs.Common.{ap, ◌∙◌}
use Rattle.replay_workers.specs.declared.ends.Ends.{Ends}
use Rattle.replay_workers.proofs.Keeping.{item_kept}
use Rattle.replay_workers.proofs.inbox.Inbox.take_all.Goals as goal

pub loop-preserved : goal.loop-preserved
loop-preserved g c =
    let nothing = c.take.ensures.nothing_sent in
    record {
      goes = item_kept c.args.self.now c.loop.self (record c.keep.new.self { place = c.saturating_add-self.result })
          c.take.new.self c.in-Item.answer c.loop.invariant.goes c.take.ensures.ends c.in-Item.ensures.taken c.keep.ensures.ends
          c.keep.ensures.proxy c.keep.ensures.style c.keep.ensures.loss_stays c.keep.ensures.lost c.keep.ensures.kept;
      nothing = record {
        requests = ap (λ (e : Ends). e.requests) c.keep.ensures.ends ∙ nothing.requests ∙ c.loop.invariant.nothing.requests;
        most = ap (λ (e : Ends). e.most) c.keep.ensures.ends ∙ nothing.most ∙ c.loop.invariant.nothing.most;
      };
    }
