use Rattle.std.proofs.Common.{◌++◌}
use Rattle.std.proofs.lemmas.Result.{on_ok_weaker}
use Rattle.replay_summary.specs.Rate.{rate_member}
use Rattle.replay_summary.specs.Text.{other_members, verdict_members, version_member}
use Rattle.replay_summary.proofs.Appending.{append_then}
use Rattle.replay_summary.proofs.text.json.put_members.Goals as goal

pub returns : goal.returns
returns c =
    let s = c.args.summary.now in
    let before = c.args.out.now.items in
    record {
      text = on_ok_weaker c.put_versions.result
          (λ last. append_then before c.put_others.new.out.items c.put_versions.new.out.items (verdict_members s ++ rate_member s ++ other_members s) (version_member s.versions)
          (append_then before c.put_rate.new.out.items c.put_others.new.out.items (verdict_members s ++ rate_member s) (other_members s)
          (append_then before c.put_verdicts.new.out.items c.put_rate.new.out.items (verdict_members s) (rate_member s)
          c.in_ok-put_verdicts.ensures.text c.in_ok-put_rate.ensures.text)
          c.in_ok-put_others.ensures.text)
          last)
          c.put_versions.ensures.text;
    }
