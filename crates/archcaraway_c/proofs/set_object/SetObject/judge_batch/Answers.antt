use Rattle.std.proofs.Common.{rules, ◌≡◌, ◌++◌, List, None, length, take, FitsSigned, w64, sym, ap, subst, ◌∙◌}
use Rattle.std.proofs.lemmas.Int.{to_z-of_z}
use Rattle.keyspace.specs.declared.reply.Entry.{Entry}
use Rattle.keyspace.specs.Writes.{writes_of}
use Rattle.conflict.specs.ConflictSet.{SetState}
use Rattle.archcaraway_c.specs.Judging.{JudgesBatch, verdict_numbers}
use Rattle.archcaraway_c.specs.SetObject.{StopsAt}
use Rattle.archcaraway_c.proofs.WhenFull.{met_after, parts_after}
use Rattle.archcaraway_c.proofs.set_object.SetObject.judge_batch.Goals as goal

pub invariant_of-self : goal.invariant_of-self
invariant_of-self c =
    let batch = c.args.batch.now in
    let fits : FitsSigned w64 batch.version = search rules in
    let ws = c.self.invariant.remembers.0 in
    let before = c.self.invariant.remembers.1 in
    record {
      resolved = λ _. c.in-Ok.ensures.resolves.resolved ∙ sym (to_z-of_z w64 batch.version fits);
      continues = λ _. c.in-Ok.ensures.resolves.continues.1;
      remembers = (
        ws ++ writes_of batch c.in-Ok.reply,
        record {
          covers = c.in-Ok.ensures.resolves.map.covers ws before.covers;
          rooted = c.in-Ok.ensures.resolves.map.rooted ws before.rooted;
        },
      );
    }

pub returns-in-Ok-clause-judges : goal.returns-in-Ok-clause-judges
returns-in-Ok-clause-judges c =
    let batch = c.args.batch.now in
    let reply = c.in-Ok.reply in
    let ws = c.self.invariant.remembers.0 in
    let before = c.self.invariant.remembers.1 in
    let count : length reply.entries ≡ length batch.txns = (c.in-Ok.ensures.resolves.map.judged ws before.covers).count in
    let verdicts = c.put_verdicts.new.verdicts in
    let written : take (length reply.entries) verdicts ≡ verdict_numbers reply.entries =
    subst (λ (entries : List Entry). take (length entries) verdicts ≡ verdict_numbers entries) c.as_slice.ensures.items
    c.put_verdicts.ensures.written in
    subst (λ (set : SetState). JudgesBatch set (record c.resolve_when.new.self { stop = c.self.inside.stop }) batch
    (take (length batch.txns) verdicts)) c.self.view_is
    (record {
      reply = reply;
      answered = ap (λ n. take n verdicts) (sym count) ∙ written;
      judged = c.in-Ok.ensures.resolves.map.judged;
      continues = record {
        resolved = c.in-Ok.ensures.resolves.resolved;
        window = c.in-Ok.ensures.resolves.window;
        limit = c.in-Ok.ensures.resolves.map.limit;
        stop = ap (λ (set : SetState). set.stop) c.self.view_is ∙ c.requires.continues;
        covers = c.in-Ok.ensures.resolves.map.covers;
      };
    })

pub invariant_of-self-in-Err : goal.invariant_of-self-in-Err
invariant_of-self-in-Err c =
    let none : c.self.inside.stop ≡ None = ap (λ (set : SetState). set.stop) c.self.view_is ∙ c.requires.continues in
    let ws = c.self.invariant.remembers.0 in
    let before = c.self.invariant.remembers.1 in
    let stops = c.in-Err.ensures.stops in
    let fails = stops.map (c.self.invariant.continues none) in
    parts_after c.args.when_full c.in-Err.stop c.self.inside.set c.resolve_when.new.self _ c.self.inside.stop c.stop_for-self-inside.result
    c.self.invariant none c.stop_for-self-inside.ensures.stop stops.refused
    (ws, record { covers = fails.covers ws before.covers; rooted = fails.rooted ws before.rooted })

pub returns-in-Err-clause-stops : goal.returns-in-Err-clause-stops
returns-in-Err-clause-stops c =
    let stop = c.in-Err.stop in
    let w = c.args.when_full in
    let none : c.self.inside.stop ≡ None = ap (λ (set : SetState). set.stop) c.self.view_is ∙ c.requires.continues in
    let going = c.self.invariant.continues none in
    let reported = c.in-Err.ensures.stops in
    let fails = reported.map going in (
      stop,
      search rules,
      subst (λ (set : SetState). StopsAt w set (record c.resolve_when.new.self { stop = c.stop_for-self-inside.result }) c.args.batch.now stop)
          c.self.view_is
          (record {
            met_now = met_after w stop c.self.inside.set c.resolve_when.new.self c.self.inside.stop c.stop_for-self-inside.result none
                c.stop_for-self-inside.ensures.stop reported.refused;
            window = reported.window;
            limit = fails.limit;
            full = λ is ws reply before judged. (fails.full is ws reply before.covers before.rooted judged).over;
            no_room = λ is ws reply before judged. (fails.full is ws reply before.covers before.rooted judged).no_room;
            memory = λ is ws reply before judged. fails.memory is ws reply before.covers judged;
          }),
    )
