use Rattle.std.proofs.Common.{◌≡◌, ◌++◌, List, Some, sym, subst}
use Rattle.std.proofs.lemmas.Result.{on_ok_weaker}
use Rattle.wire.proofs.callers.Given.{appends_then}
use Rattle.keyspace.specs.declared.answer.Answer.{Answer}
use Rattle.keyspace.specs.declared.reply.Entry.{Entry}
use Rattle.replay_output.specs.Lines.{entries_json, outcome_json}
use Rattle.replay_output.proofs.line.json.print_outcome.Goals as goal

pub returns-in_ok-print_entries-in-Reply : goal.returns-in_ok-print_entries-in-Reply
returns-in_ok-print_entries-in-Reply c =
    let text = c.args.text.now in
    let begun = c.write_all.new.self in
    let reported = c.print_entries.new.text in
    let ended = c.write_all-in-Reply.new.self in
    let entries = subst (λ (es : List Entry). reported ≡ begun ++ entries_json es) c.as_slice.ensures.items
    c.in_ok-print_entries-in-Reply.ensures.text in
    record {
      text = on_ok_weaker c.write_all-in-Reply.result
          (λ end. subst (λ (a : Answer). ended ≡ text ++ outcome_json a) (sym c.in-Reply.is)
          (appends_then (Some text) (Some begun) (Some ended) _ _ c.in_ok-write_all-in-Reply.ensures.bytes
          (appends_then (Some begun) (Some reported) (Some ended) _ _ entries end)))
          c.write_all-in-Reply.ensures.bytes;
    }

pub returns-in-Held : goal.returns-in-Held
returns-in-Held c = record {
  text = on_ok_weaker c.write_all-in-Held.result
      (λ end. subst (λ (a : Answer). c.write_all-in-Held.new.self ≡ c.args.text.now ++ outcome_json a) (sym c.in-Held.is) end)
      c.write_all-in-Held.ensures.bytes;
}
