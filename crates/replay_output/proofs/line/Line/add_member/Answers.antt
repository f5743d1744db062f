use Rattle.std.proofs.Common.{◌≡◌, ◌≢◌, ◌++◌, ◌==◌, ℕ, List, [], codes, length, rules, sym, ap, ◌∙◌}
use Rattle.std.proofs.lemmas.Bool.{false≢true}
use Rattle.std.proofs.lemmas.Result.{on_ok_weaker}
use Rattle.replay_output.proofs.Members.{member_added}
use Rattle.replay_output.proofs.line.Line.add_member.Goals as goal

pub returns-clause-text : goal.returns-clause-text
returns-clause-text c =
    let text = c.args.self.now.text in
    let member = c.args.member.now in
    let kept = c.remove_end.new.self in
    let shown : text ≢ [] = λ none. false≢true (sym c.if-is_empty-2.false ∙ c.is_empty-else-is_empty.ensures.empty.1 none) in
    let some : member ≢ [] =
    λ none. false≢true (sym c.if-is_empty.false ∙ c.is_empty.ensures ∙ ap (λ (xs : List ℕ). length xs == 0) none) in
    let split : text ≡ kept ++ codes "}\n" = search rules in
    let comma : c.write_all.new.self ≡ kept ++ codes "," = c.in_ok-write_all.ensures.bytes in
    let more : c.write_all-2.new.self ≡ kept ++ codes "," ++ member =
    c.in_ok-write_all-2.ensures.bytes ∙ ap (λ (xs : List ℕ). xs ++ member) comma in
    on_ok_weaker c.write_all-3.result
    (λ end. member_added text member kept c.write_all-3.new.self shown some split
    (end ∙ ap (λ (xs : List ℕ). xs ++ codes "}\n") more))
    c.write_all-3.ensures.bytes
