use Rattle.std.proofs.Common.{◌≡◌, ◌<◌, ◌∙◌, ◌++◌, ◌∷◌, ℕ, List, [], length, map, take, refl, sym, ap, subst, append_assoc, append-nil, length-append, rules, arith}
use Rattle.std.specs.Vec.Iter.{into_iter_items}
use Rattle.std.proofs.lemmas.List.{take-append-drop, map_push, length-map}
use Rattle.std.proofs.lemmas.Grind.{common_steps}
use Rattle.keyspace.specs.declared.reply.Reply.{Reply as ReplyValue}
use Rattle.shards.specs.declared.shard_reply.ShardReply.{ShardReply}
use Rattle.archcaraway_c.specs.ShardFrames.{AreRead}
use Rattle.archcaraway_c.proofs.Combining.{front_refused}
use Rattle.archcaraway_c.proofs.ReadFrames.{read_more}
use Rattle.archcaraway_c.proofs.combine_frames.read_replies.Goals as goal

pub loop-reads-init : goal.loop-reads-init
loop-reads-init c = record {
  replies = subst (λ (items : List ShardReply). AreRead c.args.bytes.now (map (λ s. s.reply) items) c.args.bytes.now)
      (sym c.new-each.ensures.items) refl;
  reads = ap (λ (items : List ShardReply). map (λ s. s.reads) items ++ into_iter_items c.into_iter-reads-iterator.result) c.new-each.ensures.items
      ∙ c.into_iter-reads-iterator.ensures.into_iter_gives.0;
}

pub returns-in-Err-clause-refused : goal.returns-in-Err-clause-refused
returns-in-Err-clause-refused c =
    let each = c.loop-reads.each in
    let long : length (map (λ (s : ShardReply). s.reply) each.items) ≡ c.len.result =
    length-map each.items (λ (s : ShardReply). s.reply) ∙ sym each.ok.0 ∙ sym c.len.ensures in
    let inside : c.len.result < c.args.all.len =
    omega (
      arith,
      each.ok.0,
      c.len.ensures,
      c.args.all.ok.0,
      ap length c.loop-reads.invariant.reads,
      length-append (map (λ (s : ShardReply). s.reads) each.items) (into_iter_items c.loop-reads.reads-iterator),
      length-map each.items (λ (s : ShardReply). s.reads),
      ap length c.in-Some.ensures.steps.0,
    ) in
    front_refused _ c.args.bytes.now c.loop-reads.rest.now (map (λ s. s.reply) each.items) c.len.result c.in-Err.refusal long inside
    c.loop-reads.invariant.replies c.in-Err.ensures.refused

pub loop-reads-preserved : goal.loop-reads-preserved
loop-reads-preserved c =
    let each = c.loop-reads.each.items in
    let rest = c.loop-reads.rest.now in
    let reply = c.in-Ok.found.0 in
    let count = c.in-Ok.found.1 in
    let reads = c.in-Some.reads in
    let pushed : ShardReply = record { reply = reply; reads = reads } in
    let later = c.split_at.result.1.now in
    let parts : rest ≡ take count rest ++ later =
    sym (take-append-drop count rest) ∙ ap (λ (back : List ℕ). take count rest ++ back) (sym c.split_at.ensures.back) in
    record {
      replies = subst (λ (replies : List ReplyValue). AreRead c.args.bytes.now replies later)
          (sym (ap (map (λ (s : ShardReply). s.reply)) c.in-Ok-push.ensures.items ∙ map_push (λ (s : ShardReply). s.reply) each pushed))
          (read_more c.args.bytes.now (map (λ s. s.reply) each) rest (take count rest) later reply
          c.loop-reads.invariant.replies parts c.in-Ok.ensures.spelled);
      reads = ap (λ (items : List ShardReply). map (λ s. s.reads) items ++ into_iter_items c.next.new.self) c.in-Ok-push.ensures.items
          ∙ ap (λ (items : List (List (List ℕ))). items ++ into_iter_items c.next.new.self) (map_push (λ (s : ShardReply). s.reads) each pushed)
          ∙ append_assoc (map (λ (s : ShardReply). s.reads) each) (reads ∷ []) (into_iter_items c.next.new.self)
          ∙ ap (λ (items : List (List (List ℕ))). map (λ (s : ShardReply). s.reads) each ++ items) (sym c.in-Some.ensures.steps.0)
          ∙ c.loop-reads.invariant.reads;
    }

-- all have been read
pub returns-then-not-is_empty-clause-refused : goal.returns-then-not-is_empty-clause-refused
returns-then-not-is_empty-clause-refused c =
    let each = c.loop-reads.each.items in
    let none : into_iter_items c.loop-reads.reads-iterator ≡ [] = first_of (search rules, grind (arith, common_steps)) in
    let some : 0 < length c.loop-reads.rest.now = first_of (search rules, grind (arith, common_steps)) in (
      map (λ (s : ShardReply). s.reply) each,
      c.loop-reads.rest.now,
      omega (
        arith,
        c.args.all.ok.0,
        ap length none,
        ap length c.loop-reads.invariant.reads,
        length-append (map (λ (s : ShardReply). s.reads) each) (into_iter_items c.loop-reads.reads-iterator),
        length-map each (λ (s : ShardReply). s.reads),
        length-map each (λ (s : ShardReply). s.reply),
      ),
      c.loop-reads.invariant.replies,
      some,
    )

empty_list : (xs : List ℕ) → length xs ≡ 0 → xs ≡ []
empty_list [] none = refl
empty_list (x ∷ xs) none = absurd (omega (arith, none))

pub returns-clause-replies : goal.returns-clause-replies
returns-clause-replies c =
    let none : length c.loop-reads.rest.now ≡ 0 = first_of (search rules, grind (arith, common_steps)) in
    subst (λ (rest : List ℕ). AreRead c.args.bytes.now (map (λ (s : ShardReply). s.reply) c.loop-reads.each.items) rest)
    (empty_list c.loop-reads.rest.now none) c.loop-reads.invariant.replies

pub returns-clause-reads : goal.returns-clause-reads
returns-clause-reads c =
    let read = map (λ (s : ShardReply). s.reads) c.loop-reads.each.items in
    let none : into_iter_items c.loop-reads.reads-iterator ≡ [] = first_of (search rules, grind (arith, common_steps)) in
    sym (append-nil read) ∙ ap (λ (rest : List (List (List ℕ))). read ++ rest) (sym none) ∙ c.loop-reads.invariant.reads
