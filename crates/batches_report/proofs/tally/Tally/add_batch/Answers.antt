use Rattle.std.proofs.Common.{◌≡◌, ◌∷◌, ◌++◌, [], List, ℤ, Option, Some, None, map, sym, ap, subst, ◌∙◌, refl, w64, SFits, rules}
use Rattle.std.proofs.lemmas.Int.{to_z-of_z}
use Rattle.keyspace.specs.declared.batch.Batch.{Batch}
use Rattle.keyspace.specs.declared.reply.Reply.{Reply}
use Rattle.batches_report.specs.Answered.{AreLeft, reply_unless_seen}
use Rattle.batches_report.specs.declared.left.Left.{Left}
use Rattle.batches_report.proofs.Tallying.{tally_answered, tally_unanswered}
use Rattle.batches_report.proofs.tally.Tally.add_batch.Goals as goal

seen_as : (rs : List Reply) (seen : List ℤ) (k v : ℤ) (found : Option Reply) → k ≡ v → found ≡ reply_unless_seen rs seen k
    → found ≡ reply_unless_seen rs seen v
seen_as rs seen k v found same is = is ∙ ap (reply_unless_seen rs seen) same

left_as : (rs : List Reply) (seen : List ℤ) (k v : ℤ) (left : Left) → k ≡ v → AreLeft rs (seen ++ k ∷ []) left
    → AreLeft rs (seen ++ v ∷ []) left
left_as rs seen k v left same are = subst (λ (x : ℤ). AreLeft rs (seen ++ x ∷ []) left) same are

pub returns-in_default : goal.returns-in_default
returns-in_default c =
    let b = c.args.batch.now in
    let old = c.args.self.now in
    let fits : SFits w64 b.version = search rules in
    let same = to_z-of_z w64 b.version fits in record {
      added = λ rs bs tally.
          let seen : List ℤ = map (λ (x : Batch). x.version) bs in
          let none = sym c.in_default.is ∙ seen_as rs seen _ b.version _ same (c.take.ensures.reply rs seen tally.left) in
          let left = left_as rs seen _ b.version c.take.new.self same (c.take.ensures.left rs seen tally.left) in
          tally_unanswered rs bs b old (record { left = c.take.new.self; rows = old.rows; txns = old.txns }) tally none left refl refl;
    }

pub returns : goal.returns
returns c =
    let b = c.args.batch.now in
    let r = c.in-Some.reply in
    let old = c.args.self.now in
    let new = c.add_answered.new.self in
    let fits : SFits w64 b.version = search rules in
    let same = to_z-of_z w64 b.version fits in record {
      added = λ rs bs tally.
          let seen : List ℤ = map (λ (x : Batch). x.version) bs in
          let some = sym c.in-Some.is ∙ seen_as rs seen _ b.version _ same (c.take.ensures.reply rs seen tally.left) in
          let left = left_as rs seen _ b.version c.take.new.self same (c.take.ensures.left rs seen tally.left) in
          let left_is : AreLeft rs (seen ++ b.version ∷ []) new.left =
          subst (λ (l : Left). AreLeft rs (seen ++ b.version ∷ []) l) (sym c.in_ok-add_answered.ensures.left) left in
          tally_answered rs bs b r old new tally some left_is c.in_ok-add_answered.ensures.fits c.in_ok-add_answered.ensures.rows
          c.in_ok-add_answered.ensures.txns;
    }
