-- The verdict of all shards is given by their replies: if one combination says that a transaction was committed, so does any other.
use Rattle.std.specs.Prelude.{◌≡◌, ◌≤◌, ℕ, List, Option, None, Some, slice_get, IsSomeAnd}
use Rattle.std.specs.List.{AllZip}
use Rattle.std.proofs.Common.{sym, subst}
use Rattle.keyspace.specs.declared.reply.Entry.{Entry}
use Rattle.keyspace.specs.declared.reply.Reply.{Reply}
use Rattle.keyspace.specs.declared.reply.Verdict.{Verdict}
use Rattle.keyspace.specs.declared.reply.Verdict.TheVariants.{Committed}
use Rattle.shards.specs.declared.shard_reply.ShardReply.{ShardReply}
use Rattle.shards.specs.Combined.{rank, IsLeast, OfEntry}
use Rattle.shards.proofs.Leasts.{greatest}
use Rattle.replay_sharded.proofs.CommittedLists.{from_any, of_all_in, partner_before}

abbrev pub HasSameReply : ShardReply → ShardReply → Type 0
HasSameReply one other = one.reply ≡ other.reply

both_of : (o : Option Entry) (P Q : Entry → Type 0) → IsSomeAnd o P → IsSomeAnd o Q → (e : Entry) × P e × Q e
both_of None P Q first second = absurd first
both_of (Some e) P Q first second = (e, first, second)

pub committed_by : (each others : List ShardReply) (j : ℕ) (one other : Verdict) → AllZip HasSameReply each others
    → IsLeast each j one → one ≡ Committed → IsLeast others j other → other ≡ Committed
committed_by each others j one other zip least is least_other =
    let Given : Entry → Type 0 = λ e. e.verdict ≡ other in
    let Above : Entry → Type 0 = λ e. rank one ≤ rank e.verdict in
    let given = from_any (OfEntry j Given) others least_other.given in
    let s = partner_before HasSameReply each others zip given.0 given.1 in
    let here = subst (λ (r : Reply). IsSomeAnd (slice_get r.entries j) Given) (sym s.2) given.2 in
    let both = both_of (slice_get s.0.reply.entries j) Given Above here (of_all_in (OfEntry j Above) each s.0 least.least s.1) in
    greatest other
    (subst (λ (v : Verdict). rank v ≤ rank other) is (subst (λ (v : Verdict). rank one ≤ rank v) both.1 both.2))
