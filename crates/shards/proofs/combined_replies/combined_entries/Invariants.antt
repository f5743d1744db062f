use Rattle.std.proofs.Common.{◌≡◌, ℕ, vec_len}
use Rattle.std.specs.Prelude.{Some, slice_get}
use Rattle.keyspace.specs.declared.reply.Entry.{Entry}
use Rattle.shards.specs.Combined.{IsCombinedEntry}
use Rattle.shards.proofs.combined_replies.combined_entries.Given as goal

abbrev pub invariant-loop-index : goal.invariant-loop-index
invariant-loop-index l = record {
  count : vec_len l.entries ≡ l.index;
  entries : (j : ℕ) (e : Entry) → slice_get l.entries.items j ≡ Some e → IsCombinedEntry l.each j e;
}
