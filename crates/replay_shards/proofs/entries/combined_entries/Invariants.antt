use Rattle.std.proofs.Common.{◌≡◌, ℕ, vec_len}
use Rattle.std.specs.Prelude.{Some, slice_get}
use Rattle.keyspace.specs.declared.reply.Entry.{Entry}
use Rattle.shards.specs.Combined.{IsCombinedEntry}
use Rattle.replay_shards.specs.Answers.{noted_each}
use Rattle.replay_shards.proofs.entries.combined_entries.Given as goal

abbrev pub invariant-loop-index : goal.invariant-loop-index
invariant-loop-index l = record {
  count : vec_len l.entries ≡ l.index;
  entries : (j : ℕ) (e : Entry) → slice_get l.entries.items j ≡ Some e → IsCombinedEntry (noted_each l.each) j e;
}
