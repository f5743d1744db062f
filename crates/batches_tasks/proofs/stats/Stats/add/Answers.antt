use Rattle.std.proofs.Common.{◌≡◌, ◌+◌, ℕ, List, ◌∷◌, [], ◌++◌, length, map, ℤ, FitsSigned, w64, ap, sym, ◌∙◌, rules}
use Rattle.std.proofs.lemmas.Int.{to_z-of_z}
use Rattle.std.specs.List.{flat_map}
use Rattle.keys.specs.declared.range.Range.{Range}
use Rattle.keyspace.specs.declared.batch.Batch.{Batch}
use Rattle.batches_tasks.specs.declared.stats.Stats.{Stats}
use Rattle.batches_tasks.specs.Stats.{keys_in, keys_of_range, spread_of, versions_of}
use Rattle.batches_tasks.proofs.Adding.{on_some_weaker, stats_last}
use Rattle.batches_tasks.proofs.stats.Stats.add.Goals as goal

pub returns : goal.returns
returns c =
    let old = c.args.self.now in
    let batch = c.args.batch.now in
    let fits : FitsSigned w64 batch.version = search rules in
    let sum : c.in_ok-self.field-0 ≡ old.bytes + c.args.length = search rules in
    record {
      added = on_some_weaker c.add_keys.result (λ more bytes before from.
          stats_last bytes before c.args.length batch _
          (sum ∙ ap (λ (s : Stats). s.bytes + c.args.length) from)
          (c.with_version-self.ensures.versions (map (λ (b : Batch). b.version) before) (ap (λ (s : Stats). s.versions) from)
          ∙ ap (λ (v : ℤ). versions_of (map (λ (b : Batch). b.version) before ++ v ∷ [])) (to_z-of_z w64 batch.version fits))
          (c.in_ok-add.ensures.added (map (λ (b : Batch). length b.txns) before) (ap (λ (s : Stats). s.txns) from)
          ∙ ap (λ n. spread_of (map (λ (b : Batch). length b.txns) before ++ n ∷ [])) c.len.ensures.count)
          (c.in_ok-add_each.ensures.added (flat_map (λ (b : Batch). b.txns) before) (ap (λ (s : Stats). s.of_txns) from))
          (more (map length (flat_map keys_in before)) (ap (λ (s : Stats). s.keys) from)
          ∙ ap (λ (rs : List Range). spread_of (map length (flat_map keys_in before) ++ map length (flat_map keys_of_range rs)))
          c.ranges-2.ensures.ranges))
          c.add_keys.ensures.added;
    }
