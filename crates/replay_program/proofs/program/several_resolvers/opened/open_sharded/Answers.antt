use Rattle.std.proofs.Common.{◌∙◌, ◌≤◌, [], List, ℕ, Bor, ap, length, subst, sym}
use Rattle.std.specs.Prelude.{map, vec_items}
use Rattle.std.specs.List.{All}
use Rattle.std.proofs.lemmas.Result.{err_from_is_err_and}
use Rattle.limits.specs.declared.settings.TheConstants.{MAX_PROXIES}
use Rattle.replay_arguments.specs.Opening.{IsFirstRefused, contents_each}
use Rattle.replay_sharded.specs.Files.{ReadTheFiles}
use Rattle.replay_program.specs.Program.{texts}
use Rattle.replay_program.specs.ShardedProgram.{IsWhyNotSharded}
use Rattle.replay_program.proofs.ShardingFiles.{files_of_names, readers_each, some_shard}
use Rattle.replay_program.proofs.program.several_resolvers.opened.open_sharded.Goals as goal

pub returns-in-Some-clause-why : goal.returns-in-Some-clause-why
returns-in-Some-clause-why g c =
    let f = c.args.files.now in
    subst (λ (names : List (Bor (List ℕ))). IsFirstRefused (g.F.Files.is_regular f) (g.F.Files.is_irregular f) (texts names) c.in-Some.proxy)
    c.deref.ensures.value c.in-Some.ensures.first

pub returns-in_err-readers-clause-why : goal.returns-in_err-readers-clause-why
returns-in_err-readers-clause-why g c =
    let f = c.args.files.now in
    let p = err_from_is_err_and c.from_residual-in_err-readers.result c.from_residual-in_err-readers.ensures.1 in
    rw (p.1, p.2) (subst (λ (names : List (Bor (List ℕ))).
    IsWhyNotSharded (g.F.Files.is_regular f) (g.F.Files.is_irregular f) (g.F.Files.has_opened f) (g.F.Files.cannot_open f) (texts names)
    c.in_err-readers.field-0.0) c.deref-2.ensures.value c.in_err-readers.ensures.why)

pub invariant_of-result : goal.invariant_of-result
invariant_of-result g c =
    let asks = c.requires.asked.1 in
    let shards = c.shard_count-shard_count.ensures.count in
    let files = contents_each (g.F.Files.contents c.args.files.now) (texts c.deref-2.result.now) in
    let proxies = sym c.len-2.ensures in
    record {
      each_shard = c.in_ok-readers.ensures.count ∙ shards;
      each_gatekeeper = c.in_ok-gatekeepers.ensures.each ∙ shards;
      each_proxy =
          readers_each g.F.Reader.Source.remaining files c.len-2.result c.in_ok-readers.readers.items
          (files_of_names (g.F.Files.contents c.args.files.now) c.deref-2.result.now
          ∙ ap (λ (names : List (Bor (List ℕ))). length names) c.deref-2.ensures.value ∙ sym c.args.line.now.files.ok.0 ∙ proxies)
          c.in_ok-readers.ensures.files;
      least = subst (λ (n : ℕ). 1 ≤ n) proxies asks.least;
      most = subst (λ (n : ℕ). n ≤ MAX_PROXIES) proxies asks.most;
    }

pub returns-clause-files : goal.returns-clause-files
returns-clause-files g c =
    subst (λ (names : List (Bor (List ℕ))).
    All (ReadTheFiles g.F.Reader.Source.remaining (contents_each (g.F.Files.contents c.args.files.now) (texts names)))
    (map vec_items c.in_ok-readers.readers.items)) c.deref-2.ensures.value c.in_ok-readers.ensures.files

pub returns-clause-regular : goal.returns-clause-regular
returns-clause-regular g c =
    subst (λ (names : List (Bor (List ℕ))). All (g.F.Files.is_regular c.args.files.now) (texts names)) c.deref.ensures.value
    c.in_default.ensures.first

pub returns-clause-opened : goal.returns-clause-opened
returns-clause-opened g c =
    let some = subst (λ (n : ℕ). 1 ≤ n) (sym c.shard_count-shard_count.ensures.count) (some_shard [] c.in_ok-points.points) in
    subst (λ (names : List (Bor (List ℕ))). All (g.F.Files.has_opened c.args.files.now) (texts names)) c.deref-2.ensures.value
    (c.in_ok-readers.ensures.opened some)
