use Rattle.std.proofs.Common.{◌≡◌, ℤ, ◌++◌, codes, decimal, subst, w64, to_z, of_z, rules}
use Rattle.std.specs.Fmt.{signed_decimal}
use Rattle.std.proofs.lemmas.Int.{to_z-of_z}
use Rattle.std.proofs.lemmas.Result.{on_ok_weaker}
use Rattle.replay_diagnosis.proofs.Appending.{append_three}
use Rattle.replay_diagnosis.proofs.run_remedy.put_arena_full.Goals as goal

pub returns : goal.returns
returns c =
    let before = c.args.out.now.items in
    let version = c.args.version in
    let same : to_z w64 (of_z w64 version) ≡ version = to_z-of_z w64 version (search rules) in
    let first = subst (λ (v : ℤ). c.put_version.new.out.items ≡ before ++ (codes "version " ++ signed_decimal v)) same
    c.in_ok-put_version.ensures.text in
    record {
      text = on_ok_weaker c.put_limit.result
          (λ last. append_three before c.put_version.new.out.items c.put_limit.new.out.items (codes "version ")
          (signed_decimal version) (codes " was reached with a limit of ") (decimal c.args.limit)
          (codes " boundaries: raise `--limit`, or use a smaller `--window`") first last)
          c.put_limit.ensures.text;
    }
