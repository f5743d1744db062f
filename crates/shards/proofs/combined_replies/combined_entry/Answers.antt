use Rattle.std.proofs.Common.{ℕ, List, sym, subst}
use Rattle.std.specs.Prelude.{◌↔◌, Contains, Any}
use Rattle.std.specs.List.Sorted.{IsStrictlyIncreasing}
use Rattle.shards.specs.Combined.{IsLeast, Reports}
use Rattle.shards.proofs.Reports.{no_report}
use Rattle.shards.proofs.combined_replies.combined_entry.Goals as goal

pub new-requires : goal.new-requires
new-requires c = record {
  only_conflict = no_report c.args.each.now c.args.index c.least_verdict-verdict.result c.in_ok-places.places
      c.least_verdict-verdict.ensures.least c.in_ok-places.ensures.union;
}

pub returns : goal.returns
returns c =
    let each = c.args.each.now in
    let j = c.args.index in
    record {
      entry = record {
        verdict = subst (IsLeast each j) (sym c.new.ensures.verdict) c.least_verdict-verdict.ensures.least;
        rising = subst IsStrictlyIncreasing (sym c.new.ensures.places) c.in_ok-places.ensures.rising;
        union = λ read. subst (λ (places : List ℕ). Contains places read ↔ Any (Reports j read) each) (sym c.new.ensures.places)
            (c.in_ok-places.ensures.union read);
      };
    }
