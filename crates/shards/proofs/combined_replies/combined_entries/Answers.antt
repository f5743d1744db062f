use Rattle.std.proofs.Common.{◌≡◌, ◌∙◌, List, sym, ap, subst₂, inl, inr, arith}
use Rattle.std.specs.Prelude.{slice_get}
use Rattle.keyspace.specs.declared.reply.Entry.{Entry}
use Rattle.shards.specs.Combined.{IsCombinedEntry}
use Rattle.shards.proofs.Leasts.{last_or_before}
use Rattle.shards.proofs.combined_replies.combined_entries.Goals as goal

pub combined_entry-requires-clause-fit : goal.combined_entry-requires-clause-fit
combined_entry-requires-clause-fit c = c.requires.fit c.loop-index.index c.loop-index-test.true

pub loop-index-preserved : goal.loop-index-preserved
loop-index-preserved c =
    let each = c.args.each.now in
    let old = c.loop-index.entries.items in
    let new = c.in_ok-combined_entry.field-0 in
    record {
      count = omega (arith, c.in_ok-push.ensures.len, c.loop-index.invariant.count);
      entries = λ j e at.
          elim (last_or_before old new j e (ap (λ (es : List Entry). slice_get es j) (sym c.in_ok-push.ensures.items) ∙ at)) [
            | inl before ↦ c.loop-index.invariant.entries j e before
            | inr last ↦
                let here : c.loop-index.index ≡ j = omega (arith, last.0, c.loop-index.invariant.count, c.loop-index.entries.ok.0) in
                subst₂ (IsCombinedEntry each) here last.1 c.in_ok-combined_entry.ensures.entry
          ];
    }
