use Rattle.std.proofs.Common.{◌≡◌, ◌∙◌, ◌||◌, Bool, false, get_or, sym, ap}
use Rattle.std.specs.Prelude.{Option, None, Some, slice_get}
use Rattle.std.specs.Option.{option_or}
use Rattle.std.proofs.lemmas.Option.{slice_get-get_or}
use Rattle.wire.specs.declared.error.WireError.{WireError}
use Rattle.replay_output.specs.declared.failures.ProxyFailure.{ProxyFailure}
use Rattle.replay_shards.proofs.FirstOnes.{fault_next, loss_next}
use Rattle.replay_shards.proofs.failures.failure_together.Goals.{then-lost, else-lost}
use Rattle.replay_shards.proofs.failures.failure_together.Goals as goal

abbrev nothing : ProxyFailure
nothing = record { fault = None; lost = false }

pub loop-own-preserved : goal.loop-own-preserved
loop-own-preserved c =
    let each = c.args.each.now in
    let i = c.loop-own.own-index in
    let own : ProxyFailure = get_or each i nothing in
    let at : slice_get each i ≡ Some own = slice_get-get_or each i nothing c.loop-own-test.true in
    let before = c.loop-own.invariant in
    record {
      fault = c.or-fault.ensures ∙ ap (λ (o : Option WireError). option_or o own.fault) before.fault ∙ sym (fault_next each i own at);
      lost = elim c.if-lost.branch [
        | then-lost w ↦
            w.lost-is ∙ w.if-lost.true ∙ sym (loss_next each i own at ∙ ap (λ (b : Bool). b || own.lost) (sym before.lost ∙ w.if-lost.true))
        | else-lost w ↦
            w.lost-is ∙ sym (loss_next each i own at ∙ ap (λ (b : Bool). b || own.lost) (sym before.lost ∙ w.if-lost.false))
      ];
    }
