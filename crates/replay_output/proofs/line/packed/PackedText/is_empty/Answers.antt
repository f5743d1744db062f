use Rattle.std.proofs.Common.{◌≡◌, ap, sym, ◌∙◌, length, arith}
use Rattle.std.specs.Prelude.{vec_len}
use Rattle.std.proofs.lemmas.Bool.{eq-eqb, eqb-true}
use Rattle.replay_output.specs.Packed.{text_of_units}
use Rattle.replay_output.proofs.Packing.{no_length, no_units}
use Rattle.replay_output.proofs.line.packed.PackedText.is_empty.Goals as goal

pub returns : goal.returns
returns c =
    let units = c.self.inside.units in
    record {
      empty = (
        λ on.
            let none : vec_len units ≡ 0 = eqb-true (vec_len units) 0 (sym c.is_empty.ensures ∙ on) in
            sym c.self.view_is ∙ ap text_of_units (no_length units.items (omega (arith, none, units.ok.0))),
        λ empty.
            let none : vec_len units ≡ 0 =
            omega (arith, ap length (no_units units.items (c.self.view_is ∙ empty)), units.ok.0) in
            c.is_empty.ensures ∙ eq-eqb (vec_len units) 0 none,
      );
    }
