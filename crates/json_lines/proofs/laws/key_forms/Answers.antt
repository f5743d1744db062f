use Rattle.std.proofs.Common.{◌≡◌, Some, sym, ap, ◌∙◌}
use Rattle.json_lines.specs.KeyForm.{spelled_key}
use Rattle.json_lines.proofs.ReadBack.{form_reads}
use Rattle.json_lines.proofs.Forms.{form_ascii}
use Rattle.json_lines.proofs.laws.key_forms.Goals as goal

pub returns : goal.returns
returns c = record {
  exact = record {
    spells = form_reads;
    one = λ a b a_bytes b_bytes same.
        let both : Some a ≡ Some b = sym (form_reads a a_bytes) ∙ ap spelled_key same ∙ form_reads b b_bytes in
        cc;
    ascii = form_ascii;
  };
}
