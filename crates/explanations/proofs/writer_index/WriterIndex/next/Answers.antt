use Rattle.std.proofs.Common.{◌≡◌, ℕ, ◌<◌, ◌≤◌, List, length, get_or, sym, ap, subst, ◌∙◌, arith}
use Rattle.std.specs.declared.cmp.Ordering.TheVariants.{Less, Equal, Greater}
use Rattle.std.specs.List.Sorted.{IsNonDecreasingBy, IsPartitionPoint}
use Rattle.std.specs.Ordering.{ordering_index}
use Rattle.std.proofs.lemmas.List.{get_or_default}
use Rattle.explanations.specs.declared.writer_index.Writer.{Writer}
use Rattle.explanations.specs.Writers.{IsNextWriter, writer_cmp}
use Rattle.explanations.proofs.NextWriter.{found_itself, found_end, found_next, found_other}
use Rattle.explanations.proofs.writer_index.WriterIndex.next.Goals as goal

pub returns-in-Ok : goal.returns-in-Ok
returns-in-Ok c =
    let i = c.in-Ok.field-0 in
    let from : Writer = record { hash = c.args.hash; txn = c.args.from } in
    record {
      next = λ ts es is singles range of.
          found_itself ts es c.args.self.now is singles range c.args.hash c.args.from of i
          (subst (λ (ws : List Writer). i < length ws) c.deref.ensures.value c.in-Ok.ensures.bound)
          (subst (λ (ws : List Writer). (d : Writer) → writer_cmp (get_or ws i d) from ≡ Equal) c.deref.ensures.value c.in-Ok.ensures.position);
    }

-- what the search says of an index at which the writer isn't found
abbrev IsPosition : List Writer → Writer → ℕ → Type 0
IsPosition ws sought i =
    IsNonDecreasingBy (λ (w : Writer). ordering_index (writer_cmp w sought)) ws
    → IsPartitionPoint (λ w. writer_cmp w sought ≡ Less) (λ w. writer_cmp w sought ≡ Greater) ws i

pub returns-in_err-writer-in-Err : goal.returns-in_err-writer-in-Err
returns-in_err-writer-in-Err c =
    let items = c.args.self.now.writers.items in
    let i = c.in-Err.index in
    let from : Writer = record { hash = c.args.hash; txn = c.args.from } in
    let lookup = c.in_err-writer-in-Err.ensures.lookup in
    let long : length c.deref-in-Err.result.now ≡ length items = ap length c.deref-in-Err.ensures.value in
    let past : length items ≤ i = omega arith in
    let position = subst (λ (ws : List Writer). IsPosition ws from i) c.deref.ensures.value c.in-Err.ensures.position in
    record {
      next = λ ts es is singles range of.
          subst (IsNextWriter ts es range c.args.from) (sym c.from_residual.ensures)
          (found_end ts es c.args.self.now is singles range c.args.hash c.args.from of i position past);
    }

pub returns-then-writer-hash : goal.returns-then-writer-hash
returns-then-writer-hash c =
    let items = c.args.self.now.writers.items in
    let i = c.in-Err.index in
    let from : Writer = record { hash = c.args.hash; txn = c.args.from } in
    let w = c.in_ok-writer-in-Err.writer.now in
    let lookup = c.in_ok-writer-in-Err.ensures.lookup in
    let long : length c.deref-in-Err.result.now ≡ length items = ap length c.deref-in-Err.ensures.value in
    let within : i < length items = omega arith in
    let here : w ≡ get_or items i w = lookup.1 ∙ ap (λ (ws : List Writer). get_or ws i w) c.deref-in-Err.ensures.value in
    let position = subst (λ (ws : List Writer). IsPosition ws from i) c.deref.ensures.value c.in-Err.ensures.position in
    record {
      next = λ ts es is singles range of.
          found_next ts es c.args.self.now is singles range c.args.hash c.args.from of i position w within
          (λ d. get_or_default items i d w within ∙ sym here) c.if-writer-hash.true;
    }

pub returns-else-writer-hash : goal.returns-else-writer-hash
returns-else-writer-hash c =
    let items = c.args.self.now.writers.items in
    let i = c.in-Err.index in
    let from : Writer = record { hash = c.args.hash; txn = c.args.from } in
    let w = c.in_ok-writer-in-Err.writer.now in
    let lookup = c.in_ok-writer-in-Err.ensures.lookup in
    let long : length c.deref-in-Err.result.now ≡ length items = ap length c.deref-in-Err.ensures.value in
    let within : i < length items = omega arith in
    let here : w ≡ get_or items i w = lookup.1 ∙ ap (λ (ws : List Writer). get_or ws i w) c.deref-in-Err.ensures.value in
    let position = subst (λ (ws : List Writer). IsPosition ws from i) c.deref.ensures.value c.in-Err.ensures.position in
    record {
      next = λ ts es is singles range of.
          found_other ts es c.args.self.now is singles range c.args.hash c.args.from of i position w within
          (λ d. get_or_default items i d w within ∙ sym here) c.if-writer-hash.false;
    }
