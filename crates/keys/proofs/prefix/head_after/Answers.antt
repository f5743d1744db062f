use Rattle.std.proofs.Common.{◌≡◌, ◌+◌, ◌-◌, ◌*◌, ◌^◌, ◌%◌, ap, sym, ◌∙◌, arith, length, drop, drop-drop, drop_of_length-le, length-drop}
use Rattle.std.proofs.lemmas.List.{take_rest, get_or-drop}
use Rattle.keys.specs.Head.{head_of}
use Rattle.keys.proofs.ShiftedHead.{no_head, shifted}
use Rattle.keys.proofs.prefix.head_after.Goals as goal

pub returns-then-prefix_len-key-clause-key_head : goal.returns-then-prefix_len-key-clause-key_head
returns-then-prefix_len-key-clause-key_head c =
    no_head ∙ ap head_of (sym (drop_of_length-le c.args.key.now (omega (arith, c.if-prefix_len-key.true))))

pub returns-clause-key_head : goal.returns-clause-key_head
returns-clause-key_head c =
    let key = c.args.key.now in
    let from = length key - 8 in
    let n = 8 - (length key - c.args.prefix_len) in
    let at : from + n ≡ c.args.prefix_len = omega (arith, c.if-prefix_len-key.false, c.if-count-ge8.false, c.if-key-lt8.false) in
    ap (λ h. h * 2 ^ (8 * n) % 18446744073709551616) (c.key_head-2.ensures.key_head ∙ ap head_of (take_rest key from))
    ∙ shifted (drop from key) n (omega (arith, length-drop from key, c.if-key-lt8.false))
    (λ i. omega (arith, get_or-drop from key i 0, c.type_inv.key (from + i)))
    (omega (arith, c.if-count-ge8.false)) (omega (arith, c.if-prefix_len-key.false))
    ∙ ap head_of (drop-drop n from key ∙ ap (λ m. drop m key) at)
