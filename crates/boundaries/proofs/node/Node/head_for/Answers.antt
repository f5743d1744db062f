use Rattle.std.proofs.Common.{◌≡◌, ◌≢◌, ◌⊎◌, ◌∙◌, inl, inr, sym, get_or, get_or-take, length-take, arith}
use Rattle.std.proofs.lemmas.Bool.{leb-true}
use Rattle.boundaries.proofs.Words.{key_at}
use Rattle.boundaries.specs.Heads.{HasPrefix}
use Rattle.boundaries.specs.Node.{entries_of, key_heads_of}
use Rattle.boundaries.proofs.HeadAt.{entry_at, key_there, agrees_at}
use Rattle.boundaries.proofs.node.Node.head_for.Goals.{then-self-eq0+then-self-gt0, else-self-eq0, else-self-eq0-via-then-self-eq0+else-self-gt0, else-self-eq0-via-else-self-eq0}
use Rattle.boundaries.proofs.node.Node.head_for.Goals as goal

pub returns : goal.returns
returns c =
    let node = c.args.self.now in
    let has_prefix : HasPrefix (key_at c.args.keys.now) (key_heads_of node) (c.args.bound.key.now) =
    elim c.if-self-eq0.branch [
      | then-self-eq0+then-self-gt0 w ↦
          w.has_prefix_of-has_prefix.ensures.has_prefix (sym w.has_prefix-is ∙ c.if-not-has_prefix.false)
      | else-self-eq0 w ↦
          let first = entry_at (entries_of node) 0 c.requires.common_prefix_len.0 in
          let enough = leb-true w.prefix_len.result c.args.common_prefix_len (sym w.has_prefix-is ∙ c.if-not-has_prefix.false) in
          let own = get_or-take node.len node.heads 0 0 (omega (arith, c.requires.common_prefix_len.0, length-take node.len node.entries)) in
          let filled : (node.prefix_len ≡ 0) ⊎ (get_or (key_heads_of node).heads 0 0 ≢ 0) =
          elim w.else-self-eq0.branch [
            | else-self-eq0-via-then-self-eq0+else-self-gt0 v ↦ inl (omega (arith, v.if-self-gt0.false))
            | else-self-eq0-via-else-self-eq0 v ↦ inr (λ zero. v.if-self-eq0.false (sym own ∙ zero))
          ] in
          agrees_at _ _ c.requires.headed 0 first.0.key _ (key_there (entries_of node) 0 first.0 first.1) filled
          (λ text known long. c.requires.common_prefix_len.1 first.0 text first.1 known node.prefix_len long
          (omega (arith, enough, w.prefix_len.ensures.prefix_len)))
    ] in
    let head_is = rw c.prefix_len-2.ensures.prefix_len at c.head.ensures.head in
    record {
      head = record {
        head = record { has_prefix = has_prefix; head_is = head_is; are_bytes = c.head.ensures.are_bytes };
        none = λ none. absurd cc;
      };
    }
