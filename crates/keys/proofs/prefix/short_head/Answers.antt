use Rattle.std.proofs.Common.{ap, ◌∙◌, ◌++◌, drop, replicate}
use Rattle.std.specs.Int.{w64, from_be_bytes}
use Rattle.keys.specs.Head.{head_of}
use Rattle.keys.proofs.callers.KeyHeads.{filled_up}
use Rattle.keys.proofs.prefix.short_head.Goals as goal

pub returns : goal.returns
unfolding head_of
returns c =
    let n = c.min-length.result in
    record {
      key_head = c.from_be_bytes.ensures ∙ ap (from_be_bytes w64)
          (ap (λ front. front ++ drop n (replicate 8 0)) c.copy_from_slice.ensures.after
          ∙ filled_up n c.args.bytes.now c.min-length.ensures);
    }
