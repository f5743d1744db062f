use Rattle.std.proofs.Common.{◌++◌, codes, ap}
use Rattle.explanations.specs.Written.{Written}
use Rattle.replay_explanations.specs.Json.{range_json, source_json}
use Rattle.replay_explanations.proofs.Appends.{as_piece, joined}
use Rattle.replay_explanations.proofs.json.put_write.Goals as goal

pub returns : goal.returns
returns c =
    let write = c.args.write.now in
    let begin = codes ",\"write\":{\"range\":" in
    let form = range_json write.range in
    let source = source_json write in
    let range = as_piece _ _ _ form c.in_ok-put_range_json.ensures.text (ap (λ (w : Written). range_json w.range) c.write.view_is) in
    let both = joined _ _ _ begin form c.in_ok-extend_from_slice.ensures.items range in
    let all = joined _ _ _ (begin ++ form) source both c.in_ok-put_source.ensures.text in
    record { text = joined _ _ _ (begin ++ form ++ source) (codes "}") all c.in_ok-push.ensures.items }
