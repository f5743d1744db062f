-- What nodes know of their keys, once a header is put.
use Rattle.std.proofs.Common.{◌≡◌, ℕ, option_map, ap}
use Rattle.boundaries.proofs.Words.{Arena, with_header, Node, KeyBytes, AllAreHeads, AreHeads, key_heads_of, all_heads_of}
use Rattle.boundaries.proofs.Headed.{headed_put}
use Rattle.boundaries.proofs.Placing.{put_record_is, put_others}

-- A header is put whose knowledge is right.
pub headed_header : (bytes : KeyBytes) (old new : Arena Node) (slot : ℕ) (node : Node)
    → new ≡ with_header old slot node → AllAreHeads bytes (all_heads_of old) → AreHeads bytes (key_heads_of node)
    → AllAreHeads bytes (all_heads_of new)
headed_header bytes old new slot node e all headed =
    headed_put bytes old new slot node all (ap (option_map (λ r. r.header)) (put_record_is old new slot node e)) headed
    (put_others old new slot node e)
