use Rattle.std.proofs.Common.{[], append-nil, refl, sym, ◌∙◌, take_all, arith}
use Rattle.std.proofs.lemmas.List.{drop_all}
use Rattle.boundaries.proofs.Words.{entries_of}
use Rattle.arena.specs.Arena.{with_header}
use Rattle.boundaries.proofs.Frames.{entries_same, live_same}
use Rattle.boundaries.proofs.Changing.{changes_if_moves, moves_trans, moves_released}
use Rattle.boundaries.proofs.Placing.{entries_from_header, put_entries, put_live, put_others, put_moves, moves_first, moves_second, released_spare}
use Rattle.boundaries.proofs.Headed.{headed_at, headed_released}
use Rattle.boundaries.proofs.KnownKeys.{headed_header}
use Rattle.boundaries.proofs.store.Store.merge.Goals as goal

pub release-requires : goal.release-requires
release-requires c =
    let b = with_header a c.args.first merged in
    let kept = put_others a b c.args.first merged refl c.args.second (λ same. two.apart (sym same)) in
    record { live = live_same a b c.args.second kept two.live_second }
  where
    open c use {args.{self.{now.{nodes as a}}}, insert.{new.{self as merged}}, requires.{two}}

pub insert-requires : goal.insert-requires
insert-requires c =
    let a = c.args.self.now.nodes in
    let two = c.requires.two in
    let first_was = entries_from_header a c.args.first _ c.header_mut-left.ensures.header in
    let second_was = entries_from_header a c.args.second _ c.header-right.ensures.header in
    let first = headed_at _ a c.args.first _ two.sound.headed c.header_mut-left.ensures.header in
    let second = headed_at _ a c.args.second _ two.sound.headed c.header-right.ensures.header in
    let room = rw (first_was, second_was) at c.requires.room in
    record {
      within = omega (arith, c.len.ensures.len);
      room = room;
      headed = (first, second);
    }

pub returns : goal.returns
returns c =
    let b = with_header a c.args.first merged in
    let first_was = entries_from_header a x _ c.header_mut-left.ensures.header in
    let second_was = entries_from_header a y _ c.header-right.ensures.header in
    let first_is = put_entries a b x merged refl in
    let kept = entries_same b d x (release.others x two.apart) in
    let all = take_all c.len.result (entries_of c.header_mut-left.result.now) (omega (arith, c.len.ensures.len)) in
    let none = drop_all c.len.result (entries_of c.header_mut-left.result.now) (omega (arith, c.len.ensures.len)) in
    let nil = append-nil (entries_of c.header-right.result) in
    let put = put_moves a b x merged refl two.live_first two.sound.keyless in
    let live_y = live_same a b y (put_others a b x merged refl y (λ same. two.apart (sym same))) two.live_second in
    let expired = moves_released b d y put.keyless live_y release.released release.others
    (released_spare b d y live_y put.keyless release.spare) in
    let headed = headed_header _ a b x merged refl two.sound.headed c.insert.ensures.headed in
    record {
      entries = kept ∙ first_is ∙ rw (all, none, nil, ← first_was, ← second_was) at c.insert.ensures.entries;
      changes = changes_if_moves a d _ _ (moves_trans a b d _ _ _ (moves_first a b x y two.apart two.live_second put)
          (moves_second b d x y [] two.apart (put_live a b x merged refl) expired));
      keeps = record { keys = refl; removed = refl };
      headed = headed_released _ b d y headed release.released release.others;
    }
  where
    open c use {args.{self.{now.{nodes as a}}, first as x, second as y}, insert.{new.{self as merged}}}
    open c use {release.{new.{self as d}, ensures as release}, requires.{two}}
