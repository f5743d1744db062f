-- The answers to a proxy, combined.
use Rattle.std.specs.Prelude.{◌≡◌, suc, ◌<◌, List, [], ◌∷◌, length, map, vec_items, Vec, All}
use Rattle.std.proofs.Common.{Global, refl, sym, ap, ◌∙◌, subst}
use Rattle.std.specs.List.{AllZip}
use Rattle.std.proofs.lemmas.List.Elements.{All-nil, All-cons, All-head, All-tail}
use Rattle.keyspace.specs.declared.answer.Answer.{Answer}
use Rattle.keyspace.specs.Answer.{version_of_answer}
use Rattle.keyspace.specs.storage.InOrder.{Rise}
use Rattle.replay_shards.specs.declared.note.Note.{Note}
use Rattle.replay_shards.specs.declared.answer_match.Matched.{Matched}
use Rattle.replay_shards.specs.Matching.{IsComplete, match_all, match_of}
use Rattle.replay_shards.specs.Merging.{AreMatched, AreMerged, IsOfMatch, Match}
use Rattle.replay_shards.proofs.Matches.{matched_all}
use Rattle.replay_shards.proofs.Completes.{complete_all}

-- in order, seen as lists
pub views : (each : List (Vec Answer Global)) → All (λ own. Rise version_of_answer own.items) each
    → All (λ own. Rise version_of_answer own) (map vec_items each)
views [] all = All-nil (λ own. Rise version_of_answer own)
views (own ∷ each) all =
    let P = λ (own : Vec Answer Global). Rise version_of_answer own.items in
    All-cons (λ own. Rise version_of_answer own) own.items (map vec_items each) (All-head P own each all)
    (views each (All-tail P own each all))

long : (each : List (Vec Answer Global)) → length (map vec_items each) ≡ length each
long [] = refl
long (own ∷ each) = ap suc (long each)

all_matched : (each : List (Vec Answer Global)) → 0 < length each → All (λ own. Rise version_of_answer own.items) each
    → AreMatched (map vec_items each) (match_all (map vec_items each))
all_matched each some rise =
    matched_all (map vec_items each) (subst (λ n. 0 < n) (sym (long each)) some) (views each rise)

pub complete_for : (each : List (Vec Answer Global)) (notes : List (Vec Note Global)) (matched : List Matched)
    → map match_of matched ≡ match_all (map vec_items each) → length each ≡ length notes
    → All (IsComplete (length notes)) (map match_of matched)
complete_for each notes matched is as_many =
    subst (λ (l : List Match). All (IsComplete (length notes)) l) (sym is)
    (subst (λ n. All (IsComplete n) (match_all (map vec_items each))) (long each ∙ as_many) (complete_all (map vec_items each)))

pub merged : (each : List (Vec Answer Global)) (notes : List (List Note)) (matched : List Matched) (together : List Answer)
    → 0 < length each → All (λ own. Rise version_of_answer own.items) each
    → map match_of matched ≡ match_all (map vec_items each) → AllZip (IsOfMatch notes) (map match_of matched) together
    → AreMerged (map vec_items each) notes together
merged each notes matched together some rise is all =
    (map match_of matched, subst (λ (l : List Match). AreMatched (map vec_items each) l) (sym is) (all_matched each some rise), all)
