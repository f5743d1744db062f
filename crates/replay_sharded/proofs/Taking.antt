-- The runs of the shards, while the answers to one proxy after the other are taken.
use Rattle.std.specs.Prelude.{◌≡◌, ◌≤◌, ◌<◌, ◌+◌, ℕ, zero, suc, List, [], ◌∷◌, ◌++◌, length, take, drop, vec_len, true, IfSome, Some, slice_get, slice_set}
use Rattle.std.specs.List.{All, AllZip}
use Rattle.std.proofs.Common.{refl, sym, ap, subst, ◌∙◌, arith, inl, inr}
use Rattle.std.proofs.lemmas.Grind.{take-set_at}
use Rattle.std.proofs.lemmas.List.{drop-drop, drop-set-lt}
use Rattle.std.proofs.lemmas.Option.{slice_get_within}
use Rattle.std.proofs.lemmas.List.Elements.{All-head, All-tail, All-nil, All-cons}
use Rattle.keys.proofs.callers.Lists.{some_at}
use Rattle.shards.proofs.callers.Combining.{last_or_before, take_next}
use Rattle.replay_workers.proofs.callers.Lists.{AllZip-also}
use Rattle.replay_shards.specs.declared.answered.Answered.{Answered}
use Rattle.replay_shards.specs.Answered.{AreAnswersTogether}
use Rattle.replay_shards.specs.Failures.{IsFailureTogether}
use Rattle.replay_output.specs.declared.failures.ProxyFailure.{ProxyFailure}
use Rattle.replay_output.specs.declared.line.Line.{Line}
use Rattle.replay_output.specs.declared.options.style.Style.{Style}
use Rattle.replay_output.specs.Line.{AreLines, IsLineOf, answers_of}
use Rattle.replay_sharded.specs.declared.shard_run.ShardRun.{ShardRun}
use Rattle.replay_sharded.specs.Combined.{AreFailuresOf, AreOfProxy, AreTogether, HasProxies, TakesOf}

module _ {X : Type 0} where
  head_at : (xs : List X) (place : ℕ) → slice_get (drop place xs) 0 ≡ slice_get xs place
  head_at [] zero = refl
  head_at [] (suc place) = refl
  head_at (x ∷ xs) zero = refl
  head_at (x ∷ xs) (suc place) = head_at xs place

  -- lists that are equal from a place on have the same item there
  pub same_at : (xs ys : List X) (place : ℕ) → drop place xs ≡ drop place ys → slice_get xs place ≡ slice_get ys place
  same_at xs ys place same = sym (head_at xs place) ∙ ap (λ (l : List X). slice_get l 0) same ∙ head_at ys place

  -- the item at the place was changed, and those after it are as they were
  pub rest_next : (xs ys : List X) (place : ℕ) (y : X) → drop place ys ≡ drop place xs
      → drop (place + 1) (slice_set ys place y) ≡ drop (place + 1) xs
  rest_next xs ys place y same =
      drop-set-lt (place + 1) ys place y (omega arith)
      ∙ (sym (drop-drop 1 place ys) ∙ ap (λ (l : List X). drop 1 l) same ∙ drop-drop 1 place xs)

  pub zip_next : (R : X → X → Type 0) (xs ys : List X) (place : ℕ) (x y : X) → AllZip R (take place xs) (take place ys)
      → place < length ys → slice_get xs place ≡ Some x → R x y
      → AllZip R (take (place + 1) xs) (take (place + 1) (slice_set ys place y))
  zip_next R xs ys place x y before within at it =
      subst (λ (front : List X). AllZip R front (take (place + 1) (slice_set ys place y))) (sym (take_next xs place x at))
      (subst (λ (l : List X). AllZip R (take place xs ++ x ∷ []) l) (sym (take-set_at ys place (place + 1) y refl within))
      (AllZip-also R (take place xs) (take place ys) x y before it))

  pub zip_same : (R : X → X → Type 0) → ((x : X) → R x x) → (xs : List X) → AllZip R xs xs
  zip_same R same [] = tt
  zip_same R same (x ∷ xs) = (same x, zip_same R same xs)

  pub zip_then : (P Q R : X → X → Type 0) → ((x y z : X) → P x y → Q y z → R x z) → (xs ys zs : List X) → AllZip P xs ys
      → AllZip Q ys zs → AllZip R xs zs
  zip_then P Q R next [] [] [] first then = tt
  zip_then P Q R next [] [] (z ∷ zs) first then = absurd then
  zip_then P Q R next [] (y ∷ ys) zs first then = absurd first
  zip_then P Q R next (x ∷ xs) [] zs first then = absurd first
  zip_then P Q R next (x ∷ xs) (y ∷ ys) [] first then = absurd then
  zip_then P Q R next (x ∷ xs) (y ∷ ys) (z ∷ zs) first then =
      (next x y z first.0 then.0, zip_then P Q R next xs ys zs first.1 then.1)

module _ {X Y : Type 0} (R : X → Y → Type 0) where
  -- what holds of all of the first list holds of all of the second
  pub zip_all : (A : X → Type 0) (B : Y → Type 0) → ((x : X) (y : Y) → R x y → A x → B y) → (xs : List X) (ys : List Y)
      → AllZip R xs ys → All A xs → All B ys
  zip_all A B one [] [] zip all = All-nil B
  zip_all A B one [] (y ∷ ys) zip all = absurd zip
  zip_all A B one (x ∷ xs) [] zip all = absurd zip
  zip_all A B one (x ∷ xs) (y ∷ ys) zip all =
      All-cons B y ys (one x y zip.0 (All-head A x xs all)) (zip_all A B one xs ys zip.1 (All-tail A x xs all))

  -- and back
  pub zip_all_back : (A : X → Type 0) (B : Y → Type 0) → ((x : X) (y : Y) → R x y → B y → A x) → (xs : List X) (ys : List Y)
      → AllZip R xs ys → All B ys → All A xs
  zip_all_back A B one [] [] zip all = All-nil A
  zip_all_back A B one [] (y ∷ ys) zip all = absurd zip
  zip_all_back A B one (x ∷ xs) [] zip all = absurd zip
  zip_all_back A B one (x ∷ xs) (y ∷ ys) zip all =
      All-cons A x xs (one x y zip.0 (All-head B y ys all)) (zip_all_back A B one xs ys zip.1 (All-tail B y ys all))

  pub zip_length : (xs : List X) (ys : List Y) → AllZip R xs ys → length ys ≡ length xs
  zip_length [] [] zip = refl
  zip_length [] (y ∷ ys) zip = absurd zip
  zip_length (x ∷ xs) [] zip = absurd zip
  zip_length (x ∷ xs) (y ∷ ys) zip = ap suc (zip_length xs ys zip.1)

  -- a relation that takes over what holds beside the first list
  pub zip_over : {Z : Type 0} (P : Y → Z → Type 0) (Q : X → Z → Type 0) → ((x : X) (y : Y) (z : Z) → R x y → P y z → Q x z)
      → (xs : List X) (ys : List Y) (zs : List Z) → AllZip R xs ys → AllZip P ys zs → AllZip Q xs zs
  zip_over P Q over [] [] [] first then = tt
  zip_over P Q over [] [] (z ∷ zs) first then = absurd then
  zip_over P Q over [] (y ∷ ys) zs first then = absurd first
  zip_over P Q over (x ∷ xs) [] zs first then = absurd first
  zip_over P Q over (x ∷ xs) (y ∷ ys) [] first then = absurd then
  zip_over P Q over (x ∷ xs) (y ∷ ys) (z ∷ zs) first then =
      (over x y z first.0 then.0, zip_over P Q over xs ys zs first.1 then.1)

-- nothing was taken
pub takes_none : (proxy : ℕ) (run : ShardRun) → TakesOf proxy run run
takes_none proxy run = record { others = λ other apart. refl; count = refl; failures = refl; complete = refl; stop = refl }

-- The answers to the proxies before this one may be taken. All else is as it was.
pub record IsFrom (proxy : ℕ) (old new : ShardRun) : Type 0 where
  pub from : (other : ℕ) → proxy ≤ other → slice_get new.answered.items other ≡ slice_get old.answered.items other
  pub count : vec_len new.answered ≡ vec_len old.answered
  pub failures : new.failures ≡ old.failures
  pub complete : new.complete ≡ old.complete
  pub stop : new.stop ≡ old.stop

pub from_start : (run : ShardRun) → IsFrom 0 run run
from_start run = record { from = λ other least. refl; count = refl; failures = refl; complete = refl; stop = refl }

pub from_next : (proxy : ℕ) (old now new : ShardRun) → IsFrom proxy old now → TakesOf proxy now new → IsFrom (proxy + 1) old new
from_next proxy old now new before takes = record {
  from = λ other least.
      takes.others other (λ same. absurd (omega (arith, least, same))) ∙ before.from other (omega (arith, least));
  count = takes.count ∙ before.count;
  failures = takes.failures ∙ before.failures;
  complete = takes.complete ∙ before.complete;
  stop = takes.stop ∙ before.stop;
}

-- what is still there is of the runs as they were
pub of_proxy_before : (proxy : ℕ) (old now : List ShardRun) (each : List Answered) → AllZip (IsFrom proxy) old now
    → AreOfProxy proxy now each → AreOfProxy proxy old each
of_proxy_before proxy old now each from of =
    zip_over (IsFrom proxy) (λ (run : ShardRun) (own : Answered). slice_get run.answered.items proxy ≡ Some own)
    (λ (run : ShardRun) (own : Answered). slice_get run.answered.items proxy ≡ Some own)
    (λ x y own is at. sym (is.from proxy (omega arith)) ∙ at) old now each from of

pub failures_before : (proxy : ℕ) (old now : List ShardRun) (each : List ProxyFailure) → AllZip (IsFrom proxy) old now
    → AreFailuresOf proxy now each → AreFailuresOf proxy old each
failures_before proxy old now each from of =
    zip_over (IsFrom proxy) (λ (run : ShardRun) (own : ProxyFailure). slice_get run.failures.items proxy ≡ Some own)
    (λ (run : ShardRun) (own : ProxyFailure). slice_get run.failures.items proxy ≡ Some own)
    (λ x y own is at. ap (λ f. slice_get f.items proxy) (sym is.failures) ∙ at) old now each from of

pub if_some_at : {X : Type 0} (P : X → Type 0) (xs : List X) (place : ℕ) → All P xs → IfSome (slice_get xs place) P
if_some_at P [] zero all = tt
if_some_at P [] (suc place) all = tt
if_some_at P (x ∷ xs) zero all = All-head P x xs all
if_some_at P (x ∷ xs) (suc place) all = if_some_at P xs place (All-tail P x xs all)

-- each run has what was answered to the proxy
pub each_of : (proxies proxy : ℕ) → proxy < proxies → (runs : List ShardRun) → All (HasProxies proxies) runs
    → (each : List Answered) × AreOfProxy proxy runs each
each_of proxies proxy within [] all = ([], tt)
each_of proxies proxy within (run ∷ runs) all =
    let has = All-head (HasProxies proxies) run runs all in
    let inside : proxy < length run.answered.items = omega (arith, has.answered, run.answered.ok.0, within) in
    let own = some_at run.answered.items proxy inside in
    let rest = each_of proxies proxy within runs (All-tail (HasProxies proxies) run runs all) in
    (own.0 ∷ rest.0, (own.1, rest.1))

-- the combined answers to the proxy were made
pub together_made : (proxy : ℕ) (old now : List ShardRun) (lines : List Line) (own : ProxyFailure) (failures : List ProxyFailure)
    → AllZip (IsFrom proxy) old now
    → ((each : List Answered) × AreOfProxy proxy now each × AreAnswersTogether each (answers_of lines))
    → AreFailuresOf proxy now failures → IsFailureTogether failures own → AreTogether old proxy lines own
together_made proxy old now lines own failures from answers of together = record {
  each = answers.0;
  of_runs = of_proxy_before proxy old now answers.0 from answers.1;
  answers = inl answers.2;
  not_lost = λ is. answers.2;
  failures = failures;
  of_shards = failures_before proxy old now failures from of;
  own = own;
  together = together;
  fault = refl;
  lost = λ is. is;
}

-- they are lost
pub together_lost : (proxies proxy : ℕ) (old now : List ShardRun) (own : ProxyFailure) (failures : List ProxyFailure)
    → proxy < proxies → All (HasProxies proxies) old → AllZip (IsFrom proxy) old now → AreFailuresOf proxy now failures
    → IsFailureTogether failures own → AreTogether old proxy [] (record { fault = own.fault; lost = true })
together_lost proxies proxy old now own failures within has from of together =
    let each = each_of proxies proxy within old has in
    record {
      each = each.0;
      of_runs = each.1;
      answers = inr (refl, refl);
      not_lost = λ is. absurd (let no : ⊥ = cc in no);
      failures = failures;
      of_shards = failures_before proxy old now failures from of;
      own = own;
      together = together;
      fault = refl;
      lost = λ is. refl;
    }

-- what is so of each proxy so far
abbrev pub AreEach : List ShardRun → List (List Line) → List ProxyFailure → Type 0
AreEach runs each failures =
    (proxy : ℕ) (lines : List Line) (failure : ProxyFailure) → slice_get each proxy ≡ Some lines → slice_get failures proxy ≡ Some failure
    → AreTogether runs proxy lines failure

pub each_next : (runs : List ShardRun) (each : List (List Line)) (failures : List ProxyFailure) (own : List Line) (failed : ProxyFailure)
    → length failures ≡ length each → AreEach runs each failures → AreTogether runs (length each) own failed
    → AreEach runs (each ++ own ∷ []) (failures ++ failed ∷ [])
each_next runs each failures own failed same before it proxy lines failure at failure_at =
    elim (last_or_before each own proxy lines at) [
      | inl earlier ↦
          elim (last_or_before failures failed proxy failure failure_at) [
            | inl failed_earlier ↦ before proxy lines failure earlier failed_earlier
            | inr last ↦ absurd (omega (arith, last.0, same, slice_get_within each proxy lines earlier))
          ]
      | inr last ↦
          elim (last_or_before failures failed proxy failure failure_at) [
            | inl failed_earlier ↦ absurd (omega (arith, last.0, same, slice_get_within failures proxy failure failed_earlier))
            | inr failed_last ↦
                subst (λ (place : ℕ). AreTogether runs place lines failure) (sym last.0)
                (subst (λ (l : List Line). AreTogether runs (length each) l failure) last.1
                (subst (λ (f : ProxyFailure). AreTogether runs (length each) own f) failed_last.1 it))
          ]
    ]

pub lines_next : (style : Style) (each : List (List Line)) (own : List Line) → AreLines style each
    → All (IsLineOf style (length each)) own → AreLines style (each ++ own ∷ [])
lines_next style each own before it proxy lines at =
    elim (last_or_before each own proxy lines at) [
      | inl earlier ↦ before proxy lines earlier
      | inr last ↦
          subst (λ (place : ℕ). All (IsLineOf style place) lines) (sym last.0)
          (subst (λ (l : List Line). All (IsLineOf style (length each)) l) last.1 it)
    ]
