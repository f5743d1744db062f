-- How a worker leaves its request lane, and what it has done.
use Rattle.std.specs.Prelude.{◌≡◌, ◌≢◌, ℕ, Bool, true, false, List, [], ◌∷◌, ◌++◌, length, Option, None, Some, IfSome, option_to_list}
use Rattle.std.specs.Io.KnownBytes.{IsAtEnd}
use Rattle.std.proofs.Common.{refl, sym, ap, subst, ◌∙◌, length-append, arith, inl, inr}
use Rattle.std.proofs.lemmas.Bool.{false≢true}
use Rattle.keyspace.specs.declared.answer.Answer.{Answer}
use Rattle.keyspace.specs.declared.batch.Batch.{Batch}
use Rattle.lane.specs.Lane.{PortView, IntakeView, HasEnded}
use Rattle.wire.specs.declared.error.WireError.{WireError}
use Rattle.wire.specs.declared.error.WireError.TheVariants as wire
use Rattle.replay_output.specs.declared.line.Line.{Line}
use Rattle.replay_output.specs.declared.options.reports.Reports.{Reports}
use Rattle.replay_output.specs.declared.options.style.Style.{Style}
use Rattle.replay_workers.specs.declared.worker.FileEnd.{FileEnd}
use Rattle.replay_workers.specs.declared.worker.FileEnd.TheVariants.{Reached, Fault, Leaves}
use Rattle.replay_workers.specs.declared.worker.Leftover.TheVariants.{CutShort, Worn}
use Rattle.wire.specs.Batches.{GivesEach, IsFaultAt}
use Rattle.replay_workers.specs.Inbox.{KeepsLines}
use Rattle.replay_workers.specs.Reporting.{SendsFrames, TakesResolved}
use Rattle.replay_workers.specs.Worker.{CannotSend, IfLeaves, LeavesLane, SendsBatches, is_cut_short, unsent_of}

abbrev pub GivesUp : FileEnd → PortView Batch → IntakeView Answer → Type 0
GivesUp end requests replies = IfLeaves end (λ leftover. CannotSend leftover requests replies)

-- if it was cut short, the answers had ended
pub ended_first : (end : FileEnd) (requests : PortView Batch) (replies : IntakeView Answer) → is_cut_short end ≡ true
    → GivesUp end requests replies → HasEnded replies
ended_first Reached requests replies cut gives_up = absurd (false≢true cut)
ended_first (Fault e) requests replies cut gives_up = absurd (false≢true cut)
ended_first (Leaves (CutShort batch)) requests replies cut gives_up = gives_up
ended_first (Leaves (Worn batch)) requests replies cut gives_up = absurd (false≢true cut)

-- and it leaves the lane as it was
pub left_open : (end : FileEnd) (was : Bool) (requests : PortView Batch) → is_cut_short end ≡ true → requests.closed ≡ was
    → LeavesLane was requests (unsent_of end)
left_open Reached was requests cut same = absurd (false≢true cut)
left_open (Fault e) was requests cut same = absurd (false≢true cut)
left_open (Leaves (CutShort batch)) was requests cut same = inl same
left_open (Leaves (Worn batch)) was requests cut same = absurd (false≢true cut)

-- else it closes the lane
pub left_closed : (end : FileEnd) (was : Bool) (requests : PortView Batch) (replies : IntakeView Answer)
    → is_cut_short end ≡ false → requests.closed ≡ was → GivesUp end requests replies
    → LeavesLane was (record requests { closed = true }) (unsent_of end)
left_closed Reached was requests replies not_cut same gives_up = refl
left_closed (Fault e) was requests replies not_cut same gives_up = refl
left_closed (Leaves (CutShort batch)) was requests replies not_cut same gives_up = absurd (false≢true (sym not_cut))
left_closed (Leaves (Worn batch)) was requests replies not_cut same (inl closed) = inl (sym closed ∙ same)
left_closed (Leaves (Worn batch)) was requests replies not_cut same (inr worn) = inr (refl, worn)

-- the same of equal values
module _ {X : Type 0} (Gives : X → X → Batch → Type 0) (IsEnd : X → Type 0) (IsFault : X → WireError → Type 0) where
  abbrev pub batches_moved : (first : X) (before before' now now' : List Batch) (fault fault' : Option WireError)
      (unsent unsent' : Option Batch) → before ≡ before' → now ≡ now' → fault ≡ fault' → unsent ≡ unsent'
      → SendsBatches Gives IsEnd IsFault first before now fault unsent → SendsBatches Gives IsEnd IsFault first before' now' fault' unsent'
  batches_moved first before before' now now' fault fault' unsent unsent' b c d e sends = record {
    batches = sends.batches;
    left = sends.left;
    sent = sym c ∙ sends.sent ∙ ap (λ (l : List Batch). l ++ sends.batches) b;
    frames =
        subst (λ (u : Option Batch). GivesEach Gives first sends.left (sends.batches ++ option_to_list u)) e sends.frames;
    all = λ no_fault none. sends.all (d ∙ no_fault) (e ∙ none);
    first_fault = subst (λ (f : Option WireError). IfSome f (λ e. e ≢ wire.Memory → e ≢ wire.Read → IsFault sends.left e)) d
        sends.first_fault;
  }

pub sends_moved : (reports : Reports) (bytes bytes' : Option (List ℕ)) (before before' now now' : List Batch)
    (fault fault' : Option WireError) (unsent unsent' : Option Batch) → bytes ≡ bytes' → before ≡ before' → now ≡ now'
    → fault ≡ fault' → unsent ≡ unsent' → SendsFrames reports bytes before now fault unsent
    → SendsFrames reports bytes' before' now' fault' unsent'
sends_moved reports bytes bytes' before before' now now' fault fault' unsent unsent' a b c d e sends =
    batches_moved (TakesResolved reports) IsAtEnd IsFaultAt bytes' before before' now now' fault fault' unsent unsent' b c d e
    (subst (λ (y : Option (List ℕ)). SendsFrames reports y before now fault unsent) a sends)

pub keeps_moved : (style style' : Style) (proxy proxy' : ℕ) (before now now' : List Answer) (lines lines' : List Line)
    (lost lost' : Bool) → style ≡ style' → proxy ≡ proxy' → now ≡ now' → lines ≡ lines' → lost ≡ lost'
    → KeepsLines style proxy before now lines lost → KeepsLines style' proxy' before now' lines' lost'
keeps_moved style style' proxy proxy' before now now' lines lines' lost lost' a b c d e keeps =
    subst (λ (l : Bool). KeepsLines style' proxy' before now' lines' l) e
    (subst (λ (l : List Line). KeepsLines style' proxy' before now' l lost) d
    (subst (λ (n : List Answer). KeepsLines style' proxy' before n lines lost) c
    (subst (λ (p : ℕ). KeepsLines style' p before now lines lost) b
    (subst (λ (f : Style). KeepsLines f proxy before now lines lost) a keeps))))

-- if these are the first batches that were sent, with the one left over they aren't the same
pub none_left : (batches held rest : List Batch) (unsent : Option Batch) → batches ≡ held ++ rest
    → batches ++ option_to_list unsent ≡ held → unsent ≡ None
none_left batches held rest None is same = refl
none_left batches held rest (Some batch) is same =
    absurd (omega (arith, ap length is, ap length same, length-append held rest, length-append batches (batch ∷ [])))
