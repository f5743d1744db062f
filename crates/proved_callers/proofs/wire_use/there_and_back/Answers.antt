use Rattle.std.proofs.Common.{◌≡◌, ℕ, List, [], ◌++◌, take, drop, sym, ◌∙◌, append-nil, take-append-drop}
use Rattle.proved_callers.proofs.wire_use.there_and_back.Goals as goal

pub returns : goal.returns
returns c =
    let frame : List ℕ = c.in_ok-frame.frame.items in
    let read : List ℕ = c.deref.result.now in
    let used : ℕ = c.in_ok-again.field-0-1 in
    let same : frame ++ [] ≡ take used read ++ drop used read =
    append-nil frame ∙ sym c.deref.ensures.value ∙ sym (take-append-drop used read) in
    record {
      same =
          sym
          (c.one_spelling.ensures.batches _ _ frame (take used read) [] (drop used read) _ _ c.in_ok-frame.ensures.spelled
          c.in_ok-again.ensures.spelled same).2;
    }
