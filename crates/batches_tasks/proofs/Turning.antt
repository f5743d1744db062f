-- Part after part.
use Rattle.std.proofs.Common.{◌≡◌, ℕ, ◌+◌, List, [], ◌∷◌, ◌++◌, length, Option, Some, None, refl, sym, ap, subst, ◌∙◌, append_assoc, arith}
use Rattle.std.proofs.lemmas.List.{append-nil, length-append}
use Rattle.std.specs.Io.KnownBytes.{Consumes, Appends, Keeps, IsAtEnd}
use Rattle.wire.proofs.callers.Given.{appends_none, appends_then}
use Rattle.wire.proofs.callers.Known.{all_taken, consumes_none, consumes_then}
use Rattle.batches_tasks.specs.declared.failure.Failure.{Failure}
use Rattle.batches_tasks.specs.Turned.{BecomeEach, joined, Turns, TurnsAll, Stops}

joined_last : (parts : List (List ℕ)) (part : List ℕ) → joined parts ++ part ≡ joined (parts ++ part ∷ [])
joined_last [] part = sym (append-nil part)
joined_last (first ∷ parts) part =
    append_assoc first (joined parts) part ∙ ap (λ (t : List ℕ). first ++ t) (joined_last parts part)

each_last : (Becomes : List ℕ → List ℕ → Type 0) (parts : List (List ℕ)) (part text last : List ℕ)
    → BecomeEach Becomes parts text → Becomes part last → BecomeEach Becomes (parts ++ part ∷ []) (text ++ last)
each_last Becomes [] part text last each becomes =
    (last, [], ap (λ (t : List ℕ). t ++ last) each ∙ sym (append-nil last), becomes, refl)
each_last Becomes (first ∷ parts) part text last each becomes =
    let begin = each.0 in
    let others = each.1 in (
      begin,
      others ++ last,
      ap (λ (t : List ℕ). t ++ last) each.2 ∙ append_assoc begin others last,
      each.3,
      each_last Becomes parts part others last each.4 becomes,
    )

-- what was turned so far, and the number of the next part, counted from 1
pub record SoFar (Becomes : List ℕ → List ℕ → Type 0) (left now before after : Option (List ℕ)) (number : ℕ) : Type 0 where
  pub turned : Turns Becomes left now before after
  pub counted : number ≡ length turned.parts + 1

pub nothing_yet : (Becomes : List ℕ → List ℕ → Type 0) (left before : Option (List ℕ)) → SoFar Becomes left left before before 1
nothing_yet Becomes left before = record {
  turned = record {
    parts = [];
    text = [];
    read = consumes_none left;
    each = refl;
    written = appends_none before;
  };
  counted = refl;
}

pub one_more : (Becomes : List ℕ → List ℕ → Type 0) (left now next before after later : Option (List ℕ)) (number : ℕ)
    (part last : List ℕ) → SoFar Becomes left now before after number → Consumes now next part → Becomes part last
    → Appends after later last → SoFar Becomes left next before later (number + 1)
one_more Becomes left now next before after later number part last so_far read becomes written =
    let turned = so_far.turned in record {
      turned = record {
        parts = turned.parts ++ part ∷ [];
        text = turned.text ++ last;
        read = subst (Consumes left next) (joined_last turned.parts part)
            (consumes_then left now next (joined turned.parts) part turned.read read);
        each = each_last Becomes turned.parts part turned.text last turned.each becomes;
        written = appends_then before after later turned.text last turned.written written;
      };
      counted = omega (arith, so_far.counted, length-append turned.parts (part ∷ []));
    }

pub at_the_end : (Becomes : List ℕ → List ℕ → Type 0) (left now before after later : Option (List ℕ)) (number : ℕ)
    → SoFar Becomes left now before after number → IsAtEnd now → later ≡ after → TurnsAll Becomes left before later
at_the_end Becomes left now before after later number so_far end same =
    let turned = so_far.turned in record {
      parts = turned.parts;
      text = turned.text;
      read = all_taken left now (joined turned.parts) turned.read end;
      each = turned.each;
      written = subst (λ (out : Option (List ℕ)). Appends before out turned.text) (sym same) turned.written;
    }

pub stops : (Becomes : List ℕ → List ℕ → Type 0) (Fails : ℕ → Option (List ℕ) → Failure → Type 0)
    (left now before after later : Option (List ℕ)) (number : ℕ) (e : Failure) → SoFar Becomes left now before after number
    → later ≡ after → Fails number now e → Stops Becomes Fails left before later e
stops Becomes Fails left now before after later number e so_far same fails =
    let turned = so_far.turned in record {
      now = now;
      turned = record {
        parts = turned.parts;
        text = turned.text;
        read = turned.read;
        each = turned.each;
        written = subst (λ (out : Option (List ℕ)). Appends before out turned.text) (sym same) turned.written;
      };
      fails = subst (λ (n : ℕ). Fails n now e) so_far.counted fails;
    }

appends_keeps : (a b c : Option (List ℕ)) (xs : List ℕ) → Appends a b xs → Keeps b c → Appends a c xs
appends_keeps None b c xs h k = tt
appends_keeps (Some us) None c xs h k = absurd h
appends_keeps (Some us) (Some vs) None xs h k = absurd k
appends_keeps (Some us) (Some vs) (Some ws) xs h k = k ∙ h

-- the output is flushed
pub flushed : (Becomes : List ℕ → List ℕ → Type 0) (left before after later : Option (List ℕ))
    → TurnsAll Becomes left before after → Keeps after later → TurnsAll Becomes left before later
flushed Becomes left before after later all kept = record {
  parts = all.parts;
  text = all.text;
  read = all.read;
  each = all.each;
  written = appends_keeps before after later all.text all.written kept;
}
