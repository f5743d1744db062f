-- The text of a summary, put piece by piece.
use Rattle.std.specs.Prelude.{◌≡◌, ℕ, List, [], ◌++◌, codes, OnOk, Ok, Option, Result}
use Rattle.std.specs.List.{flat_map, enumerate_from}
use Rattle.std.proofs.Common.{subst, sym, ◌∙◌}
use Rattle.replay_summary.specs.declared.occupancy.Occupancy.{Occupancy}
use Rattle.replay_summary.specs.declared.summary.Summary.{Summary}
use Rattle.replay_summary.specs.declared.text.SummaryForm.{SummaryForm}
use Rattle.replay_summary.specs.declared.text.SummaryForm.TheVariants.{Words, Json}
use Rattle.replay_summary.specs.Summary.{total_of}
use Rattle.replay_summary.specs.Text.{last_line, members, proxy_line, proxy_objects, resolver_line, resolver_members, text}

-- what holds on success, of a result that is a success
pub once_ok : {T E P : Type 0} (result put : Result T E) (x : T) → put ≡ result → put ≡ Ok x → OnOk result P → P
once_ok {P = P} result put x same is reported = subst (λ r. OnOk r P) (sym same ∙ is) reported

-- the lines, put into an empty text
pub words_text : (made before : List ℕ) (summaries : List Summary) (total : Summary) (occupancy : Option Occupancy) (form : SummaryForm)
    → made ≡ before ++ flat_map proxy_line (enumerate_from 0 summaries) ++ last_line total ++ resolver_line occupancy
    → before ≡ [] → total ≡ total_of summaries → form ≡ Words → made ≡ text form occupancy summaries
words_text made before summaries total occupancy form put empty all words =
    subst (λ f. made ≡ text f occupancy summaries) (sym words)
    (subst (λ t. made ≡ flat_map proxy_line (enumerate_from 0 summaries) ++ last_line t ++ resolver_line occupancy) all
    (subst (λ (l : List ℕ). made ≡ l ++ flat_map proxy_line (enumerate_from 0 summaries) ++ last_line total ++ resolver_line occupancy) empty
    put))

-- the object, put into an empty text
pub json_text : (made before : List ℕ) (summaries : List Summary) (total : Summary) (occupancy : Option Occupancy) (form : SummaryForm)
    → made ≡ before ++ codes "{\"proxies\":[" ++ proxy_objects summaries ++ codes "]," ++ members total ++ resolver_members occupancy
    ++ codes "}\n"
    → before ≡ [] → total ≡ total_of summaries → form ≡ Json → made ≡ text form occupancy summaries
json_text made before summaries total occupancy form put empty all json =
    subst (λ f. made ≡ text f occupancy summaries) (sym json)
    (subst (λ t. made ≡ codes "{\"proxies\":[" ++ proxy_objects summaries ++ codes "]," ++ members t ++ resolver_members occupancy
    ++ codes "}\n") all
    (subst (λ (l : List ℕ). made ≡ l ++ codes "{\"proxies\":[" ++ proxy_objects summaries ++ codes "]," ++ members total
    ++ resolver_members occupancy ++ codes "}\n") empty put))
