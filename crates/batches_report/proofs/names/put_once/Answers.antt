use Rattle.std.proofs.Common.{◌≡◌, ℕ, List, [], ◌∷◌, ◌++◌, Bool, true, false, String, Global, string_bytes, map, sym, ap, subst, ◌∙◌}
use Rattle.std.proofs.lemmas.List.{map_push}
use Rattle.batches_report.specs.Names.{AreEachOnce, is_among}
use Rattle.batches_report.proofs.Naming.{once_more, once_still}
use Rattle.batches_report.proofs.names.put_once.Goals as goal

-- the test looked at the names and at the name
looked : (names seen : List (String Global)) (name text : List ℕ) (test b : Bool) → seen ≡ names → text ≡ name
    → test ≡ is_among (map string_bytes seen) text → test ≡ b → is_among (map string_bytes names) name ≡ b
looked names seen name text test b same_names same_name is tested =
    ap (λ (ns : List (String Global)). is_among (map string_bytes ns) name) (sym same_names)
    ∙ ap (is_among (map string_bytes seen)) (sym same_name) ∙ sym is ∙ tested

pub returns-then-is_among : goal.returns-then-is_among
returns-then-is_among c = record {
  put = λ all once.
      once_still all (map string_bytes c.args.names.now.items) (string_bytes c.args.name) once
      (looked c.args.names.now.items c.deref.result.now (string_bytes c.args.name) c.deref-2.result.now c.is_among.result true
      c.deref.ensures.value c.deref-2.ensures c.is_among.ensures.exact c.if-is_among.true);
}

pub returns : goal.returns
returns c = record {
  put = λ all once.
      subst (AreEachOnce (all ++ string_bytes c.args.name ∷ []))
      (sym (ap (map string_bytes) c.in_ok-push.ensures.items ∙ map_push string_bytes c.args.names.now.items c.args.name))
      (once_more all (map string_bytes c.args.names.now.items) (string_bytes c.args.name) once
      (looked c.args.names.now.items c.deref.result.now (string_bytes c.args.name) c.deref-2.result.now c.is_among.result false
      c.deref.ensures.value c.deref-2.ensures c.is_among.ensures.exact c.if-is_among.false));
}
