-- Replies that are added, and replies that are taken.
use Rattle.std.proofs.Common.{◌≡◌, ℤ, Bool, true, false, cond, List, [], ◌∷◌, ◌++◌, Option, Some, None, refl, sym, ap, ◌∙◌, if◌then◌else◌, is_some, ◌||◌}
use Rattle.std.specs.Ordering.{int_cmp, int_eq}
use Rattle.std.specs.BTreeMap as tree
use Rattle.std.specs.List.{list_any}
use Rattle.std.proofs.lemmas.Cmp.{int_eq_equiv}
use Rattle.std.proofs.lemmas.Bool.Decides.{Decides-int_eq}
use Rattle.keyspace.specs.declared.reply.Reply.{Reply}
use Rattle.batches_report.specs.Answered.{AreLeft, first_reply, reply_unless_seen}
use Rattle.batches_report.specs.declared.left.Left.{Left}
use Rattle.batches_report.proofs.AnyLast.{any_last}

abbrev or_else : Option Reply → Option Reply → Option Reply
or_else None other = other
or_else (Some r) other = Some r

first_after : (rs : List Reply) (r : Reply) (v : ℤ)
    → first_reply (rs ++ r ∷ []) v ≡ or_else (first_reply rs v) (if int_eq r.version v then Some r else None)
first_after [] r v = refl
first_after (x ∷ rs) r v =
    elim (int_eq x.version v) as (λ b. (if b then Some x else first_reply (rs ++ r ∷ []) v)
    ≡ or_else (if b then Some x else first_reply rs v) (if int_eq r.version v then Some r else None)) [
      | true ↦ refl
      | false ↦ first_after rs r v
    ]

or_none : (o : Option Reply) → or_else o None ≡ o
or_none None = refl
or_none (Some r) = refl

-- a reply of a version that has one changes nothing
pub first_stays : (rs : List Reply) (r x : Reply) (v : ℤ) → first_reply rs r.version ≡ Some x
    → first_reply (rs ++ r ∷ []) v ≡ first_reply rs v
first_stays rs r x v has = first_after rs r v ∙ go (int_eq r.version v) refl
  where
    go : (b : Bool) → int_eq r.version v ≡ b → or_else (first_reply rs v) (if b then Some r else None) ≡ first_reply rs v
    go true e =
        let same : r.version ≡ v = (Decides-int_eq r.version v).0 e in
        let found : first_reply rs v ≡ Some x = ap (first_reply rs) (sym same) ∙ has in
        ap (λ o. or_else o (Some r)) found ∙ sym found
    go false e = or_none (first_reply rs v)

-- a reply of another version is found there
pub first_is_new : (rs : List Reply) (r : Reply) (v : ℤ) → first_reply rs r.version ≡ None
    → first_reply (rs ++ r ∷ []) v ≡ (if int_eq r.version v then Some r else first_reply rs v)
first_is_new rs r v none = first_after rs r v ∙ go (int_eq r.version v) refl
  where
    go : (b : Bool) → int_eq r.version v ≡ b → or_else (first_reply rs v) (if b then Some r else None)
        ≡ (if b then Some r else first_reply rs v)
    go true e =
        let same : r.version ≡ v = (Decides-int_eq r.version v).0 e in
        ap (λ o. or_else o (Some r)) (ap (first_reply rs) (sym same) ∙ none)
    go false e = or_none (first_reply rs v)

both : (l c : Bool) (o : Option Reply) → (if (l || c) then None else o) ≡ (if c then None else (if l then None else o))
both true true o = refl
both true false o = refl
both false true o = refl
both false false o = refl

-- once a version was seen, no reply is left for it
left_after : (rs : List Reply) (seen : List ℤ) (w v : ℤ)
    → reply_unless_seen rs (seen ++ w ∷ []) v ≡ (if int_eq v w then None else reply_unless_seen rs seen v)
left_after rs seen w v =
    ap (λ b. if b then None else first_reply rs v) (any_last (int_eq v) seen w)
    ∙ both (list_any (int_eq v) seen) (int_eq v w) (first_reply rs v)

pub reply_taken : (rs : List Reply) (seen : List ℤ) (left : Left) (k v : ℤ) (found : Option Reply) → k ≡ v → AreLeft rs seen left
    → found ≡ tree.get int_cmp left.replies k → found ≡ reply_unless_seen rs seen v
reply_taken rs seen left k v found same from is = is ∙ ap (λ x. tree.get int_cmp left.replies x) same ∙ from v

pub left_taken : (rs : List Reply) (seen : List ℤ) (old new : Left) (k v : ℤ) → k ≡ v → AreLeft rs seen old
    → ((q : ℤ) → tree.get int_cmp new.replies q ≡ (if int_eq k q then None else tree.get int_cmp old.replies q))
    → AreLeft rs (seen ++ v ∷ []) new
left_taken rs seen old new k v same from taken = λ q.
    taken q
    ∙ ap (λ x. if int_eq x q then None else tree.get int_cmp old.replies q) same
    ∙ ap (λ b. if b then None else tree.get int_cmp old.replies q) (int_eq_equiv.symm v q)
    ∙ ap (λ (o : Option Reply). if int_eq q v then None else o) (from q)
    ∙ sym (left_after rs seen v q)

some_of : (o : Option Reply) → is_some o ≡ true → (x : Reply) × (o ≡ Some x)
some_of None e = cc
some_of (Some x) e = (x, refl)

none_of : (o : Option Reply) → is_some o ≡ false → o ≡ None
none_of None e = refl
none_of (Some x) e = cc

-- a reply of a version that has one isn't added
pub still_left : (rs : List Reply) (r : Reply) (left : Left) → AreLeft rs [] left
    → is_some (tree.get int_cmp left.replies r.version) ≡ true → AreLeft (rs ++ r ∷ []) [] left
still_left rs r left from has = λ v.
    let found = some_of (tree.get int_cmp left.replies r.version) has in
    from v ∙ sym (first_stays rs r found.0 v (sym (from r.version) ∙ found.1))

-- a reply of another version is added
pub left_more : (rs : List Reply) (r : Reply) (old new : Left) (k : ℤ) → k ≡ r.version → AreLeft rs [] old
    → is_some (tree.get int_cmp old.replies r.version) ≡ false
    → ((v : ℤ) → tree.get int_cmp new.replies v ≡ (if int_eq k v then Some r else tree.get int_cmp old.replies v))
    → AreLeft (rs ++ r ∷ []) [] new
left_more rs r old new k same from has added = λ v.
    added v
    ∙ ap (λ x. if int_eq x v then Some r else tree.get int_cmp old.replies v) same
    ∙ ap (λ (o : Option Reply). if int_eq r.version v then Some r else o) (from v)
    ∙ sym (first_is_new rs r v (sym (from r.version) ∙ none_of (tree.get int_cmp old.replies r.version) has))
