-- Two lists in pairs, of which one is taken apart by its length.
use Rattle.std.proofs.Common.{◌≡◌, ℕ, List, ◌++◌, length, take, drop, sym, ap, ◌∙◌, subst}
use Rattle.std.specs.List.{AllZip}
use Rattle.keys.proofs.callers.Lists.{AllZip-split}

module _ {A B : Type 0} (R : A → B → Type 0) (xs ys : List A) (zs part : List B) (n : ℕ) (long : n ≡ length xs) where
  pub zip_front : part ≡ take n zs → AllZip R (xs ++ ys) zs → AllZip R xs part
  zip_front is zipped =
      subst (λ (front : List B). AllZip R xs front) (sym (is ∙ ap (λ k. take k zs) long)) (AllZip-split R xs ys zs zipped).0

  pub zip_back : part ≡ drop n zs → AllZip R (xs ++ ys) zs → AllZip R ys part
  zip_back is zipped =
      subst (λ (back : List B). AllZip R ys back) (sym (is ∙ ap (λ k. drop k zs) long)) (AllZip-split R xs ys zs zipped).1
