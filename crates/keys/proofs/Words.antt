-- Words of eight bytes, place by place.
use Rattle.std.proofs.Common.{
  ◌≡◌,
  ℕ,
  zero,
  suc,
  ◌*◌,
  ◌+◌,
  ◌<◌,
  ◌≤◌,
  List,
  ◌++◌,
  length,
  get_or,
  take,
  drop,
  refl,
  sym,
  ap,
  ◌∙◌,
  arith,
  subst,
  length-drop,
}
use Rattle.std.specs.Prelude.{Option, Some, None, IfSome, option_map}
use Rattle.std.proofs.Math.Seq.{take-add}
use Rattle.std.proofs.lemmas.List.{take_all, length-take-le}
use Rattle.std.proofs.lemmas.List.Elements.{All-take, All-drop, All-from_get_or}
use Rattle.keys.specs.Key.{IsBytes}
use Rattle.keys.specs.Head.{head_of}
use Rattle.keys.proofs.callers.KeyHeads.{head_same_long}

-- lists that agree at each of the first words begin the same way
words_equal_from : (n : ℕ) (a b : List ℕ)
    → ((k : ℕ) → k < n → take 8 (drop (k * 8) a) ≡ take 8 (drop (k * 8) b)) → take (n * 8) a ≡ take (n * 8) b
words_equal_from zero a b same = refl
words_equal_from (suc n) a b same =
    let more : suc n * 8 ≡ n * 8 + 8 = omega arith in
    ap (λ l. take l a) more ∙ take-add (n * 8) 8 a
    ∙ ap (λ front. front ++ take 8 (drop (n * 8) a)) (words_equal_from n a b (λ k less. same k (omega arith)))
    ∙ ap (λ word. take (n * 8) b ++ word) (same n (omega arith))
    ∙ sym (take-add (n * 8) 8 b) ∙ ap (λ l. take l b) (sym more)

words_equal : (n : ℕ) (a b : List ℕ)
    → ((k : ℕ) → k < n → take 8 (drop (k * 8) a) ≡ take 8 (drop (k * 8) b)) → take (8 * n) a ≡ take (8 * n) b
words_equal n a b same =
    let turned : 8 * n ≡ n * 8 = omega arith in
    ap (λ l. take l a) turned ∙ words_equal_from n a b same ∙ ap (λ l. take l b) (sym turned)

-- the word at place k
abbrev word_at : ℕ → List ℕ → List ℕ
word_at k a = take 8 (drop (k * 8) a)

word_length : (n k : ℕ) (a : List ℕ) → 8 * n ≤ length a → k < n → length (word_at k a) ≡ 8
word_length n k a in_a less = length-take-le 8 (drop (k * 8) a) (omega (arith, length-drop (k * 8) a))

pub are_bytes : (a : List ℕ) → ((i : ℕ) → get_or a i 0 < 256) → IsBytes a
are_bytes a bytes = All-from_get_or (λ byte. byte < 256) a 0 (λ i inside. bytes i)

word_bytes : (k : ℕ) (a : List ℕ) → IsBytes a → IsBytes (word_at k a)
word_bytes k a bytes = All-take (λ byte. byte < 256) 8 (drop (k * 8) a) (All-drop (λ byte. byte < 256) (k * 8) a bytes)

-- words of eight bytes are distinguished by their heads
same_word : (v w : List ℕ) → IsBytes v → IsBytes w → length v ≡ 8 → length w ≡ 8 → head_of v ≡ head_of w → v ≡ w
same_word v w v_bytes w_bytes v_length w_length same =
    sym (take_all 8 v (omega arith)) ∙ head_same_long v w v_bytes w_bytes same (omega arith) (omega arith)
    ∙ take_all 8 w (omega arith)

-- lists whose first words have the same heads begin the same way
pub equal_by_heads : (n : ℕ) (a b : List ℕ) → ((i : ℕ) → get_or a i 0 < 256) → ((i : ℕ) → get_or b i 0 < 256)
    → 8 * n ≤ length a → 8 * n ≤ length b
    → ((k : ℕ) → k < n → head_of (take 8 (drop (k * 8) a)) ≡ head_of (take 8 (drop (k * 8) b)))
    → take (8 * n) a ≡ take (8 * n) b
equal_by_heads n a b a_bytes b_bytes in_a in_b same =
    words_equal n a b (λ k less. same_word (word_at k a) (word_at k b)
    (word_bytes k a (are_bytes a a_bytes)) (word_bytes k b (are_bytes b b_bytes))
    (word_length n k a in_a less) (word_length n k b in_b less) (same k less))

-- if the two items of a pair are equal, what each of them is known to be is equal too
pub same_of_pair : {A B : Type 0} (pair : Option (A × A)) (left right : Option A) (view : A → B) (x y : B)
    {Left Right : A → Type 0} {Both : A × A → Type 0} {some : A × A}
    → option_map (λ p. p) pair ≡ Some some → left ≡ option_map (λ p. p.0) pair → right ≡ option_map (λ p. p.1) pair
    → IfSome left Left → IfSome right Right → IfSome pair Both
    → ((z : A) → Left z → view z ≡ x) → ((z : A) → Right z → view z ≡ y)
    → ((z : A × A) → Both z → view z.0 ≡ view z.1)
    → x ≡ y
same_of_pair None left right view x y is_some left_is right_is in_left in_right in_both f g h = cc
same_of_pair (Some p) left right view x y {Left} {Right} is_some left_is right_is in_left in_right in_both f g h =
    sym (f p.0 (subst (λ o. IfSome o Left) left_is in_left)) ∙ h p in_both
    ∙ g p.1 (subst (λ o. IfSome o Right) right_is in_right)
