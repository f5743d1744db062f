-- The head of the last bytes of a word is the word's, shifted.
use Rattle.std.proofs.Common.{◌≡◌, ℕ, zero, suc, ◌*◌, ◌%◌, ◌^◌, ◌<◌, ◌≤◌, List, [], ◌∷◌, length, get_or, drop, refl, arith}
use Rattle.keys.specs.Head.{head_of}

module _ (a b c d e f g h : ℕ) (a8 : a < 256) (b8 : b < 256) (c8 : c < 256) (d8 : d < 256) (e8 : e < 256) (f8 : f < 256) (g8 : g < 256) (h8 : h < 256) where
  shifted_1 : head_of (a ∷ b ∷ c ∷ d ∷ e ∷ f ∷ g ∷ h ∷ []) * 256 % 18446744073709551616 ≡ head_of (b ∷ c ∷ d ∷ e ∷ f ∷ g ∷ h ∷ [])
  unfolding head_of
  shifted_1 = omega (arith, a8, b8, c8, d8, e8, f8, g8, h8)

  shifted_2 : head_of (a ∷ b ∷ c ∷ d ∷ e ∷ f ∷ g ∷ h ∷ []) * 65536 % 18446744073709551616 ≡ head_of (c ∷ d ∷ e ∷ f ∷ g ∷ h ∷ [])
  unfolding head_of
  shifted_2 = omega (arith, a8, b8, c8, d8, e8, f8, g8, h8)

  shifted_3 : head_of (a ∷ b ∷ c ∷ d ∷ e ∷ f ∷ g ∷ h ∷ []) * 16777216 % 18446744073709551616 ≡ head_of (d ∷ e ∷ f ∷ g ∷ h ∷ [])
  unfolding head_of
  shifted_3 = omega (arith, a8, b8, c8, d8, e8, f8, g8, h8)

  shifted_4 : head_of (a ∷ b ∷ c ∷ d ∷ e ∷ f ∷ g ∷ h ∷ []) * 4294967296 % 18446744073709551616 ≡ head_of (e ∷ f ∷ g ∷ h ∷ [])
  unfolding head_of
  shifted_4 = omega (arith, a8, b8, c8, d8, e8, f8, g8, h8)

  shifted_5 : head_of (a ∷ b ∷ c ∷ d ∷ e ∷ f ∷ g ∷ h ∷ []) * 1099511627776 % 18446744073709551616 ≡ head_of (f ∷ g ∷ h ∷ [])
  unfolding head_of
  shifted_5 = omega (arith, a8, b8, c8, d8, e8, f8, g8, h8)

  shifted_6 : head_of (a ∷ b ∷ c ∷ d ∷ e ∷ f ∷ g ∷ h ∷ []) * 281474976710656 % 18446744073709551616 ≡ head_of (g ∷ h ∷ [])
  unfolding head_of
  shifted_6 = omega (arith, a8, b8, c8, d8, e8, f8, g8, h8)

  shifted_7 : head_of (a ∷ b ∷ c ∷ d ∷ e ∷ f ∷ g ∷ h ∷ []) * 72057594037927936 % 18446744073709551616 ≡ head_of (h ∷ [])
  unfolding head_of
  shifted_7 = omega (arith, a8, b8, c8, d8, e8, f8, g8, h8)

-- The word without its first bytes.
pub shifted : (word : List ℕ) (n : ℕ) → length word ≡ 8 → ((i : ℕ) → get_or word i 0 < 256) → 1 ≤ n → n < 8
    → head_of word * 2 ^ (8 * n) % 18446744073709551616 ≡ head_of (drop n word)
shifted [] n long bytes some few = absurd (omega (arith, long))
shifted (a ∷ []) n long bytes some few = absurd (omega (arith, long))
shifted (a ∷ b ∷ []) n long bytes some few = absurd (omega (arith, long))
shifted (a ∷ b ∷ c ∷ []) n long bytes some few = absurd (omega (arith, long))
shifted (a ∷ b ∷ c ∷ d ∷ []) n long bytes some few = absurd (omega (arith, long))
shifted (a ∷ b ∷ c ∷ d ∷ e ∷ []) n long bytes some few = absurd (omega (arith, long))
shifted (a ∷ b ∷ c ∷ d ∷ e ∷ f ∷ []) n long bytes some few = absurd (omega (arith, long))
shifted (a ∷ b ∷ c ∷ d ∷ e ∷ f ∷ g ∷ []) n long bytes some few = absurd (omega (arith, long))
shifted (a ∷ b ∷ c ∷ d ∷ e ∷ f ∷ g ∷ h ∷ []) zero long bytes some few = absurd (omega (arith, some))
shifted (a ∷ b ∷ c ∷ d ∷ e ∷ f ∷ g ∷ h ∷ []) (suc zero) long bytes some few =
    shifted_1 a b c d e f g h (bytes 0) (bytes 1) (bytes 2) (bytes 3) (bytes 4) (bytes 5) (bytes 6) (bytes 7)
shifted (a ∷ b ∷ c ∷ d ∷ e ∷ f ∷ g ∷ h ∷ []) (suc (suc zero)) long bytes some few =
    shifted_2 a b c d e f g h (bytes 0) (bytes 1) (bytes 2) (bytes 3) (bytes 4) (bytes 5) (bytes 6) (bytes 7)
shifted (a ∷ b ∷ c ∷ d ∷ e ∷ f ∷ g ∷ h ∷ []) (suc (suc (suc zero))) long bytes some few =
    shifted_3 a b c d e f g h (bytes 0) (bytes 1) (bytes 2) (bytes 3) (bytes 4) (bytes 5) (bytes 6) (bytes 7)
shifted (a ∷ b ∷ c ∷ d ∷ e ∷ f ∷ g ∷ h ∷ []) (suc (suc (suc (suc zero)))) long bytes some few =
    shifted_4 a b c d e f g h (bytes 0) (bytes 1) (bytes 2) (bytes 3) (bytes 4) (bytes 5) (bytes 6) (bytes 7)
shifted (a ∷ b ∷ c ∷ d ∷ e ∷ f ∷ g ∷ h ∷ []) (suc (suc (suc (suc (suc zero))))) long bytes some few =
    shifted_5 a b c d e f g h (bytes 0) (bytes 1) (bytes 2) (bytes 3) (bytes 4) (bytes 5) (bytes 6) (bytes 7)
shifted (a ∷ b ∷ c ∷ d ∷ e ∷ f ∷ g ∷ h ∷ []) (suc (suc (suc (suc (suc (suc zero)))))) long bytes some few =
    shifted_6 a b c d e f g h (bytes 0) (bytes 1) (bytes 2) (bytes 3) (bytes 4) (bytes 5) (bytes 6) (bytes 7)
shifted (a ∷ b ∷ c ∷ d ∷ e ∷ f ∷ g ∷ h ∷ []) (suc (suc (suc (suc (suc (suc (suc zero))))))) long bytes some few =
    shifted_7 a b c d e f g h (bytes 0) (bytes 1) (bytes 2) (bytes 3) (bytes 4) (bytes 5) (bytes 6) (bytes 7)
shifted (a ∷ b ∷ c ∷ d ∷ e ∷ f ∷ g ∷ h ∷ []) (suc (suc (suc (suc (suc (suc (suc (suc n)))))))) long bytes some few = absurd (omega (arith, few))
shifted (a ∷ b ∷ c ∷ d ∷ e ∷ f ∷ g ∷ h ∷ x ∷ xs) n long bytes some few = absurd (omega (arith, long))

-- That of no byte is 0.
pub no_head : 0 ≡ head_of []
unfolding head_of
no_head = refl
