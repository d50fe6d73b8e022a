-- Eight digits to the base 64 and the number that they make.
use Rattle.std.proofs.Common.{◌≡◌, ℕ, ◌+◌, ◌*◌, ◌^◌, ◌<◌, List, [], ◌∷◌, length, arith}
use Rattle.std.specs.List.{AllByRecursion}
use Rattle.word.specs.Symbols.{packed, symbols_of}

pub packed_symbols : (x : ℕ) → x < 2 ^ 48 → packed (symbols_of x) ≡ x
packed_symbols x h = omega arith

-- eight symbols, written out, and the number that they make
module _ (a b c d e f g h x : ℕ) (p : a < 64) (q : b < 64) (r : c < 64) (s : d < 64) (t : e < 64) (u : f < 64) (v : g < 64) (w : h < 64)
    (is : x ≡ ((((((a * 64 + b) * 64 + c) * 64 + d) * 64 + e) * 64 + f) * 64 + g) * 64 + h) where
  parted : symbols_of x ≡ (a ∷ b ∷ c ∷ d ∷ e ∷ f ∷ g ∷ h ∷ [])
  parted = grind arith

pub symbols_packed : (xs : List ℕ) → length xs ≡ 8 → AllByRecursion (λ s. s < 64) xs → symbols_of (packed xs) ≡ xs
symbols_packed [] long all = absurd (omega arith)
symbols_packed (a ∷ []) long all = absurd (omega arith)
symbols_packed (a ∷ b ∷ []) long all = absurd (omega arith)
symbols_packed (a ∷ b ∷ c ∷ []) long all = absurd (omega arith)
symbols_packed (a ∷ b ∷ c ∷ d ∷ []) long all = absurd (omega arith)
symbols_packed (a ∷ b ∷ c ∷ d ∷ e ∷ []) long all = absurd (omega arith)
symbols_packed (a ∷ b ∷ c ∷ d ∷ e ∷ f ∷ []) long all = absurd (omega arith)
symbols_packed (a ∷ b ∷ c ∷ d ∷ e ∷ f ∷ g ∷ []) long all = absurd (omega arith)
symbols_packed (a ∷ b ∷ c ∷ d ∷ e ∷ f ∷ g ∷ h ∷ []) long (p, (q, (r, (s, (t, (u, (v, (w, _)))))))) =
    parted a b c d e f g h (packed (a ∷ b ∷ c ∷ d ∷ e ∷ f ∷ g ∷ h ∷ [])) p q r s t u v w (omega arith)
symbols_packed (a ∷ b ∷ c ∷ d ∷ e ∷ f ∷ g ∷ h ∷ i ∷ xs) long all = absurd (omega arith)
