-- The symbols of a word: its eight digits to the base 64, the highest first.
--   symbols_of x   the symbols of the word x
--   packed xs     the word that symbols make, each of them taken modulo 64
--   RoundTrips    parting and packing undo each other
use Rattle.std.specs.Prelude.{◌≡◌, ℕ, ◌+◌, ◌*◌, ◌/◌, ◌%◌, ◌^◌, ◌<◌, List, [], ◌∷◌, length, fold}
use Rattle.std.specs.List.{AllByRecursion}

abbrev pub symbols_of : ℕ → List ℕ
symbols_of x =
    x / 2 ^ 42 % 64 ∷ x / 2 ^ 36 % 64 ∷ x / 2 ^ 30 % 64 ∷ x / 2 ^ 24 % 64
    ∷ x / 2 ^ 18 % 64 ∷ x / 2 ^ 12 % 64 ∷ x / 2 ^ 6 % 64 ∷ x % 64 ∷ []

abbrev pub packed : List ℕ → ℕ
packed xs = fold (λ a s. a * 64 + s % 64) 0 xs

pub record RoundTrips : Type 0 where
  pub word : (x : ℕ) → x < 2 ^ 48 → packed (symbols_of x) ≡ x
  pub symbols : (xs : List ℕ) → length xs ≡ 8 → AllByRecursion (λ s. s < 64) xs → symbols_of (packed xs) ≡ xs
