-- The symbols of a word, as a transfer moves them and as a word is packed and parted: the same.
use Rattle.std.specs.Prelude.{◌≡◌, ℕ, ◌<◌, [], ◌∷◌}
use Rattle.word.specs.Symbols.{symbols_of, packed as word_packed}
use Rattle.transfer.specs.Symbols.{packed, unpacked}

pub record SymbolsAgree : Type 0 where
  pub parted : (x : ℕ) → unpacked 8 x ≡ symbols_of x
  pub joined : (a b c d e f g h : ℕ) → a < 64 → b < 64 → c < 64 → d < 64 → e < 64 → f < 64 → g < 64 → h < 64 →
      packed 8 (a ∷ b ∷ c ∷ d ∷ e ∷ f ∷ g ∷ h ∷ []) ≡ word_packed (a ∷ b ∷ c ∷ d ∷ e ∷ f ∷ g ∷ h ∷ [])
