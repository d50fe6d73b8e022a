-- What moves leave as it was, and moves one after another.
use Rattle.std.proofs.Common.{◌≡◌, ℕ, suc, ◌+◌, ◌<◌, List, [], ◌∷◌, ◌++◌, length, get_or, drop, set, None, Option, refl, ◌∙◌, arith}
use Rattle.std.proofs.lemmas.List.{length-set, drop_more}
use Rattle.device.specs.Meaning.{Meaning}
use Rattle.device.specs.Bank.{Devices}
use Rattle.transfer.specs.declared.moves.Move.{Move}
use Rattle.transfer.specs.Symbols.{stored}
use Rattle.device.specs.Bank.{standing}
use Rattle.transfer.specs.Moves.{Left, effect, in_turn}
use Rattle.device.proofs.Standing.{Beside, standing_set, beside_set}
use Rattle.transfer.proofs.Words.{gather_nothing}
use Rattle.transfer.proofs.Sending.{send_nothing}

-- where nothing stands, nothing stands after a move
pub nothing_after : (x : Move) (area : List ℕ) (d : Option Meaning) → d ≡ None → (effect x area d).device ≡ None
nothing_after x area d e = grind (arith, gather_nothing, send_nothing)

length_stored : (n a : ℕ) (ss area : List ℕ) → length (stored n a ss area) ≡ length area
unfolding stored
length_stored (suc n) a (s ∷ ss) area = grind (arith, length-set, length_stored n (a + 1) (drop 8 (s ∷ ss)))
length_stored n a ss area = refl

-- an area keeps its length
pub effect_length : (x : Move) (area : List ℕ) (d : Option Meaning) → length (effect x area d).area ≡ length area
effect_length x area d = grind (arith, length_stored)

pub in_turn_length : (xs : List Move) (area : List ℕ) (d : Option Meaning) → length (in_turn xs area d).area ≡ length area
unfolding in_turn
in_turn_length [] area d = refl
in_turn_length (x ∷ xs) area d = in_turn_length xs _ _ ∙ effect_length x area d

-- moves, and more moves
pub in_turn_append : (xs ys : List Move) (area : List ℕ) (d : Option Meaning) → in_turn (xs ++ ys) area d ≡ in_turn ys (in_turn xs area d).area (in_turn xs area d).device
unfolding in_turn
in_turn_append [] ys area d = refl
in_turn_append (x ∷ xs) ys area d = in_turn_append xs ys _ _

-- one move more of a list, made on buffer n of a bank: what is left still gives the whole
pub in_turn_more : (n : ℕ) (xs : List Move) (i : ℕ) (x : Move) (b₀ b b' : Devices) (whole : Left) (area area' : List ℕ) → i < length xs →
    area' ≡ (effect (get_or xs i x) area (standing b n)).area → b' ≡ set b n (effect (get_or xs i x) area (standing b n)).device →
    in_turn (drop i xs) area (standing b n) ≡ whole → Beside n b₀ b →
    (in_turn (drop (i + 1) xs) area' (standing b' n) ≡ whole) × Beside n b₀ b'
unfolding in_turn
in_turn_more n xs i x b₀ b b' whole area area' h ea eb left others =
    let then : standing b' n ≡ (effect (get_or xs i x) area (standing b n)).device = standing_set n b _ (nothing_after (get_or xs i x) area (standing b n)) eb in
    (grind (arith, then, drop_more xs i x h), beside_set n b₀ b _ eb others)

pub in_turn_none : (area : List ℕ) (d : Option Meaning) → in_turn [] area d ≡ record { area = area; device = d }
unfolding in_turn
in_turn_none area d = refl
