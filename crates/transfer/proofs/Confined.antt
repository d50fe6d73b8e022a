-- A move changes only words that it names, and leaves them below 2 ^ 48.
use Rattle.std.proofs.Common.{◌≡◌, ℕ, zero, suc, ◌+◌, ◌*◌, ◌^◌, ◌<◌, ◌≤◌, Bool, ◌⊎◌, List, [], ◌∷◌, get_or, drop, set, IfSome, Some, None, Ok, Option, Result, refl, inr, arith, lit<}
use Prim.Native.String.{String}
use Rattle.std.proofs.lemmas.Nat.{pow_pos}
use Rattle.std.proofs.lemmas.List.{get_or-drop}
use Rattle.std.proofs.lemmas.Bool.Decides.{nat_tests}
use Rattle.std.proofs.lemmas.Grind.{common_steps}
use Rattle.device.specs.Meaning.{Meaning, Below, Sound, read_answer, read_after}
use Rattle.device.specs.Bank.{answer_of, after_of}
use Rattle.transfer.specs.declared.moves.Transfer.{Transfer}
use Rattle.transfer.specs.declared.moves.Transfer.TheVariants.{Read, Write, Seek}
use Rattle.transfer.specs.declared.moves.Move.{Move}
use Rattle.transfer.specs.Symbols.{Run, gather, go_on, packed, stored}
use Rattle.transfer.specs.Moves.{Confined, span, effect_of, effect}
use Rattle.transfer.proofs.Gathering.{read_below, weight}

-- a device that stands there is sound
abbrev pub Fine : Option Meaning → Type 0
Fine d = IfSome d Sound

read_fine : (d : Option Meaning) → Fine d → Fine (after_of read_after d)
read_fine None h = tt
read_fine (Some m) h = record { cells_small = h.cells_small; head_within = grind (arith, nat_tests); cells_fit = h.cells_fit; capacity_small = h.capacity_small }

answer_below : (d : Option Meaning) → Fine d → (s : ℕ) → Ok s ≡ answer_of read_answer d → s < 64
answer_below None h s e = cc
answer_below (Some m) h s e = read_below m h s e

-- the symbols of a run are below 64
below_on : (ends : Bool) (r : Result ℕ String) (d : Option Meaning) (x : Run) → ((s : ℕ) → Ok s ≡ r → s < 64) → Below 64 x.symbols → Below 64 (go_on ends r d x).symbols
below_on ends r d x small h k = grind (arith, nat_tests)

gather_below : (ends : Bool) (k : ℕ) (d : Option Meaning) → Fine d → Below 64 (gather ends k d).symbols
unfolding gather
gather_below ends zero d h i = lit< tt
gather_below ends (suc k) d h i =
    below_on ends (answer_of read_answer d) (after_of read_after d) _ (answer_below d h) (gather_below ends k (after_of read_after d) (read_fine d h)) i

-- a word of k symbols
packed_below : (k : ℕ) (ss : List ℕ) → Below 64 ss → packed k ss < 2 ^ (6 * k)
unfolding packed
packed_below zero ss h = lit< tt
packed_below (suc k) [] h = pow_pos (6 * suc k)
packed_below (suc k) (s ∷ ss) h = omega (arith, weight k s (h 0), packed_below k ss (λ i. h (suc i)))

-- the words into which symbols were read
stored_confined : (n a : ℕ) (ss area : List ℕ) → Below 64 ss → (k : ℕ) → ((a ≤ k) × (k < a + n) × (get_or (stored n a ss area) k 0 < 2 ^ 48)) ⊎ (get_or (stored n a ss area) k 0 ≡ get_or area k 0)
unfolding stored
stored_confined zero a ss area h k = inr refl
stored_confined (suc n) a [] area h k = inr refl
stored_confined (suc n) a (s ∷ ss) area h k =
    let small = packed_below 8 (s ∷ ss) h in
    let on = stored_confined n (a + 1) (drop 8 (s ∷ ss)) (set area a (packed 8 (s ∷ ss))) (λ i. rw (get_or-drop 8 (s ∷ ss) i 0) (h (8 + i))) k in
    grind (arith, common_steps, small, on)

pub confined : (x : Move) (area : List ℕ) (d : Option Meaning) → Fine d → Confined x area (effect x area d).area
confined x area d h a = at x.transfer
  where
    at : (t : Transfer) → ((x.i ≤ a) × (a ≤ x.m) × (get_or (effect_of t x.i x.m area d).area a 0 < 2 ^ 48)) ⊎ (get_or (effect_of t x.i x.m area d).area a 0 ≡ get_or area a 0)
    at (Read ends) =
        let n = span area x.i x.m in
        let run = gather ends (8 * n) d in
        let here = stored_confined n x.i run.symbols area (gather_below ends (8 * n) d h) a in
        grind (arith, nat_tests)
    at (Write ends) = inr refl
    at Seek = inr refl
