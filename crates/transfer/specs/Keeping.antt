-- A drum keeps what is written on it.
use Rattle.std.specs.Prelude.{◌≡◌, ℕ, ◌+◌, ◌%◌, ◌^◌, ◌<◌, ◌≤◌, true, false, ◌⊎◌, List, [], ◌∷◌, ◌++◌, length, Some, None, Ok, Option, slice_index}
use Rattle.device.specs.Meaning.{Meaning, Sound}
use Rattle.transfer.specs.declared.moves.Transfer.{Transfer}
use Rattle.transfer.specs.declared.moves.Transfer.TheVariants.{Read, Write, Seek}
use Rattle.transfer.specs.declared.moves.Move.{Move}
use Rattle.transfer.specs.Moves.{effect}

-- a drum reads, seeks and writes, and all its cells are there
pub record Drum (m : Meaning) : Type 0 where
  pub reading : m.reads ≡ true
  pub seeking : m.seeks ≡ true
  pub taking : m.writing ≡ Ok tt
  pub all_there : length m.cells ≡ m.capacity

-- a seek of cell c; a write and a read of the one word at address a
abbrev pub seek_of : ℕ → Move
seek_of c = record { transfer = Seek; i = 0; m = c }

abbrev pub write_of : ℕ → Move
write_of a = record { transfer = Write false; i = a; m = a }

abbrev pub read_of : ℕ → Move
read_of a = record { transfer = Read false; i = a; m = a }

-- the device after the word at address a of an area was written from cell c on
abbrev pub written : ℕ → ℕ → List ℕ → Option Meaning → Option Meaning
written c a area d = (effect (write_of a) area (effect (seek_of c) area d).device).device

-- the area after the word at its address b was read from cell c on
abbrev pub read_back : ℕ → ℕ → List ℕ → Option Meaning → List ℕ
read_back c b area d = (effect (read_of b) area (effect (seek_of c) area d).device).area

-- each cell that a write changes, from the head on as many as symbols are moved, lies outside the eight cells from c on
abbrev pub Passes : ℕ → ℕ → ℕ → Type 0
Passes c head moved = (k : ℕ) → head ≤ k → k < head + moved → (k < c) ⊎ (c + 8 ≤ k)

-- a move that changes none of the eight cells from c on
abbrev pub Spares : ℕ → Transfer → ℕ → Option Meaning → Type 0
Spares c (Write ends) moved (Some m) = Passes c m.head moved
Spares c (Write ends) moved None = Unit {0}
Spares c (Read ends) moved d = Unit {0}
Spares c Seek moved d = Unit {0}

-- moves on one device one after another, each with the area as it is then: the device after them
unfoldable pub follow : List (Move × List ℕ) → Option Meaning → Option Meaning
follow [] d = d
follow (x ∷ xs) d = follow xs (effect x.0 x.1 d).device

-- none of them changes one of the eight cells from c on
unfoldable pub Spared : ℕ → List (Move × List ℕ) → Option Meaning → Type 0
Spared c [] d = Unit {0}
Spared c (x ∷ xs) d = Spares c x.0.transfer (effect x.0 x.1 d).moved d × Spared c xs (effect x.0 x.1 d).device

-- A word that is written on a drum is what is read there, modulo 2 ^ 48, whatever moves come between that change none of
-- its eight cells, and whatever becomes of the area meanwhile.
abbrev pub DrumKeeps : Type 0
DrumKeeps =
    (m : Meaning) → Sound m → Drum m → (c : ℕ) → c + 8 ≤ length m.cells
    → (area : List ℕ) (a : ℕ) → a < length area
    → (between : List (Move × List ℕ)) → Spared c between (written c a area (Some m))
    → (area' : List ℕ) (b : ℕ) → b < length area'
    → slice_index (read_back c b area' (follow between (written c a area (Some m)))) b ≡ slice_index area a % 2 ^ 48

-- moves made one after another, each with the area that it finds
unfoldable pub found : List Move → List ℕ → Option Meaning → List (Move × List ℕ)
found [] area d = []
found (x ∷ xs) area d = (x, area) ∷ found xs (effect x area d).area (effect x area d).device

-- moves that write the word at address a from cell c of a drum on, spare these cells, and read them into the word at
-- address b, bring the first word, modulo 2 ^ 48, to the place of the second
abbrev pub Keeps : List Move → Option Meaning → List ℕ → List ℕ → Type 0
Keeps moves d area area' =
    (m : Meaning) → d ≡ Some m → Drum m → (c : ℕ) → c + 8 ≤ length m.cells
    → (a b : ℕ) → a < length area → b < length area
    → (between : List Move) → moves ≡ seek_of c ∷ write_of a ∷ (between ++ (seek_of c ∷ read_of b ∷ []))
    → Spared c (found between area (written c a area (Some m))) (written c a area (Some m))
    → slice_index area' b ≡ slice_index area a % 2 ^ 48
