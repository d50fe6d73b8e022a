-- What a move does to the area of a program and to the device on its buffer.
use Rattle.std.specs.Prelude.{◌≡◌, ℕ, ◌+◌, ◌-◌, ◌*◌, ◌^◌, ◌<◌, ◌≤◌, cond, ◌⊎◌, List, [], ◌∷◌, length, Some, None, Ok, Err, Option, Result, nat_lt, slice_index}
use Prim.Native.String.{String}
use Rattle.device.specs.Meaning.{Meaning, seek_answer, seek_after}
use Rattle.device.specs.Bank.{answer_of, after_of}
use Rattle.transfer.specs.declared.moves.Transfer.{Transfer}
use Rattle.transfer.specs.declared.moves.Transfer.TheVariants.{Read, Write, Seek}
use Rattle.transfer.specs.declared.moves.Move.{Move}
use Rattle.transfer.specs.Symbols.{Run, Sent, gather, send, stored, spread, why}

-- what a move did before it was done or refused: the area and the device then, the symbols moved, and the refusal
pub record Effect : Type 0 where
  pub area : List ℕ
  pub device : Option Meaning
  pub moved : ℕ
  pub refusal : Option String

-- how many words lie from address i to address m; none where m lies outside the area
abbrev pub span : List ℕ → ℕ → ℕ → ℕ
span area i m = cond (nat_lt m (length area)) (m + 1 - i) 0

-- n words of the area, from address i on, into which the symbols of a run were read
abbrev pub read_effect : ℕ → ℕ → List ℕ → Run → Effect
read_effect n i area r = record { area = stored n i r.symbols area; device = r.device; moved = length r.symbols; refusal = why r.stop }

-- a write leaves the area as it is
abbrev pub write_effect : List ℕ → Sent → Effect
write_effect area r = record { area = area; device = r.device; moved = r.moved; refusal = why r.stop }

-- the refusal of a call that answers nothing else
abbrev pub error_of : Result (Unit {0}) String → Option String
error_of (Ok u) = None
error_of (Err e) = Some e

-- a seek moves no symbol
abbrev pub seek_effect : ℕ → List ℕ → Option Meaning → Effect
seek_effect cell area d =
    record {
      area = area;
      device = after_of (λ m. seek_after m cell) d;
      moved = 0;
      refusal = error_of (answer_of (λ m. seek_answer m cell) d);
    }

-- a transfer of the words i to m between an area and a device, or a seek of cell m
abbrev pub effect_of : Transfer → ℕ → ℕ → List ℕ → Option Meaning → Effect
effect_of (Read ends) i m area d = read_effect (span area i m) i area (gather ends (8 * span area i m) d)
effect_of (Write ends) i m area d = write_effect area (send ends (spread (span area i m) i area) d)
effect_of Seek i m area d = seek_effect m area d

abbrev pub effect : Move → List ℕ → Option Meaning → Effect
effect x area d = effect_of x.transfer x.i x.m area d

-- a word that a move changes is one of those from i to m, and is then below 2 ^ 48
abbrev pub Confined : Move → List ℕ → List ℕ → Type 0
Confined x area area' = (a : ℕ) → ((x.i ≤ a) × (a ≤ x.m) × (slice_index area' a < 2 ^ 48)) ⊎ (slice_index area' a ≡ slice_index area a)

-- what moves leave: an area and a device
pub record Left : Type 0 where
  pub area : List ℕ
  pub device : Option Meaning

-- moves one after another, whatever each comes to
unfoldable pub in_turn : List Move → List ℕ → Option Meaning → Left
in_turn [] area d = record { area = area; device = d }
in_turn (x ∷ xs) area d = in_turn xs (effect x area d).area (effect x area d).device
