-- Worked examples of frames, from the definitions that the contracts use.
use Rattle.std.specs.Prelude.{◌≡◌, ℕ, ◌<◌, true, [], ◌∷◌, Ok, Err}
use Rattle.device.specs.Meaning.{read_answer, read_after, head_answer}
use Rattle.device.specs.Bank.{Devices, no_devices, plugged, bank_answer, bank_after}
use Rattle.units.specs.Frames.{cell_of, frame_for, sound_frame}
use Rattle.units.specs.Units.{reader_of, filled}

-- a reader filled with the frames 33 and 189, plugged on buffer 3 above nothing
abbrev pub two_frames : Devices
two_frames = plugged no_devices 3 (filled (33 ∷ 189 ∷ []) (reader_of [] 0))

-- the bank after one read of buffer 3
abbrev pub read_once : Devices → Devices
read_once b = bank_after read_after b 3

-- reading them gives the symbols 33 and 61, with the head at 2, and then "no more", with the head still at 2
pub record TwoFramesRead : Type 0 where
  pub first : bank_answer read_answer two_frames 3 ≡ Ok 33
  pub second : bank_answer read_answer (read_once two_frames) 3 ≡ Ok 61
  pub head : bank_answer head_answer (read_once (read_once two_frames)) 3 ≡ Ok 2
  pub third : bank_answer read_answer (read_once (read_once two_frames)) 3 ≡ Err "no more"
  pub still : read_once (read_once (read_once two_frames)) ≡ read_once (read_once two_frames)

-- the frame that is punched for a symbol is a byte, is sound, and is read as that symbol
pub record FrameReadBack (symbol : ℕ) : Type 0 where
  pub byte : frame_for symbol < 256
  pub sound : sound_frame (frame_for symbol) ≡ true
  pub back : cell_of (frame_for symbol) ≡ symbol

abbrev pub FramesReadBack : Type 0
FramesReadBack = (symbol : ℕ) → symbol < 64 → FrameReadBack symbol
