-- Frames of paper tape, and the cells that they make.
--
-- sound_frame    whether a byte is a sound frame: bit 6, of value 64, clear, and an even number of ones
-- cell_of        the cell that a frame makes: its low six bits, or 64 for a damaged one
-- cell_number    a cell that is a symbol or none, as such a number
-- frame_for      the sound frame of a symbol: the symbol, with bit 7 set where that makes the number of ones even
use Rattle.std.specs.Prelude.{ℕ, ◌+◌, ◌*◌, ◌/◌, ◌%◌, Bool, cond, ◌&&◌, Some, None, Option, ◌==◌, count_ones}

unfoldable pub sound_frame : ℕ → Bool
sound_frame frame = frame / 64 % 2 == 0 && count_ones frame % 2 == 0

abbrev pub cell_of : ℕ → ℕ
cell_of frame = cond (sound_frame frame) (frame % 64) 64

-- a cell by its number: a symbol, or 64 where there is none
abbrev pub cell_number : Option ℕ → ℕ
cell_number None = 64
cell_number (Some symbol) = symbol

abbrev pub frame_for : ℕ → ℕ
frame_for symbol = symbol + 128 * (count_ones symbol % 2)
