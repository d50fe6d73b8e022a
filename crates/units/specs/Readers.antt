-- A tape reader, whose cells are made of the frames of a tape, holds what every device holds. Assumes nothing.
use Rattle.std.specs.Prelude.{ℕ, ◌%◌, ◌<◌, ◌≤◌, List, [], ◌∷◌, map, length}
use Rattle.std.proofs.Common.{zero, suc, arith}
use Rattle.std.proofs.lemmas.List.{length-map}
use Rattle.std.proofs.lemmas.Nat.{mod_below}
use Rattle.std.proofs.lemmas.Bool.{cond_both}
use Rattle.device.specs.Meaning.{Below, Sound}
use Rattle.units.specs.Frames.{sound_frame, cell_of}
use Rattle.units.specs.Units.{reader_of}

-- whatever the frame is
pub cell_below : (frame : ℕ) → cell_of frame < 65
cell_below frame =
    let m = mod_below frame 64 (omega arith) in
    cond_both (sound_frame frame) (frame % 64) 64 (λ cell. cell < 65) (λ _. omega arith) (λ _. omega arith)

cells_below : (frames : List ℕ) → Below 65 (map cell_of frames)
cells_below [] k = omega arith
cells_below (frame ∷ frames) zero = cell_below frame
cells_below (frame ∷ frames) (suc k) = cells_below frames k

pub reader_sound : (frames : List ℕ) (head : ℕ) → head ≤ length frames → length frames ≤ 4096 → Sound (reader_of (map cell_of frames) head)
reader_sound frames head within few = record {
  cells_small = cells_below frames;
  head_within = rw (length-map frames cell_of) within;
  cells_fit = rw (length-map frames cell_of) few;
  capacity_small = omega arith;
}
