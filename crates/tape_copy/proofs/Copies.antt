-- A copy read again: the frame of each symbol is read as that symbol.
use Rattle.std.proofs.Common.{◌≡◌, ℕ, suc, ◌%◌, ◌<◌, [], ◌∷◌, refl, ap, ◌∙◌, ap₂, arith}
use Rattle.units.specs.Frames.{cell_of, frame_for}
use Rattle.units.proofs.Frames as frames
use Rattle.tape_copy.specs.Copying.{CopiesReadBack}

one : (s : ℕ) → s < 64 → cell_of (frame_for (s % 64)) ≡ s
one s h = let same : s % 64 ≡ s = omega arith in ap (λ t. cell_of (frame_for t)) same ∙ (frames.read_back s h).back

pub read_back : CopiesReadBack
read_back [] small = refl
read_back (s ∷ ss) small = ap₂ ◌∷◌ (one s (small 0)) (read_back ss (λ k. small (suc k)))
