-- The frame of a symbol read back, by one test that antt computes over the 64 symbols.
use Rattle.std.proofs.Common.{◌≡◌, ℕ, zero, suc, ◌<◌, Bool, true, ◌&&◌, eqb, ltb, refl, ap, ◌∙◌, ⊎_elim, arith}
use lib.Count.{ones, ones_in}
use Rattle.std.proofs.lemmas.Bool.{and_parts, ltb-true, eqb-true, cases_eq}
use Rattle.units.specs.Frames.{sound_frame, cell_of, frame_for}
use Rattle.units.specs.Examples.{FramesReadBack}

-- whether a symbol's frame is a byte, sound, and read as that symbol
unfoldable reads_back : ℕ → Bool
reads_back s = ltb (frame_for s) 256 && (sound_frame (frame_for s) && eqb (cell_of (frame_for s)) s)

-- of each symbol below n
unfoldable all_back : ℕ → Bool
all_back zero = true
all_back (suc n) = reads_back n && all_back n

computed : all_back 64 ≡ true
unfolding all_back reads_back sound_frame ones ones_in
computed = refl

each : (n s : ℕ) → all_back n ≡ true → s < n → reads_back s ≡ true
unfolding all_back
each zero s e h = absurd (omega arith)
each (suc n) s e h =
    let both = and_parts (reads_back n) (all_back n) e in
    ⊎_elim (λ (p : s ≡ n). ap reads_back p ∙ both.0) (λ d. each n s both.1 (omega arith)) (cases_eq s n)

pub read_back : FramesReadBack
unfolding reads_back
read_back s h =
    let both = and_parts (ltb (frame_for s) 256) _ (each 64 s computed h) in
    let rest = and_parts (sound_frame (frame_for s)) _ both.1 in
    record { byte = ltb-true _ _ both.0; sound = rest.0; back = eqb-true _ _ rest.1 }
