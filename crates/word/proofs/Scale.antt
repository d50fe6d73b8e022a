-- When a number of w bits, times 2^k, leaves the range: for every width w.
use Rattle.std.proofs.Common.{◌≡◌, ℕ, suc, ◌-◌, ◌*◌, ◌^◌, ◌<◌, ◌≤◌, not, ◌&&◌, ◌||◌, eqb, ltb, leb, pos, negsuc, ◌*ℤ◌, neg_ℤ, mul-le-mul_right, mul-lt-mul_of_pos_right, arith, pow_pos, pow_mono}
use Rattle.std.specs.Int.Signed.{lt_z, le_z}
use Rattle.std.proofs.lemmas.Grind.{common_steps}
use Rattle.word.specs.Wrap.{signed, outside}
use Rattle.word.proofs.Powers.{factor, double}

leb_scale : (m n s : ℕ) → 0 < s → leb (m * s) (n * s) ≡ leb m n
leb_scale m n s h = grind (arith, common_steps, mul-le-mul_right, mul-lt-mul_of_pos_right)

ltb_scale : (m n s : ℕ) → 0 < s → ltb (m * s) (n * s) ≡ ltb m n
ltb_scale m n s h = grind (arith, common_steps, mul-le-mul_right, mul-lt-mul_of_pos_right)

-- the test of `outside` at a bound h, for n and for -n
out_pos : (h n : ℕ) → 0 < h → (lt_z (pos n) (neg_ℤ (pos h)) || le_z (pos h) (pos n)) ≡ leb h n
out_pos h n p = grind arith

out_neg : (h n : ℕ) → 0 < h → 0 < n → (lt_z (neg_ℤ (pos n)) (neg_ℤ (pos h)) || le_z (pos h) (neg_ℤ (pos n))) ≡ ltb h n
out_neg h n p q = grind arith

module _ (w k x : ℕ) (h : k < w) (below : x < 2 ^ w) where
  scaled_pos : x < 2 ^ (w - 1) → outside w (pos x *ℤ pos (2 ^ k)) ≡ (leb (2 ^ (w - 1 - k)) x && ltb x (2 ^ w - 2 ^ (w - 1 - k)))
  scaled_pos small =
      grind (arith, out_pos (2 ^ (w - 1)) (x * 2 ^ k) (pow_pos (w - 1)), factor (w - 1) k (omega arith), leb_scale (2 ^ (w - 1 - k)) x (2 ^ k) (pow_pos k), double w (omega arith), pow_mono {i = w - 1 - k} {j = w - 1} (omega arith))

  scaled_neg : 2 ^ (w - 1) ≤ x → outside w (negsuc (2 ^ w - 1 - x) *ℤ pos (2 ^ k)) ≡ (leb (2 ^ (w - 1 - k)) x && ltb x (2 ^ w - 2 ^ (w - 1 - k)))
  scaled_neg large =
      let y = suc (2 ^ w - 1 - x) in
      grind (arith, out_neg (2 ^ (w - 1)) (y * 2 ^ k) (pow_pos (w - 1)), factor (w - 1) k (omega arith), ltb_scale (2 ^ (w - 1 - k)) y (2 ^ k) (pow_pos k), double w (omega arith), pow_pos k, pow_mono {i = w - 1 - k} {j = w - 1} (omega arith))

  -- it leaves unless it lies within 2^(w-1-k) of zero
  pub outside_scaled : outside w (signed w x *ℤ pos (2 ^ k)) ≡ (leb (2 ^ (w - 1 - k)) x && ltb x (2 ^ w - 2 ^ (w - 1 - k)))
  outside_scaled = grind (arith, scaled_pos, scaled_neg)

module _ (w k x : ℕ) (some_bits : 0 < w) (h : w ≤ k) (below : x < 2 ^ w) where
  past_pos : leb (2 ^ (w - 1)) (x * 2 ^ k) ≡ not (eqb x 0)
  past_pos = grind (arith, common_steps, pow_pos (w - 1), pow_mono {i = w - 1} {j = k} (omega arith))

  past_neg : 2 ^ (w - 1) ≤ x → outside w (negsuc (2 ^ w - 1 - x) *ℤ pos (2 ^ k)) ≡ not (eqb x 0)
  past_neg large =
      grind (arith, out_neg (2 ^ (w - 1)) (suc (2 ^ w - 1 - x) * 2 ^ k) (pow_pos (w - 1)), double w some_bits, pow_pos (w - 1), pow_mono h, pow_pos k, mul-le-mul_right)

  -- past the width, every number but zero leaves
  pub outside_past : outside w (signed w x *ℤ pos (2 ^ k)) ≡ not (eqb x 0)
  outside_past = grind (arith, out_pos (2 ^ (w - 1)) (x * 2 ^ k) (pow_pos (w - 1)), past_pos, past_neg)
