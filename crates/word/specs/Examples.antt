-- Worked examples, on the definitions that the contracts cite.
use Rattle.std.specs.Prelude.{◌≡◌, ◌-◌, ◌^◌, true, false, pos, negsuc, neg_ℤ, Some}
use Rattle.word.specs.Wrap.{wrap, signed, outside, sign}
use Rattle.word.specs.Shift.{arithmetic, cyclic_within}

pub record Examples : Type 0 where
  -- NEG of -2^47 gives -2^47, and overflows
  pub neg_lowest : wrap 48 (neg_ℤ (signed 48 (2 ^ 47))) ≡ 2 ^ 47
  pub neg_lowest_overflows : outside 48 (neg_ℤ (signed 48 (2 ^ 47))) ≡ true
  -- SIGN of the words of -1 and 0
  pub sign_below : wrap 48 (sign (signed 48 (2 ^ 48 - 1)) (signed 48 0)) ≡ 281474976710655
  -- SHA -1 of 3 gives 2, and of the word of -3 the word of -1; neither overflows
  pub halved : wrap 48 (arithmetic (negsuc 0) (signed 48 3)) ≡ 2
  pub halved_stays : outside 48 (arithmetic (negsuc 0) (signed 48 3)) ≡ false
  pub halved_below : wrap 48 (arithmetic (negsuc 0) (signed 48 (2 ^ 48 - 3))) ≡ 2 ^ 48 - 1
  pub halved_below_stays : outside 48 (arithmetic (negsuc 0) (signed 48 (2 ^ 48 - 3))) ≡ false
  -- SHC 1 of 2^47 gives 1
  pub cycled : cyclic_within 48 (pos 1) (2 ^ 47) ≡ Some 1
