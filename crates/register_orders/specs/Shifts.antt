-- Shifts of N1: what each leaves, and the lengths that it takes. Plus is left.
--   shifted       what a shift by a length leaves
--   from_to       a length from so far right to so far left
--   length_fits   of an order that takes lengths from so far right to so far left; a cyclic shift turns by at most 48
--   shift_fits    whether an order's length is one that it takes; an order that is no shift has none
use Rattle.std.specs.Prelude.{Bool, true, ◌&&◌, ℤ, pos, neg_ℤ}
use Rattle.std.specs.Int.Signed.{le_z}
use Rattle.word.specs.Wrap.{signed}
use Rattle.word.specs.Shift.{logical, arithmetic, cyclic}
use Rattle.order.specs.declared.code.Shift.{Shift}
use Rattle.order.specs.declared.code.Shift.TheVariants.{Arithmetic, Logical, Cyclic}
use Rattle.order.specs.declared.code.RegisterOrder.{RegisterOrder}
use Rattle.order.specs.declared.code.RegisterOrder.TheVariants.{Move, Unary, Binary, Control, Q, ShiftByCount, ShiftBy, Exit, Jump, Set, JumpCount, Copy}
use Rattle.registers.specs.Registers.{Regs, N1, signed_n1, q_of, push, pop, push_number}

-- 40 SHA and 33 SHAC, 41 SHL and 34 SHLC, 42 SHC and 35 SHCC
abbrev pub shifted : Shift → ℤ → Regs → Regs
shifted Arithmetic l r = push_number (arithmetic l (signed_n1 r)) (pop r)
shifted Logical l r = push (logical 48 l (N1 r)) (pop r)
shifted Cyclic l r = push (cyclic 48 l (N1 r)) (pop r)

abbrev pub from_to : ℤ → ℤ → ℤ → Bool
from_to low high l = le_z low l && le_z l high

abbrev pub length_fits : Shift → ℤ → ℤ → ℤ → Bool
length_fits Arithmetic low high l = from_to low high l
length_fits Logical low high l = from_to low high l
length_fits Cyclic low high l = from_to (neg_ℤ (pos 48)) (pos 48) l

abbrev pub shift_fits : RegisterOrder → Regs → Bool
shift_fits (Move o) r = true
shift_fits (Unary o) r = true
shift_fits (Binary o) r = true
shift_fits (Control o) r = true
shift_fits (Q o q) r = true
shift_fits (ShiftByCount s q) r = length_fits s (neg_ℤ (pos 96)) (pos 96) (signed 16 (q_of q r).c)
shift_fits (ShiftBy s n) r = length_fits s (neg_ℤ (pos 64)) (pos 63) n
shift_fits (Exit h) r = true
shift_fits (Jump c a) r = true
shift_fits (Set i) r = true
shift_fits (JumpCount t q a) r = true
shift_fits (Copy p k q) r = true
