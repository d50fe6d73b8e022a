-- Orders that replace N1, or N2 and N1, by one word: what each leaves.
use Rattle.std.specs.Int.Bits.{bit_and, bit_or, bit_xor}
use Rattle.std.specs.Int.Count.{ones}
use Rattle.std.specs.Prelude.{neg_ℤ, ◌+ℤ◌, ◌-ℤ◌}
use Rattle.word.specs.Wrap.{wrap, sign, magnitude}
use Rattle.word.specs.Places.{inverted}
use Rattle.order.specs.declared.code.UnaryOrder.{UnaryOrder}
use Rattle.order.specs.declared.code.UnaryOrder.TheVariants.{Neg, Abs, Not, Bits}
use Rattle.order.specs.declared.code.BinaryOrder.{BinaryOrder}
use Rattle.order.specs.declared.code.BinaryOrder.TheVariants.{Add, Subtract, Sign, And, Either, Nev}
use Rattle.registers.specs.Registers.{Regs, N1, N2, signed_n1, signed_n2, push, pop, push_number}

-- 07 +, 08 -, 0B SIGN, 0D AND, 0E OR, 0F NEV
abbrev pub combined : BinaryOrder → Regs → Regs
combined Add r = push_number (signed_n2 r +ℤ signed_n1 r) (pop (pop r))
combined Subtract r = push_number (signed_n2 r -ℤ signed_n1 r) (pop (pop r))
combined Sign r = push (wrap 48 (sign (signed_n2 r) (signed_n1 r))) (pop (pop r))
combined And r = push (bit_and (N2 r) (N1 r)) (pop (pop r))
combined Either r = push (bit_or (N2 r) (N1 r)) (pop (pop r))
combined Nev r = push (bit_xor (N2 r) (N1 r)) (pop (pop r))

-- 09 NEG, 0A ABS, 0C NOT, 10 BITS
abbrev pub replaced : UnaryOrder → Regs → Regs
replaced Neg r = push_number (neg_ℤ (signed_n1 r)) (pop r)
replaced Abs r = push_number (magnitude (signed_n1 r)) (pop r)
replaced Not r = push (inverted 48 (N1 r)) (pop r)
replaced Bits r = push (ones (N1 r)) (pop r)
