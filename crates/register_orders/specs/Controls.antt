-- Orders on V, T and the links: what each leaves.
use Rattle.std.specs.Prelude.{false, ◌^◌, leb}
use Rattle.word.specs.Qs.{word_part}
use Rattle.order.specs.declared.code.ControlOrder.{ControlOrder}
use Rattle.order.specs.declared.code.ControlOrder.TheVariants.{Dummy, ClearOverflow, ToTest, FromLink, ToLink}
use Rattle.registers.specs.Registers.{Regs, N1, link, push, pop, push_link, pop_link, with_test, with_overflow}

-- 11 DUMMY, 12 VR, 13 =TR, 14 LINK, 15 =LINK; D0 is the bit of value 2^47
abbrev pub controlled : ControlOrder → Regs → Regs
controlled Dummy r = r
controlled ClearOverflow r = with_overflow false r
controlled ToTest r = with_test (leb (2 ^ 47) (N1 r)) (pop r)
controlled FromLink r = push (link r) (pop_link r)
controlled ToLink r = push_link (word_part (N1 r)) (pop r)
