-- Jumps: what each leaves. The place is already that of the next order.
use Rattle.std.specs.Prelude.{false, not, ℕ, ◌+◌, ◌*◌, ◌%◌, ◌^◌, eqb, pos, length}
use Rattle.std.specs.Int.Signed.{lt_z, le_z}
use Rattle.order.specs.declared.code.Condition.{Condition}
use Rattle.order.specs.declared.code.Condition.TheVariants.{Always, ToSubroutine, IfZero, IfNotZero, IfNegative, IfNotNegative, IfPositive, IfNotPositive, IfNestEmpty, IfNestNotEmpty, IfLinksEmpty, IfLinksNotEmpty, IfTest, IfNotTest, IfOverflow, IfNotOverflow}
use Rattle.order.specs.declared.code.CountTest.{CountTest}
use Rattle.order.specs.declared.code.CountTest.TheVariants as count
use Rattle.registers.specs.Registers.{Regs, N1, signed_n1, link, q_of, pop, push_link, pop_link, with_test, with_overflow, with_place, go_if}

-- 43 EXIT: three syllables to a half word
abbrev pub exited : ℕ → Regs → Regs
exited h r = with_place ((link r + 3 * h) % 2 ^ 16) (pop_link r)

-- 50 J, 51 JS; 52 J=Z, 53 J#Z, 54 J<Z, 55 J>=Z, 56 J>Z, 57 J<=Z; 58 JEN, 59 JNEN, 5A JEJ, 5B JNEJ; 5C JTR, 5D JNTR, 5E JV, 5F JNV
abbrev pub jumped : Condition → ℕ → Regs → Regs
jumped Always a r = with_place a r
jumped ToSubroutine a r = with_place a (push_link r.place r)
jumped IfZero a r = go_if (eqb (N1 r) 0) a (pop r)
jumped IfNotZero a r = go_if (not (eqb (N1 r) 0)) a (pop r)
jumped IfNegative a r = go_if (lt_z (signed_n1 r) (pos 0)) a (pop r)
jumped IfNotNegative a r = go_if (le_z (pos 0) (signed_n1 r)) a (pop r)
jumped IfPositive a r = go_if (lt_z (pos 0) (signed_n1 r)) a (pop r)
jumped IfNotPositive a r = go_if (le_z (signed_n1 r) (pos 0)) a (pop r)
jumped IfNestEmpty a r = go_if (eqb (length r.nest) 0) a r
jumped IfNestNotEmpty a r = go_if (not (eqb (length r.nest) 0)) a r
jumped IfLinksEmpty a r = go_if (eqb (length r.links) 0) a r
jumped IfLinksNotEmpty a r = go_if (not (eqb (length r.links) 0)) a r
jumped IfTest a r = go_if r.test a (with_test false r)
jumped IfNotTest a r = go_if (not r.test) a (with_test false r)
jumped IfOverflow a r = go_if r.overflow a (with_overflow false r)
jumped IfNotOverflow a r = go_if (not r.overflow) a (with_overflow false r)

-- 68 JCZ, 69 JCNZ
abbrev pub jumped_on_count : CountTest → ℕ → ℕ → Regs → Regs
jumped_on_count count.IfZero q a r = go_if (eqb (q_of q r).c 0) a r
jumped_on_count count.IfNotZero q a r = go_if (not (eqb (q_of q r).c 0)) a r
