-- Orders on one Q: what each leaves. On the nest a part is signed; a part is taken from the nest modulo 2^16.
use Rattle.std.specs.Prelude.{ℕ, ◌-◌, ◌^◌}
use Rattle.word.specs.declared.q.Q.{Q}
use Rattle.word.specs.Qs.{parts, with_c, with_i, with_m, advanced, retreated, count_negated, counted_down, joined, split, part_word, word_part}
use Rattle.order.specs.declared.code.QOrder.{QOrder}
use Rattle.order.specs.declared.code.QOrder.TheVariants.{Advance, Retreat, NegateCount, CountDown, SetOne, SetMinusOne, SetTwo, SetMinusTwo, PushQ, PushC, PushI, PushM, TakeQ, TakeC, TakeI, TakeM, ResetC, ResetI, ResetM}
use Rattle.registers.specs.Registers.{Regs, N1, push, pop, q_of, put_q}

-- 0/1/0
abbrev pub reset : Q
reset = parts 0 1 0

-- 20 M+I, 21 M-I, 22 NC, 23 DC; 24 I=1, 25 I=-1, 26 I=2, 27 I=-2; 28 Q, 29 C, 2A I, 2B M; 2C =Q, 2D =C, 2E =I, 2F =M; 30 =RC, 31 =RI, 32 =RM
abbrev pub on_q : QOrder → ℕ → Regs → Regs
on_q Advance q r = put_q q (advanced (q_of q r)) r
on_q Retreat q r = put_q q (retreated (q_of q r)) r
on_q NegateCount q r = put_q q (count_negated (q_of q r)) r
on_q CountDown q r = put_q q (counted_down (q_of q r)) r
on_q SetOne q r = put_q q (with_i 1 (q_of q r)) r
on_q SetMinusOne q r = put_q q (with_i (2 ^ 16 - 1) (q_of q r)) r
on_q SetTwo q r = put_q q (with_i 2 (q_of q r)) r
on_q SetMinusTwo q r = put_q q (with_i (2 ^ 16 - 2) (q_of q r)) r
on_q PushQ q r = push (joined (q_of q r)) r
on_q PushC q r = push (part_word (q_of q r).c) r
on_q PushI q r = push (part_word (q_of q r).i) r
on_q PushM q r = push (part_word (q_of q r).m) r
on_q TakeQ q r = put_q q (split (N1 r)) (pop r)
on_q TakeC q r = put_q q (with_c (word_part (N1 r)) (q_of q r)) (pop r)
on_q TakeI q r = put_q q (with_i (word_part (N1 r)) (q_of q r)) (pop r)
on_q TakeM q r = put_q q (with_m (word_part (N1 r)) (q_of q r)) (pop r)
on_q ResetC q r = put_q q (with_c (word_part (N1 r)) reset) (pop r)
on_q ResetI q r = put_q q (with_i (word_part (N1 r)) reset) (pop r)
on_q ResetM q r = put_q q (with_m (word_part (N1 r)) reset) (pop r)
