-- Copies of the named parts of one Q to another: what each leaves.
use Rattle.std.specs.Prelude.{ℕ}
use Rattle.word.specs.declared.q.Q.{Q}
use Rattle.word.specs.Qs.{parts}
use Rattle.order.specs.declared.code.Parts.{Parts}
use Rattle.order.specs.declared.code.Parts.TheVariants as part
use Rattle.registers.specs.Registers.{Regs, q_of, put_q}

-- the parts of `from`, over those of `to`
abbrev pub copy : Parts → Q → Q → Q
copy part.M from to = parts to.c to.i from.m
copy part.I from to = parts to.c from.i to.m
copy part.Im from to = parts to.c from.i from.m
copy part.C from to = parts from.c to.i to.m
copy part.Cm from to = parts from.c to.i from.m
copy part.Ci from to = parts from.c from.i to.m
copy part.Q from to = from

-- 80 MTO, 81 ITO, 82 IMTO, 83 CTO, 84 CMTO, 85 CITO, 86 QTO: of k, to q
abbrev pub copied : Parts → ℕ → ℕ → Regs → Regs
copied p k q r = put_q q (copy p (q_of k r) (q_of q r)) r
