-- Moves of words on the nest: what each order leaves.
use Rattle.std.specs.Prelude.{◌∷◌, drop}
use Rattle.order.specs.declared.code.MoveOrder.{MoveOrder}
use Rattle.order.specs.declared.code.MoveOrder.TheVariants.{Zero, Dup, Erase, Rev, Perm, Cab}
use Rattle.registers.specs.Registers.{Regs, N1, N2, N3, push, pop, with_nest}

-- 01 ZERO, 02 DUP, 03 ERASE, 04 REV, 05 PERM, 06 CAB
abbrev pub moved : MoveOrder → Regs → Regs
moved Zero r = push 0 r
moved Dup r = push (N1 r) r
moved Erase r = pop r
moved Rev r = with_nest (N2 r ∷ N1 r ∷ drop 2 r.nest) r
moved Perm r = with_nest (N2 r ∷ N3 r ∷ N1 r ∷ drop 3 r.nest) r
moved Cab r = with_nest (N3 r ∷ N1 r ∷ N2 r ∷ drop 3 r.nest) r
