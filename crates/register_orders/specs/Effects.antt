-- What an order on the registers does. The place is already that of the next order.
use Rattle.word.specs.Wrap.{wrap, signed}
use Rattle.order.specs.declared.code.RegisterOrder.{RegisterOrder}
use Rattle.order.specs.declared.code.RegisterOrder.TheVariants.{Move, Unary, Binary, Control, Q, ShiftByCount, ShiftBy, Exit, Jump, Set, JumpCount, Copy}
use Rattle.registers.specs.Registers.{Regs, q_of, push}
use Rattle.register_orders.specs.Moves.{moved}
use Rattle.register_orders.specs.Sums.{replaced, combined}
use Rattle.register_orders.specs.Controls.{controlled}
use Rattle.register_orders.specs.QOrders.{on_q}
use Rattle.register_orders.specs.Shifts.{shifted}
use Rattle.register_orders.specs.Jumps.{jumped, jumped_on_count, exited}
use Rattle.register_orders.specs.Copies.{copied}

-- a count is a signed length; 60 SET pushes a signed number
abbrev pub effect : RegisterOrder → Regs → Regs
effect (Move o) r = moved o r
effect (Unary o) r = replaced o r
effect (Binary o) r = combined o r
effect (Control o) r = controlled o r
effect (Q o q) r = on_q o q r
effect (ShiftByCount s q) r = shifted s (signed 16 (q_of q r).c) r
effect (ShiftBy s n) r = shifted s n r
effect (Exit h) r = exited h r
effect (Jump c a) r = jumped c a r
effect (Set i) r = push (wrap 48 i) r
effect (JumpCount t q a) r = jumped_on_count t q a r
effect (Copy p k q) r = copied p k q r
