-- The bytes of an order: how many there are, and that each q and k among its operands is at most 15.
use Rattle.std.specs.Prelude.{ℕ, ◌<◌}
use Rattle.order.specs.declared.code.RegisterOrder.{RegisterOrder}
use Rattle.order.specs.declared.code.RegisterOrder.TheVariants.{Move, Unary, Binary, Control, Q, ShiftByCount, ShiftBy, Exit, Jump, Set, JumpCount, Copy}
use Rattle.order.specs.declared.code.Order.{Order}
use Rattle.order.specs.declared.code.Order.TheVariants.{Register, Store, Indexed, Transfer, Out}

abbrev pub register_length : RegisterOrder → ℕ
register_length (Move o) = 1
register_length (Unary o) = 1
register_length (Binary o) = 1
register_length (Control o) = 1
register_length (Q o q) = 2
register_length (ShiftByCount s q) = 2
register_length (ShiftBy s n) = 2
register_length (Exit h) = 2
register_length (Jump c a) = 3
register_length (Set i) = 3
register_length (JumpCount t q a) = 4
register_length (Copy p k q) = 3

-- the bytes of an order, its command among them
abbrev pub order_length : Order → ℕ
order_length (Register o) = register_length o
order_length (Store o q e) = 4
order_length (Indexed o k q) = 3
order_length (Transfer o q) = 2
order_length Out = 1

abbrev pub RegisterWithin : RegisterOrder → Type 0
RegisterWithin (Move o) = Unit {0}
RegisterWithin (Unary o) = Unit {0}
RegisterWithin (Binary o) = Unit {0}
RegisterWithin (Control o) = Unit {0}
RegisterWithin (Q o q) = q < 16
RegisterWithin (ShiftByCount s q) = q < 16
RegisterWithin (ShiftBy s n) = Unit {0}
RegisterWithin (Exit h) = Unit {0}
RegisterWithin (Jump c a) = Unit {0}
RegisterWithin (Set i) = Unit {0}
RegisterWithin (JumpCount t q a) = q < 16
RegisterWithin (Copy p k q) = (k < 16) × (q < 16)

-- the Qs that an order names are Q0 to Q15
abbrev pub Within : Order → Type 0
Within (Register o) = RegisterWithin o
Within (Store o q e) = q < 16
Within (Indexed o k q) = (k < 16) × (q < 16)
Within (Transfer o q) = q < 16
Within Out = Unit {0}
