-- The cells of nest and links that an order needs, and those that it leaves in their place: by groups, and of any order.
use Rattle.std.specs.Prelude.{ℕ}
use Rattle.order.specs.declared.code.MoveOrder.{MoveOrder}
use Rattle.order.specs.declared.code.MoveOrder.TheVariants.{Zero, Dup, Erase, Rev, Perm, Cab}
use Rattle.order.specs.declared.code.ControlOrder.{ControlOrder}
use Rattle.order.specs.declared.code.ControlOrder.TheVariants.{Dummy, ClearOverflow, ToTest, FromLink, ToLink}
use Rattle.order.specs.declared.code.QOrder.{QOrder}
use Rattle.order.specs.declared.code.QOrder.TheVariants.{Advance, Retreat, NegateCount, CountDown, SetOne, SetMinusOne, SetTwo, SetMinusTwo, PushQ, PushC, PushI, PushM, TakeQ, TakeC, TakeI, TakeM, ResetC, ResetI, ResetM}
use Rattle.order.specs.declared.code.Condition.{Condition}
use Rattle.order.specs.declared.code.Condition.TheVariants.{Always, ToSubroutine, IfZero, IfNotZero, IfNegative, IfNotNegative, IfPositive, IfNotPositive, IfNestEmpty, IfNestNotEmpty, IfLinksEmpty, IfLinksNotEmpty, IfTest, IfNotTest, IfOverflow, IfNotOverflow}
use Rattle.order.specs.declared.code.StoreOrder.{StoreOrder}
use Rattle.order.specs.declared.code.StoreOrder.TheVariants as store
use Rattle.order.specs.declared.code.IndexedOrder.{IndexedOrder}
use Rattle.order.specs.declared.code.IndexedOrder.TheVariants as indexed
use Rattle.order.specs.declared.code.RegisterOrder.{RegisterOrder}
use Rattle.order.specs.declared.code.RegisterOrder.TheVariants.{Move, Unary, Binary, Control, Q, ShiftByCount, ShiftBy, Exit, Jump, Set, JumpCount, Copy}
use Rattle.order.specs.declared.code.Order.{Order}
use Rattle.order.specs.declared.code.Order.TheVariants.{Register, Store, Indexed, Transfer, Out}

-- cells that have to be there, and cells that stand in their place after: of the nest, and of the links
pub record Cells : Type 0 where
  pub nest_needed : ℕ
  pub nest_left : ℕ
  pub links_needed : ℕ
  pub links_left : ℕ

-- on nest and links
abbrev pub nest_links : ℕ → ℕ → ℕ → ℕ → Cells
nest_links needed left links_needed links_left =
    record { nest_needed = needed; nest_left = left; links_needed = links_needed; links_left = links_left }

-- on the nest alone
abbrev pub nest : ℕ → ℕ → Cells
nest needed left = nest_links needed left 0 0

abbrev pub move_cells : MoveOrder → Cells
move_cells Zero = nest 0 1
move_cells Dup = nest 1 2
move_cells Erase = nest 1 0
move_cells Rev = nest 2 2
move_cells Perm = nest 3 3
move_cells Cab = nest 3 3

-- N1 is replaced, by a shift too
abbrev pub unary_cells : Cells
unary_cells = nest 1 1

abbrev pub binary_cells : Cells
binary_cells = nest 2 1

abbrev pub control_cells : ControlOrder → Cells
control_cells Dummy = nest 0 0
control_cells ClearOverflow = nest 0 0
control_cells ToTest = nest 1 0
control_cells FromLink = nest_links 0 1 1 0
control_cells ToLink = nest_links 1 0 0 1

abbrev pub q_cells : QOrder → Cells
q_cells Advance = nest 0 0
q_cells Retreat = nest 0 0
q_cells NegateCount = nest 0 0
q_cells CountDown = nest 0 0
q_cells SetOne = nest 0 0
q_cells SetMinusOne = nest 0 0
q_cells SetTwo = nest 0 0
q_cells SetMinusTwo = nest 0 0
q_cells PushQ = nest 0 1
q_cells PushC = nest 0 1
q_cells PushI = nest 0 1
q_cells PushM = nest 0 1
q_cells TakeQ = nest 1 0
q_cells TakeC = nest 1 0
q_cells TakeI = nest 1 0
q_cells TakeM = nest 1 0
q_cells ResetC = nest 1 0
q_cells ResetI = nest 1 0
q_cells ResetM = nest 1 0

abbrev pub exit_cells : Cells
exit_cells = nest_links 0 0 1 0

abbrev pub jump_cells : Condition → Cells
jump_cells Always = nest 0 0
jump_cells ToSubroutine = nest_links 0 0 0 1
jump_cells IfZero = nest 1 0
jump_cells IfNotZero = nest 1 0
jump_cells IfNegative = nest 1 0
jump_cells IfNotNegative = nest 1 0
jump_cells IfPositive = nest 1 0
jump_cells IfNotPositive = nest 1 0
jump_cells IfNestEmpty = nest 0 0
jump_cells IfNestNotEmpty = nest 0 0
jump_cells IfLinksEmpty = nest 0 0
jump_cells IfLinksNotEmpty = nest 0 0
jump_cells IfTest = nest 0 0
jump_cells IfNotTest = nest 0 0
jump_cells IfOverflow = nest 0 0
jump_cells IfNotOverflow = nest 0 0

abbrev pub register_cells : RegisterOrder → Cells
register_cells (Move o) = move_cells o
register_cells (Unary o) = unary_cells
register_cells (Binary o) = binary_cells
register_cells (Control o) = control_cells o
register_cells (Q o q) = q_cells o
register_cells (ShiftByCount s q) = unary_cells
register_cells (ShiftBy s n) = unary_cells
register_cells (Exit h) = exit_cells
register_cells (Jump c a) = jump_cells c
register_cells (Set i) = nest 0 1
register_cells (JumpCount t q a) = nest 0 0
register_cells (Copy p k q) = nest 0 0

abbrev pub store_cells : StoreOrder → Cells
store_cells store.Fetch = nest 0 1
store_cells store.FetchStep = nest 0 1
store_cells store.Put = nest 1 0
store_cells store.PutStep = nest 1 0

abbrev pub indexed_cells : IndexedOrder → Cells
indexed_cells indexed.Fetch = nest 0 1
indexed_cells indexed.Put = nest 1 0
indexed_cells indexed.FetchStep = nest 0 1
indexed_cells indexed.PutStep = nest 1 0
indexed_cells indexed.FetchHalf = nest 0 1
indexed_cells indexed.PutHalf = nest 1 0

abbrev pub transfer_cells : Cells
transfer_cells = nest 0 0

abbrev pub out_cells : Cells
out_cells = nest 1 0

-- of any order
abbrev pub cells : Order → Cells
cells (Register o) = register_cells o
cells (Store o q e) = store_cells o
cells (Indexed o k q) = indexed_cells o
cells (Transfer o q) = transfer_cells
cells Out = out_cells
