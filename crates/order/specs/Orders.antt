-- The order list: each order once, with its command byte, its name and its operands; and what bytes say by it.
--   Form      the operands that follow a command byte, and the order that they make
--   Line      a line of the list
--   orders    the list
--   form_of   the form of a command byte, if it stands in a line
--   name_of   its name, likewise
--   order_of   what a command byte and the three bytes after it say
use Rattle.std.specs.Prelude.{ℕ, ◌+◌, ◌*◌, Bool, true, cond, ◌&&◌, List, [], ◌∷◌, ℤ, Some, None, Ok, Err, Option, Result, ◌==◌, nat_le}
use Prim.Native.String.{String}
use Rattle.std.specs.Int.{w8, w16}
use Rattle.std.proofs.Common.{to_z}
use Rattle.order.specs.declared.code.MoveOrder.{MoveOrder}
use Rattle.order.specs.declared.code.MoveOrder.TheVariants.{Zero, Dup, Erase, Rev, Perm, Cab}
use Rattle.order.specs.declared.code.UnaryOrder.{UnaryOrder}
use Rattle.order.specs.declared.code.UnaryOrder.TheVariants.{Neg, Abs, Not, Bits}
use Rattle.order.specs.declared.code.BinaryOrder.{BinaryOrder}
use Rattle.order.specs.declared.code.BinaryOrder.TheVariants.{Add, Subtract, Sign, And, Either, Nev}
use Rattle.order.specs.declared.code.ControlOrder.{ControlOrder}
use Rattle.order.specs.declared.code.ControlOrder.TheVariants.{Dummy, ClearOverflow, ToTest, FromLink, ToLink}
use Rattle.order.specs.declared.code.QOrder.{QOrder}
use Rattle.order.specs.declared.code.QOrder.TheVariants.{Advance, Retreat, NegateCount, CountDown, SetOne, SetMinusOne, SetTwo, SetMinusTwo, PushQ, PushC, PushI, PushM, TakeQ, TakeC, TakeI, TakeM, ResetC, ResetI, ResetM}
use Rattle.order.specs.declared.code.Shift.{Shift}
use Rattle.order.specs.declared.code.Shift.TheVariants.{Arithmetic, Logical, Cyclic}
use Rattle.order.specs.declared.code.TransferOrder.{TransferOrder}
use Rattle.order.specs.declared.code.TransferOrder.TheVariants.{Read, ReadToEnd, Write, WriteToEnd, Seek, Busy}
use Rattle.order.specs.declared.code.Condition.{Condition}
use Rattle.order.specs.declared.code.Condition.TheVariants.{Always, ToSubroutine, IfZero, IfNotZero, IfNegative, IfNotNegative, IfPositive, IfNotPositive, IfNestEmpty, IfNestNotEmpty, IfLinksEmpty, IfLinksNotEmpty, IfTest, IfNotTest, IfOverflow, IfNotOverflow}
use Rattle.order.specs.declared.code.CountTest.{CountTest}
use Rattle.order.specs.declared.code.CountTest.TheVariants as test
use Rattle.order.specs.declared.code.StoreOrder.{StoreOrder}
use Rattle.order.specs.declared.code.StoreOrder.TheVariants as at_e
use Rattle.order.specs.declared.code.IndexedOrder.{IndexedOrder}
use Rattle.order.specs.declared.code.IndexedOrder.TheVariants as at_k
use Rattle.order.specs.declared.code.Parts.{Parts}
use Rattle.order.specs.declared.code.Parts.TheVariants as part
use Rattle.order.specs.declared.code.RegisterOrder.TheVariants.{Move, Unary, Binary, Control, Q, ShiftByCount, ShiftBy, Exit, Jump, Set, JumpCount, Copy}
use Rattle.order.specs.declared.code.Order.{Order}
use Rattle.order.specs.declared.code.Order.TheVariants.{Register, Store, Indexed, Transfer, Out}
use Rattle.order.specs.declared.code.Undecoded.{Undecoded}
use Rattle.order.specs.declared.code.Undecoded.TheVariants.{UnknownCommand, Operand}

-- q and k: one byte, 0 to 15; n: one byte, signed; h: one byte; a and e: two bytes; i: two bytes, signed
pub data Form : Type 0 where
  alone : Order → Form
  with_q : (ℕ → Order) → Form
  with_n : (ℤ → Order) → Form
  with_h : (ℕ → Order) → Form
  with_a : (ℕ → Order) → Form
  with_i : (ℤ → Order) → Form
  with_q_a : (ℕ → ℕ → Order) → Form
  with_q_e : (ℕ → ℕ → Order) → Form
  with_k_q : (ℕ → ℕ → Order) → Form

-- the bytes of an order of this form, the command among them
abbrev pub form_length : Form → ℕ
form_length (alone o) = 1
form_length (with_q f) = 2
form_length (with_n f) = 2
form_length (with_h f) = 2
form_length (with_a f) = 3
form_length (with_i f) = 3
form_length (with_q_a f) = 4
form_length (with_q_e f) = 4
form_length (with_k_q f) = 3

-- whether the bytes x and y that follow pass where they are q or k
abbrev pub fit : Form → ℕ → ℕ → Bool
fit (alone o) x y = true
fit (with_q f) x y = nat_le x 15
fit (with_n f) x y = true
fit (with_h f) x y = true
fit (with_a f) x y = true
fit (with_i f) x y = true
fit (with_q_a f) x y = nat_le x 15
fit (with_q_e f) x y = nat_le x 15
fit (with_k_q f) x y = nat_le x 15 && nat_le y 15

-- a number as that of a Q
abbrev pub q_number : ℕ → Result ℕ Undecoded
q_number n = cond (nat_le n 15) (Ok n) (Err Operand)

-- two bytes as one number, the higher byte first
abbrev pub two : ℕ → ℕ → ℕ
two high low = high * 256 + low

-- the order that the bytes x, y and z make
abbrev pub made : Form → ℕ → ℕ → ℕ → Order
made (alone o) x y z = o
made (with_q f) x y z = f x
made (with_n f) x y z = f (to_z w8 x)
made (with_h f) x y z = f x
made (with_a f) x y z = f (two x y)
made (with_i f) x y z = f (to_z w16 (two x y))
made (with_q_a f) x y z = f x (two y z)
made (with_q_e f) x y z = f x (two y z)
made (with_k_q f) x y z = f x y

pub record Line : Type 0 where
  pub command : ℕ
  pub name : String
  pub form : Form

abbrev line : ℕ → String → Form → Line
line c n f = record { command = c; name = n; form = f }

-- the forms of the groups
abbrev pub nest_move : MoveOrder → Form
nest_move o = alone (Register (Move o))

abbrev pub unary : UnaryOrder → Form
unary o = alone (Register (Unary o))

abbrev pub binary : BinaryOrder → Form
binary o = alone (Register (Binary o))

abbrev pub control : ControlOrder → Form
control o = alone (Register (Control o))

abbrev pub on_q : QOrder → Form
on_q o = with_q (λ q. Register (Q o q))

abbrev pub shift_by_c : Shift → Form
shift_by_c s = with_q (λ q. Register (ShiftByCount s q))

abbrev pub transfer : TransferOrder → Form
transfer o = with_q (Transfer o)

abbrev pub shift : Shift → Form
shift s = with_n (λ n. Register (ShiftBy s n))

abbrev pub exit : Form
exit = with_h (λ h. Register (Exit h))

abbrev pub jump : Condition → Form
jump c = with_a (λ a. Register (Jump c a))

abbrev pub set_number : Form
set_number = with_i (λ i. Register (Set i))

abbrev pub jump_count : CountTest → Form
jump_count t = with_q_a (λ q a. Register (JumpCount t q a))

abbrev pub store : StoreOrder → Form
store o = with_q_e (Store o)

abbrev pub indexed : IndexedOrder → Form
indexed o = with_k_q (Indexed o)

abbrev pub copy : Parts → Form
copy p = with_k_q (λ k q. Register (Copy p k q))

abbrev pub orders : List Line
orders =
    line 0x01 "ZERO" (nest_move Zero)
    ∷ line 0x02 "DUP" (nest_move Dup)
    ∷ line 0x03 "ERASE" (nest_move Erase)
    ∷ line 0x04 "REV" (nest_move Rev)
    ∷ line 0x05 "PERM" (nest_move Perm)
    ∷ line 0x06 "CAB" (nest_move Cab)
    ∷ line 0x07 "+" (binary Add)
    ∷ line 0x08 "-" (binary Subtract)
    ∷ line 0x09 "NEG" (unary Neg)
    ∷ line 0x0a "ABS" (unary Abs)
    ∷ line 0x0b "SIGN" (binary Sign)
    ∷ line 0x0c "NOT" (unary Not)
    ∷ line 0x0d "AND" (binary And)
    ∷ line 0x0e "OR" (binary Either)
    ∷ line 0x0f "NEV" (binary Nev)
    ∷ line 0x10 "BITS" (unary Bits)
    ∷ line 0x11 "DUMMY" (control Dummy)
    ∷ line 0x12 "VR" (control ClearOverflow)
    ∷ line 0x13 "=TR" (control ToTest)
    ∷ line 0x14 "LINK" (control FromLink)
    ∷ line 0x15 "=LINK" (control ToLink)
    ∷ line 0x16 "OUT" (alone Out)
    ∷ line 0x20 "M+I" (on_q Advance)
    ∷ line 0x21 "M-I" (on_q Retreat)
    ∷ line 0x22 "NC" (on_q NegateCount)
    ∷ line 0x23 "DC" (on_q CountDown)
    ∷ line 0x24 "I=1" (on_q SetOne)
    ∷ line 0x25 "I=-1" (on_q SetMinusOne)
    ∷ line 0x26 "I=2" (on_q SetTwo)
    ∷ line 0x27 "I=-2" (on_q SetMinusTwo)
    ∷ line 0x28 "Q" (on_q PushQ)
    ∷ line 0x29 "C" (on_q PushC)
    ∷ line 0x2a "I" (on_q PushI)
    ∷ line 0x2b "M" (on_q PushM)
    ∷ line 0x2c "=Q" (on_q TakeQ)
    ∷ line 0x2d "=C" (on_q TakeC)
    ∷ line 0x2e "=I" (on_q TakeI)
    ∷ line 0x2f "=M" (on_q TakeM)
    ∷ line 0x30 "=RC" (on_q ResetC)
    ∷ line 0x31 "=RI" (on_q ResetI)
    ∷ line 0x32 "=RM" (on_q ResetM)
    ∷ line 0x33 "SHAC" (shift_by_c Arithmetic)
    ∷ line 0x34 "SHLC" (shift_by_c Logical)
    ∷ line 0x35 "SHCC" (shift_by_c Cyclic)
    ∷ line 0x38 "RD" (transfer Read)
    ∷ line 0x39 "RDE" (transfer ReadToEnd)
    ∷ line 0x3a "WR" (transfer Write)
    ∷ line 0x3b "WRE" (transfer WriteToEnd)
    ∷ line 0x3c "SEEK" (transfer Seek)
    ∷ line 0x3d "BUSY" (transfer Busy)
    ∷ line 0x40 "SHA" (shift Arithmetic)
    ∷ line 0x41 "SHL" (shift Logical)
    ∷ line 0x42 "SHC" (shift Cyclic)
    ∷ line 0x43 "EXIT" exit
    ∷ line 0x50 "J" (jump Always)
    ∷ line 0x51 "JS" (jump ToSubroutine)
    ∷ line 0x52 "J=Z" (jump IfZero)
    ∷ line 0x53 "J#Z" (jump IfNotZero)
    ∷ line 0x54 "J<Z" (jump IfNegative)
    ∷ line 0x55 "J>=Z" (jump IfNotNegative)
    ∷ line 0x56 "J>Z" (jump IfPositive)
    ∷ line 0x57 "J<=Z" (jump IfNotPositive)
    ∷ line 0x58 "JEN" (jump IfNestEmpty)
    ∷ line 0x59 "JNEN" (jump IfNestNotEmpty)
    ∷ line 0x5a "JEJ" (jump IfLinksEmpty)
    ∷ line 0x5b "JNEJ" (jump IfLinksNotEmpty)
    ∷ line 0x5c "JTR" (jump IfTest)
    ∷ line 0x5d "JNTR" (jump IfNotTest)
    ∷ line 0x5e "JV" (jump IfOverflow)
    ∷ line 0x5f "JNV" (jump IfNotOverflow)
    ∷ line 0x60 "SET" set_number
    ∷ line 0x68 "JCZ" (jump_count test.IfZero)
    ∷ line 0x69 "JCNZ" (jump_count test.IfNotZero)
    ∷ line 0x70 "E" (store at_e.Fetch)
    ∷ line 0x71 "EQ" (store at_e.FetchStep)
    ∷ line 0x72 "=E" (store at_e.Put)
    ∷ line 0x73 "=EQ" (store at_e.PutStep)
    ∷ line 0x78 "MM" (indexed at_k.Fetch)
    ∷ line 0x79 "=MM" (indexed at_k.Put)
    ∷ line 0x7a "MMQ" (indexed at_k.FetchStep)
    ∷ line 0x7b "=MMQ" (indexed at_k.PutStep)
    ∷ line 0x7c "MMH" (indexed at_k.FetchHalf)
    ∷ line 0x7d "=MMH" (indexed at_k.PutHalf)
    ∷ line 0x80 "MTO" (copy part.M)
    ∷ line 0x81 "ITO" (copy part.I)
    ∷ line 0x82 "IMTO" (copy part.Im)
    ∷ line 0x83 "CTO" (copy part.C)
    ∷ line 0x84 "CMTO" (copy part.Cm)
    ∷ line 0x85 "CITO" (copy part.Ci)
    ∷ line 0x86 "QTO" (copy part.Q)
    ∷ []

-- what `get` says of the line of a command byte
abbrev pub find : {A : Type 0} → (Line → A) → ℕ → List Line → Option A
find get c [] = None
find get c (l ∷ ls) = cond (c == l.command) (Some (get l)) (find get c ls)

abbrev pub form_of : ℕ → Option Form
form_of c = find (λ l. l.form) c orders

abbrev pub name_of : ℕ → Option String
name_of c = find (λ l. l.name) c orders

abbrev pub said : Option Form → ℕ → ℕ → ℕ → Result Order Undecoded
said (Some f) x y z = cond (fit f x y) (Ok (made f x y z)) (Err Operand)
said None x y z = Err UnknownCommand

-- the bytes after an order's own do not count
unfoldable pub order_of : ℕ → ℕ → ℕ → ℕ → Result Order Undecoded
order_of c x y z = said (form_of c) x y z
