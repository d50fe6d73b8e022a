-- The bounds that an order can break, each with its place in the list and the violation that it is.
use Rattle.std.specs.Prelude.{ℕ}
use Prim.Native.String.{String}
use Rattle.order.specs.declared.code.Undecoded.{Undecoded}
use Rattle.order.specs.declared.code.Undecoded.TheVariants.{UnknownCommand, Operand}
use Rattle.outlook.specs.declared.bound.Bound.{Bound}
use Rattle.outlook.specs.declared.bound.Bound.TheVariants.{Place, OrderLock, Command, Operands, CellsShort, CellsOver, ShiftLength, Address, NoBuffer, Limits, Busy, WordLock}
use Rattle.outlook.specs.declared.bound.Violation.{Violation}
use Rattle.outlook.specs.declared.bound.Violation.TheVariants.{Liv, Nouv, Lov}

-- bounds are judged in this order
abbrev pub bound_number : Bound → ℕ
bound_number Place = 1
bound_number OrderLock = 2
bound_number Command = 3
bound_number Operands = 4
bound_number CellsShort = 5
bound_number CellsOver = 6
bound_number ShiftLength = 7
bound_number Address = 8
bound_number NoBuffer = 9
bound_number Limits = 10
bound_number Busy = 11
bound_number WordLock = 12

-- locks and a busy buffer are lock-outs, nest and links are nest violations, the others are lock-in violations
abbrev pub violation_of : Bound → Violation
violation_of Place = Liv
violation_of OrderLock = Lov
violation_of Command = Liv
violation_of Operands = Liv
violation_of CellsShort = Nouv
violation_of CellsOver = Nouv
violation_of ShiftLength = Liv
violation_of Address = Liv
violation_of NoBuffer = Liv
violation_of Limits = Liv
violation_of Busy = Lov
violation_of WordLock = Lov

-- the bound that bytes break which say no order
abbrev pub unreadable : Undecoded → Bound
unreadable UnknownCommand = Command
unreadable Operand = Operands

-- what a person reads
abbrev pub bound_words : Bound → String
bound_words Place = "place"
bound_words OrderLock = "lock on its words"
bound_words Command = "known command"
bound_words Operands = "q and k"
bound_words CellsShort = "nest and links short"
bound_words CellsOver = "nest and links over 16"
bound_words ShiftLength = "shift length"
bound_words Address = "address"
bound_words NoBuffer = "buffer"
bound_words Limits = "I and M"
bound_words Busy = "buffer busy"
bound_words WordLock = "lock on a word touched"

abbrev pub violation_name : Violation → String
violation_name Liv = "LIV"
violation_name Nouv = "NOUV"
violation_name Lov = "LOV"
