-- Places in a program's area, and the bytes of the order that stands at one. A place is 6 × word + syllable; syllable 0 is
-- the word's top byte.
--
-- byte_at        the byte at a place; past the area it is 0
-- place_after    the place k bytes on, modulo 65,536
-- order_byte     byte k of the order at the program's place, the command being byte 0
-- order_row      the row of its command
-- order_here     what its bytes say
use Rattle.std.specs.Prelude.{ℕ, ◌+◌, ◌-◌, ◌*◌, ◌/◌, ◌%◌, ◌^◌, List, Result, slice_index}
use Rattle.order.specs.declared.code.Order.{Order}
use Rattle.order.specs.declared.code.Undecoded.{Undecoded}
use Rattle.order.specs.declared.table.Row.{Row}
use Rattle.order.specs.Orders.{order_of}
use Rattle.order.specs.Table.{row_of}
use Rattle.outlook.specs.Own.{Own}

abbrev pub byte_at : List ℕ → ℕ → ℕ
byte_at area p = slice_index area (p / 6) / 2 ^ (8 * (5 - p % 6)) % 256

abbrev pub place_after : ℕ → ℕ → ℕ
place_after p k = (p + k) % 2 ^ 16

abbrev pub order_byte : Own → ℕ → ℕ
order_byte o k = byte_at o.area (place_after o.regs.place k)

abbrev pub order_row : Own → Row
order_row o = row_of (order_byte o 0)

abbrev pub order_here : Own → Result Order Undecoded
order_here o = order_of (order_byte o 0) (order_byte o 1) (order_byte o 2) (order_byte o 3)
