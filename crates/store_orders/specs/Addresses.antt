-- The address of the word that an order touches, counted from the start of its program's area. Sums are taken modulo 2^16.
--   store_address     e + Mq
--   joint             Mk + Mq; joint_half: Mk + Mq/2 rounded down, of an order on half words
--   indexed_address   the one of these two that an order has
--   address_of        of any order; none if it touches no word of the area by an address
use Rattle.std.specs.Prelude.{ℕ, ◌/◌, Some, None, Option}
use Rattle.word.specs.Qs.{address_sum}
use Rattle.order.specs.declared.code.IndexedOrder.{IndexedOrder}
use Rattle.order.specs.declared.code.IndexedOrder.TheVariants as indexed
use Rattle.order.specs.declared.code.Order.{Order}
use Rattle.order.specs.declared.code.Order.TheVariants.{Register, Store, Indexed, Transfer, Out}
use Rattle.registers.specs.Registers.{Regs, q_of}

abbrev pub store_address : ℕ → ℕ → Regs → ℕ
store_address q e r = address_sum e (q_of q r).m

abbrev pub joint : ℕ → ℕ → Regs → ℕ
joint k q r = address_sum (q_of k r).m (q_of q r).m

abbrev pub joint_half : ℕ → ℕ → Regs → ℕ
joint_half k q r = address_sum (q_of k r).m ((q_of q r).m / 2)

abbrev pub indexed_address : IndexedOrder → ℕ → ℕ → Regs → ℕ
indexed_address indexed.Fetch k q r = joint k q r
indexed_address indexed.Put k q r = joint k q r
indexed_address indexed.FetchStep k q r = joint k q r
indexed_address indexed.PutStep k q r = joint k q r
indexed_address indexed.FetchHalf k q r = joint_half k q r
indexed_address indexed.PutHalf k q r = joint_half k q r

abbrev pub address_of : Order → Regs → Option ℕ
address_of (Register o) r = None
address_of (Store o q e) r = Some (store_address q e r)
address_of (Indexed o k q) r = Some (indexed_address o k q r)
address_of (Transfer o q) r = None
address_of Out r = None
