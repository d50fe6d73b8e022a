-- Each way out of the match: an order of a group, an operand past its limit, or a gap between the orders.
use Rattle.std.proofs.lemmas.Bool.Decides.{nat_tests}
use Rattle.std.proofs.Common.{refl, ap, ◌∙◌, arith, w8, w16, to_z}
use Rattle.order.specs.declared.code.Order.TheVariants.{Register, Out}
use Rattle.order.specs.declared.code.RegisterOrder.TheVariants.{ShiftBy, Set}
use Rattle.order.specs.Orders.{form_of, alone, control, on_q, shift_by_c, transfer, shift, exit, jump, set_number, jump_count, store, indexed, copy}
use Rattle.order.proofs.Codes.{signed_back, decoded, refused, unknown}
use Rattle.order.proofs.decode.decode.Goals as goal

-- the orders without a Q
pub returns-in-1-to-16 : goal.returns-in-1-to-16
returns-in-1-to-16 c = decoded _ _ _ _ (alone (Register c.nest_order.result)) c.nest_order.ensures refl refl

pub returns-in-17-to-21 : goal.returns-in-17-to-21
returns-in-17-to-21 c = decoded _ _ _ _ (control c.control_order.result) c.control_order.ensures refl refl

pub returns-in-22 : goal.returns-in-22
returns-in-22 c = decoded _ _ _ _ (alone Out) (ap form_of c.in-22.is) refl refl

pub returns-in-64-to-66 : goal.returns-in-64-to-66
returns-in-64-to-66 c = decoded _ _ _ _ (shift c.kind_of_shift-in-64-to-66.result) (c.kind_of_shift-in-64-to-66.ensures.by_number (omega arith)) refl (ap (λ n. Register (ShiftBy c.kind_of_shift-in-64-to-66.result n)) (signed_back w8 c.args.x c.cast_signed-in-64-to-66.result c.cast_signed-in-64-to-66.ensures c.ranges.x.fits))

pub returns-in-67 : goal.returns-in-67
returns-in-67 c = decoded _ _ _ _ exit (ap form_of c.in-67.is) refl refl

pub returns-in-80-to-95 : goal.returns-in-80-to-95
returns-in-80-to-95 c = decoded _ _ _ _ (jump c.condition.result) c.condition.ensures refl (cc)

pub returns-in-96 : goal.returns-in-96
returns-in-96 c = decoded _ _ _ _ set_number (ap form_of c.in-96.is) refl (ap (λ i. Register (Set i)) (signed_back w16 c.pair.result c.cast_signed.result c.cast_signed.ensures c.pair.type_inv ∙ ap (to_z w16) c.pair.ensures))

-- the orders with q, and with k and q
pub returns-in-32-to-50 : goal.returns-in-32-to-50
returns-in-32-to-50 c = decoded _ _ _ _ (on_q c.q_order.result) c.q_order.ensures (grind (arith, nat_tests)) (cc)

pub returns-in-51-to-53 : goal.returns-in-51-to-53
returns-in-51-to-53 c = decoded _ _ _ _ (shift_by_c c.kind_of_shift.result) (c.kind_of_shift.ensures.by_count (omega arith)) (grind (arith, nat_tests)) (cc)

pub returns-in-56-to-61 : goal.returns-in-56-to-61
returns-in-56-to-61 c = decoded _ _ _ _ (transfer c.transfer_order.result) c.transfer_order.ensures (grind (arith, nat_tests)) (cc)

pub returns-in-104-to-105 : goal.returns-in-104-to-105
returns-in-104-to-105 c = decoded _ _ _ _ (jump_count c.count_test.result) c.count_test.ensures (grind (arith, nat_tests)) (cc)

pub returns-in-112-to-115 : goal.returns-in-112-to-115
returns-in-112-to-115 c = decoded _ _ _ _ (store c.store_order.result) c.store_order.ensures (grind (arith, nat_tests)) (cc)

pub returns-in-120-to-125 : goal.returns-in-120-to-125
returns-in-120-to-125 c = decoded _ _ _ _ (indexed c.indexed_order.result) c.indexed_order.ensures (grind (arith, nat_tests)) (cc)

pub returns-in-128-to-134 : goal.returns-in-128-to-134
returns-in-128-to-134 c = decoded _ _ _ _ (copy c.parts.result) c.parts.ensures (grind (arith, nat_tests)) (cc)

-- q or k over 15
pub returns-in-32-to-53 : goal.returns-in-32-to-53
returns-in-32-to-53 c = refused _ _ _ _ (grind (arith, nat_tests)) c.ranges.command.fits

pub returns-in-112-to-115-2 : goal.returns-in-112-to-115-2
returns-in-112-to-115-2 c = refused _ _ _ _ (grind (arith, nat_tests)) c.ranges.command.fits

-- the gaps between the orders
pub returns-in_default : goal.returns-in_default
returns-in_default c = unknown _ _ _ _ (grind (arith, nat_tests)) c.ranges.command.fits
