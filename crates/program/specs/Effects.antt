-- What an order does to all that its program owns.
--
-- on_state       a change of registers and area alone
-- moved_by       RD, RDE, WR, WRE and SEEK: a move between the area and the device on the buffer that C names
-- asked          BUSY: T says whether that buffer is busy
-- carried        an order that breaks no bound, with the place of the one after it
-- attempted      the order at the program's place: carried out, or the first bound that it breaks and nothing changed
use Rattle.std.specs.Prelude.{ℕ, true, false, List, Some, None, Ok, Err, Option, Result}
use Prim.Native.String.{String}
use Rattle.word.specs.declared.q.Q.{Q}
use Rattle.order.specs.declared.code.Order.{Order}
use Rattle.order.specs.declared.code.Order.TheVariants.{Register, Store, Indexed, Transfer, Out}
use Rattle.order.specs.declared.code.TransferOrder.{TransferOrder}
use Rattle.order.specs.declared.code.TransferOrder.TheVariants as order
use Rattle.registers.specs.Registers.{Regs, N1, pop, q_of, with_place, with_test}
use Rattle.register_orders.specs.Effects.{effect as register_effect}
use Rattle.store_orders.specs.State.{State, state, on_regs}
use Rattle.store_orders.specs.Effects.{on_store, on_indexed}
use Rattle.transfer.specs.Moves.{Effect, effect}
use Rattle.transfer.specs.declared.moves.Move.{Move}
use Rattle.transfer.specs.declared.moves.Transfer.{Transfer as MovingKind}
use Rattle.transfer.specs.declared.moves.Transfer.TheVariants as kind
use Rattle.buffers.specs.declared.buffer.Work.{Work}
use Rattle.buffers.specs.declared.buffer.Work.TheVariants.{Seeking, Moving}
use Rattle.buffers.specs.Buffers.{is_busy}
use Rattle.outlook.specs.Own.{Own, Line, owning, line_work, line_device}
use Rattle.outlook.specs.Outlook.{foreseen}
use Rattle.outlook.specs.declared.bound.Bound.{Bound}
use Rattle.outlook.specs.declared.next.Next.{Next}
use Rattle.program.specs.Kept.{update}
use Rattle.program.specs.Told.{Told}
use Rattle.program.specs.Told.Told.{done, broke, refused, out}

abbrev pub on_state : (State → State) → Own → Own
on_state f o = owning (f (state o.regs o.area)).area (f (state o.regs o.area)).regs o.ready o.lines

-- the program goes on at another place
abbrev pub at_place : ℕ → Own → Own
at_place n o = on_state (on_regs (with_place n)) o

-- the move that a transfer order makes, with the parts of its Q; BUSY moves nothing
abbrev pub kind_of : TransferOrder → Option MovingKind
kind_of order.Read = Some (kind.Read false)
kind_of order.ReadToEnd = Some (kind.Read true)
kind_of order.Write = Some (kind.Write false)
kind_of order.WriteToEnd = Some (kind.Write true)
kind_of order.Seek = Some kind.Seek
kind_of order.Busy = None

abbrev pub move_by : MovingKind → Q → Move
move_by k q = record { transfer = k; i = q.i; m = q.m }

-- what the buffer is at once the move is done: the groups of the words from I to M are locked, also those that an early end never reached
abbrev pub work_by : MovingKind → Q → Work
work_by (kind.Read ends) q = Moving q.i q.m
work_by (kind.Write ends) q = Moving q.i q.m
work_by kind.Seek q = Seeking

-- the buffer c with that device and work
abbrev pub with_line : ℕ → Option Line → Own → List ℕ → Regs → Own
with_line c l o area regs = owning area regs o.ready (update o.lines c l)

-- a device's refusal leaves the place, and the buffer as idle as it was
abbrev pub ended : MovingKind → Q → ℕ → Own → Effect → Option String → Own × Told
ended k q n o e None =
    (with_line q.c (Some (record { device = e.device; work = work_by k q })) o e.area (with_place n o.regs), done e.moved)
ended k q n o e (Some why) =
    (with_line q.c (Some (record { device = e.device; work = line_work (o.lines q.c) })) o e.area o.regs, refused q.c why e.moved)

abbrev pub moved_by : MovingKind → Q → ℕ → Own → Own × Told
moved_by k q n o =
    ended k q n o (effect (move_by k q) o.area (line_device (o.lines q.c))) (effect (move_by k q) o.area (line_device (o.lines q.c))).refusal

abbrev pub asked : Q → ℕ → Own → Own × Told
asked q n o = (on_state (on_regs (λ r. with_test (is_busy (line_work (o.lines q.c))) (with_place n r))) o, done 0)

abbrev pub transferred : Option MovingKind → Q → ℕ → Own → Own × Told
transferred (Some k) q n o = moved_by k q n o
transferred None q n o = asked q n o

-- the place is that of the next order before an effect, so that a jump can set it and JS can push it
abbrev pub done_order : Order → ℕ → Own → Own × Told
done_order (Register x) n o = (on_state (on_regs (λ r. register_effect x (with_place n r))) o, done 0)
done_order (Store x q e) n o = (on_state (λ s. on_store x q e (on_regs (with_place n) s)) o, done 0)
done_order (Indexed x k q) n o = (on_state (λ s. on_indexed x k q (on_regs (with_place n) s)) o, done 0)
done_order (Transfer x q) n o = transferred (kind_of x) (q_of q o.regs) n o
done_order Out n o = (on_state (on_regs (λ r. pop (with_place n r))) o, out (N1 o.regs))

abbrev pub carried : Next → Own → Own × Told
carried x o = done_order x.order x.place o

abbrev pub tried : Result Next Bound → Own → Own × Told
tried (Err b) o = (o, broke b)
tried (Ok x) o = carried x o

abbrev pub attempted : Own → Own × Told
attempted o = tried (foreseen o) o
