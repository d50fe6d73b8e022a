-- The outlook by what the code read: the place, the command with its row, and the three bytes after it.
use Rattle.std.proofs.Common.{◌≡◌, ℕ, ◌*◌, ◌/◌, ◌^◌, ◌<◌, true, false, leb, length, Err, Option, Result, sym, refl, ap, ◌∙◌, ap₂, arith}
use mathlib.Core.Path.{fun_ext}
use Rattle.device.specs.Meaning.{Meaning}
use Rattle.order.specs.Orders.{order_of}
use Rattle.order.specs.Table.{row_of}
use Rattle.order.specs.declared.table.Row.{Row}
use Rattle.buffers.specs.declared.buffer.Buffer.{Buffer}
use Rattle.buffers.specs.Buffers.{any_below, locked_between}
use Rattle.outlook.specs.Own.{Own, Line, lines_of, lines_locked}
use Rattle.outlook.specs.Places.{byte_at, place_after, order_byte, order_row, order_here}
use Rattle.outlook.specs.Bounds.{place_outside, words_locked}
use Rattle.outlook.specs.Outlook.{next_place, read_as, foreseen}
use Rattle.outlook.specs.declared.bound.Bound.{Bound}
use Rattle.outlook.specs.declared.bound.Bound.TheVariants.{OrderLock}
use Rattle.outlook.specs.declared.next.Next.{Next}
use Rattle.outlook.proofs.Lines.{locked_lines}

-- what was read of the next order: its place, its command, and the row of that
pub record Read (o : Own) (p command : ℕ) (row : Row) : Type 0 where
  pub small : p < 2 ^ 16
  pub is_place : p ≡ o.regs.place
  pub is_command : command ≡ byte_at o.area p
  pub is_row : row ≡ row_of command

-- a place is the place 0 bytes on
here : (p : ℕ) → p < 2 ^ 16 → place_after p 0 ≡ p
here p h = omega arith

module _ (o : Own) (p command : ℕ) (row : Row) (r : Read o p command row) where
  same_command : command ≡ order_byte o 0
  same_command = r.is_command ∙ ap (byte_at o.area) (sym (here p r.small) ∙ ap (λ q. place_after q 0) r.is_place)

  same_row : row ≡ order_row o
  same_row = r.is_row ∙ ap row_of same_command

  pub same_outside : any_below row.length (λ k. leb (6 * length o.area) (place_after p k)) ≡ place_outside o
  same_outside = ap₂ (λ (w : Row) q. any_below w.length (λ k. leb (6 * length o.area) (place_after q k))) same_row r.is_place

  pub same_locked : (slot : ℕ) (buffers : ℕ → Buffer) (bank : ℕ → Option Meaning) → o.lines ≡ lines_of slot buffers bank →
      any_below row.length (λ k. locked_between slot buffers (place_after p k / 6) (place_after p k / 6)) ≡ words_locked o
  same_locked slot buffers bank el =
      ap₂ (λ (w : Row) q. any_below w.length (λ k. locked_between slot buffers (place_after q k / 6) (place_after q k / 6))) same_row r.is_place
      ∙ ap (any_below (order_row o).length) (fun_ext (λ k. locked_lines slot buffers bank (place_after o.regs.place k / 6) (place_after o.regs.place k / 6)))
      ∙ ap (λ (ls : ℕ → Option Line). any_below (order_row o).length (λ k. lines_locked ls (place_after o.regs.place k / 6) (place_after o.regs.place k / 6))) (sym el)

  pub same_next : place_after p row.length ≡ next_place o
  same_next = ap₂ (λ (w : Row) q. place_after q w.length) same_row r.is_place

  pub same_order : (x y z : ℕ) → x ≡ byte_at o.area (place_after p 1) → y ≡ byte_at o.area (place_after p 2) → z ≡ byte_at o.area (place_after p 3) → order_of command x y z ≡ order_here o
  same_order x y z ex ey ez =
      ap (λ c. order_of c x y z) same_command
      ∙ ap (λ b. order_of (order_byte o 0) b y z) (ex ∙ ap (λ q. byte_at o.area (place_after q 1)) r.is_place)
      ∙ ap (λ b. order_of (order_byte o 0) (order_byte o 1) b z) (ey ∙ ap (λ q. byte_at o.area (place_after q 2)) r.is_place)
      ∙ ap (λ b. order_of (order_byte o 0) (order_byte o 1) (order_byte o 2) b) (ez ∙ ap (λ q. byte_at o.area (place_after q 3)) r.is_place)

-- two parts of the outlook
module _ (o : Own) where
  pub sees_lock : false ≡ place_outside o → true ≡ words_locked o → Err OrderLock ≡ foreseen o
  sees_lock e l = rw (← e, ← l) refl

  pub sees_order : {r : Result Next Bound} → false ≡ place_outside o → false ≡ words_locked o → r ≡ read_as (order_here o) o → r ≡ foreseen o
  sees_order e l t = rw (← e, ← l) t
