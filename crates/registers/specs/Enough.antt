-- Whether nest and links have the cells that an order asks for.
use Rattle.std.specs.Prelude.{◌+◌, ◌≤◌, length}
use Rattle.order.specs.Cells.{Cells}
use Rattle.registers.specs.Registers.{Regs}

-- neither short, nor over 16 once the needed cells are gone and the left ones are there
pub record Enough (c : Cells) (r : Regs) : Type 0 where
  pub nest_there : c.nest_needed ≤ length r.nest
  pub nest_room : length r.nest + c.nest_left ≤ 16 + c.nest_needed
  pub links_there : c.links_needed ≤ length r.links
  pub links_room : length r.links + c.links_left ≤ 16 + c.links_needed
