-- The row of the table that the order list asks for at a command byte.
use Rattle.std.specs.Prelude.{ℕ, ◌+◌, Bool, true, ◌&&◌, List, [], ◌∷◌, length, Some, None, Option, ◌==◌}
use Rattle.order.specs.declared.table.Row.{Row}
use Rattle.order.specs.Cells.{Cells, nest, nest_links, cells}
use Rattle.order.specs.Orders.{Form, form_length, made, form_of}

-- the cells that a row names
abbrev pub row_cells : Row → Cells
row_cells r = nest_links r.nest_needed r.nest_left r.links_needed r.links_left

abbrev pub row_with : ℕ → Cells → Row
row_with length c =
    record { length = length; nest_needed = c.nest_needed; nest_left = c.nest_left; links_needed = c.links_needed; links_left = c.links_left }

-- an order's cells do not depend on its operands; an unknown command has length 1
abbrev pub row_at : Option Form → Row
row_at (Some f) = row_with (form_length f) (cells (made f 0 0 0))
row_at None = row_with 1 (nest 0 0)

unfoldable pub row_of : ℕ → Row
row_of c = row_at (form_of c)

-- the test that a row is another one
abbrev pub same : Row → Row → Bool
same r s =
    (r.length == s.length && (r.nest_needed == s.nest_needed && r.nest_left == s.nest_left))
    && (r.links_needed == s.links_needed && r.links_left == s.links_left)

-- the test that rows are those that the order list asks for at n, n + 1, ..
abbrev pub agree : List Row → ℕ → Bool
agree [] n = true
agree (r ∷ rs) n = same r (row_of n) && agree rs (n + 1)

-- the test that a table is that of the order list: 256 rows, one for each command byte
abbrev pub table_agrees : List Row → Bool
table_agrees table = length table == 256 && agree table 0
