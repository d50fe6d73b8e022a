-- Laws of the order list: it is sound in itself, and an order that bytes say has the length and the cells of its command's row.
use Rattle.std.specs.Prelude.{◌≡◌, ℕ, Bool, true, ◌&&◌, List, [], ◌∷◌, length, Ok, nat_le, nat_lt}
use Rattle.order.specs.declared.code.Order.{Order}
use Rattle.order.specs.Cells.{Cells, cells}
use Rattle.order.specs.Shape.{order_length, Within}
use Rattle.order.specs.Orders.{Line, orders, made, form_length, order_of}
use Rattle.order.specs.Table.{row_of, row_cells}

-- command bytes rise from line to line, so none stands twice
abbrev rising : ℕ → List Line → Bool
rising c [] = true
rising c (l ∷ ls) = nat_lt c l.command && rising l.command ls

-- at most four bytes, three cells of the nest and one link
abbrev small : Cells → Bool
small c = (nat_le c.nest_needed 3 && nat_le c.nest_left 3) && (nat_le c.links_needed 1 && nat_le c.links_left 1)

abbrev all_small : List Line → Bool
all_small [] = true
all_small (l ∷ ls) = (nat_le (form_length l.form) 4 && small (cells (made l.form 0 0 0))) && all_small ls

pub record Sound : Type 0 where
  pub ninety : length orders ≡ 90
  pub once : rising 0 orders ≡ true
  pub within : all_small orders ≡ true

-- bytes that say an order
pub record Agrees (c : ℕ) (o : Order) : Type 0 where
  pub same_length : (row_of c).length ≡ order_length o
  pub same_cells : row_cells (row_of c) ≡ cells o
  pub within : Within o

abbrev pub Agreement : Type 0
Agreement = (c x y z : ℕ) (o : Order) → order_of c x y z ≡ Ok o → Agrees c o
