-- A table that passes the test has at each command byte the row that the order list asks for.
use Rattle.std.proofs.Common.{◌≡◌, ℕ, zero, suc, ◌+◌, ◌<◌, true, eqb, List, [], ◌∷◌, length, get_or, ap, ◌∙◌, zero-add, arith}
use Rattle.std.proofs.lemmas.Bool.{eqb-true, and_parts}
use Rattle.std.proofs.lemmas.Bool.Decides.{nat_tests}
use Rattle.order.specs.declared.table.Row.{Row}
use Rattle.order.specs.Table.{row_of, same, agree}
use Rattle.order.proofs.table.row_in.Goals as goal

none : Row
none = record { length = 0; nest_needed = 0; nest_left = 0; links_needed = 0; links_left = 0 }

same_true : (r s : Row) → same r s ≡ true → r ≡ s
same_true r s h = grind (arith, nat_tests)

agreed : (rs : List Row) (n i : ℕ) → agree rs n ≡ true → i < length rs → get_or rs i none ≡ row_of (n + i)
agreed [] n i h l = absurd (omega arith)
agreed (r ∷ rs) n zero h l =
    same_true r (row_of n) (and_parts (same r (row_of n)) (agree rs (n + 1)) h).0 ∙ ap row_of (omega arith)
agreed (r ∷ rs) n (suc i) h l =
    agreed rs (n + 1) i (and_parts (same r (row_of n)) (agree rs (n + 1)) h).1 (omega arith) ∙ ap row_of (omega arith)

pub returns : goal.returns
unfolding none
returns c =
    let p = and_parts (eqb (length c.args.table.now) 256) (agree c.args.table.now 0) c.requires in
    let l : length c.args.table.now ≡ 256 = eqb-true (length c.args.table.now) 256 p.0 in
    rw c.from.ensures (agreed c.args.table.now 0 c.args.command p.1 (omega arith) ∙ ap row_of (zero-add c.args.command))
