-- An order that bytes say has the length and the cells of its command's row: three comparisons over the list, that antt computes at any operands, taken at each of its lines.
use Rattle.std.proofs.Common.{◌≡◌, ℕ, Bool, true, false, cond, ◌&&◌, eqb, leb, List, [], ◌∷◌, map, Some, None, Ok, Err, Option, sym, refl, ap, ◌∙◌, subst, ⊎_elim, arith}
use Rattle.std.proofs.lemmas.Bool.Decides.{nat_tests}
use Rattle.std.proofs.lemmas.Bool.{cases_Bool, cond-true, cond-false}
use Rattle.order.specs.declared.code.RegisterOrder.{RegisterOrder}
use Rattle.order.specs.declared.code.RegisterOrder.TheVariants.{Move, Unary, Binary, Control, Q, ShiftByCount, ShiftBy, Exit, Jump, Set, JumpCount, Copy}
use Rattle.order.specs.declared.code.Order.{Order}
use Rattle.order.specs.declared.code.Order.TheVariants.{Register, Store, Indexed, Transfer, Out}
use Rattle.order.specs.declared.code.Undecoded.TheVariants.{Operand}
use Rattle.order.specs.Cells.{cells}
use Rattle.order.specs.Shape.{order_length, RegisterWithin, Within}
use Rattle.order.specs.Orders.{Form, Line, orders, find, form_of, form_length, fit, made, said, order_of}
use Rattle.order.specs.Table.{row_at, row_of, row_cells}
use Rattle.order.specs.Laws.{Agrees, Agreement}

-- two functions that agree on the forms of the lines agree on each form that is found there
same_form : {A : Type 0} (f g : Form → A) (c : ℕ) (ls : List Line) (k : Form) → map (λ l. f l.form) ls ≡ map (λ l. g l.form) ls → find (λ l. l.form) c ls ≡ Some k → f k ≡ g k
same_form f g c [] k e h = cc
same_form f g c (l ∷ ls) k e h = ⊎_elim
    (λ t. let u = sym (cond-true (eqb c l.command) (Some l.form) (find (λ l. l.form) c ls) t) ∙ h in cc)
    (λ t. same_form f g c ls k (cc) (sym (cond-false (eqb c l.command) (Some l.form) (find (λ l. l.form) c ls) t) ∙ h))
    (cases_Bool (eqb c l.command))

-- the test that the operands pass, on the order that they make
abbrev register_passes : RegisterOrder → Bool
register_passes (Move o) = true
register_passes (Unary o) = true
register_passes (Binary o) = true
register_passes (Control o) = true
register_passes (Q o q) = leb q 15
register_passes (ShiftByCount s q) = leb q 15
register_passes (ShiftBy s n) = true
register_passes (Exit h) = true
register_passes (Jump c a) = true
register_passes (Set i) = true
register_passes (JumpCount t q a) = leb q 15
register_passes (Copy p k q) = leb k 15 && leb q 15

abbrev passes : Order → Bool
passes (Register o) = register_passes o
passes (Store o q e) = leb q 15
passes (Indexed o k q) = leb k 15 && leb q 15
passes (Transfer o q) = leb q 15
passes Out = true

register_within : (o : RegisterOrder) → register_passes o ≡ true → RegisterWithin o
register_within (Move o) h = tt
register_within (Unary o) h = tt
register_within (Binary o) h = tt
register_within (Control o) h = tt
register_within (Q o q) h = grind (arith, nat_tests)
register_within (ShiftByCount s q) h = grind (arith, nat_tests)
register_within (ShiftBy s n) h = tt
register_within (Exit x) h = tt
register_within (Jump c a) h = tt
register_within (Set i) h = tt
register_within (JumpCount t q a) h = grind (arith, nat_tests)
register_within (Copy p k q) h = grind (arith, nat_tests)

within : (o : Order) → passes o ≡ true → Within o
within (Register o) h = register_within o h
within (Store o q e) h = grind (arith, nat_tests)
within (Indexed o k q) h = grind (arith, nat_tests)
within (Transfer o q) h = grind (arith, nat_tests)
within Out h = tt

-- the order of a line, at any operands that fit
made_agrees : (c x y z : ℕ) (f : Form) → form_of c ≡ Some f → fit f x y ≡ true → Agrees c (made f x y z)
unfolding row_of
made_agrees c x y z f e h =
    record {
      same_length = ap (λ m. (row_at m).length) e ∙ same_form form_length (λ k. order_length (made k x y z)) c orders f refl e;
      same_cells = ap (λ m. row_cells (row_at m)) e ∙ same_form (λ k. cells (made k 0 0 0)) (λ k. cells (made k x y z)) c orders f refl e;
      within = within (made f x y z) (sym (same_form (λ k. fit k x y) (λ k. passes (made k x y z)) c orders f refl e) ∙ h);
    }

-- an answered order is the one that was made, and its operands fit
answered : (b : Bool) (p o : Order) → cond b (Ok p) (Err Operand) ≡ Ok o → (b ≡ true) × (p ≡ o)
answered true p o h = (refl, cc)
answered false p o h = absurd (cc)

said_agrees : (c x y z : ℕ) (o : Order) (m : Option Form) → form_of c ≡ m → said m x y z ≡ Ok o → Agrees c o
said_agrees c x y z o (Some f) e h =
    let a = answered (fit f x y) (made f x y z) o h in
    subst (λ (p : Order). Agrees c p) a.1 (made_agrees c x y z f e a.0)
said_agrees c x y z o None e h = absurd (cc)

pub agreement : Agreement
unfolding order_of
agreement c x y z o h = said_agrees c x y z o (form_of c) refl h
