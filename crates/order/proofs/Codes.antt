-- What the order list says of a range of command bytes: a comparison that antt computes over the range, taken at each of its bytes.
use Rattle.std.proofs.Common.{◌≡◌, ℕ, ◌+◌, ◌-◌, ◌^◌, ◌<◌, ◌≤◌, Bool, true, false, not, cond, ◌&&◌, ◌||◌, leb, map, get_or, ℤ, Some, None, Ok, Err, Option, refl, sym, ap, ◌∙◌, arith, to_z, of_z}
use mir.Syntax.{Width}
use mir.Val.{bits}
use Rattle.std.proofs.lemmas.List.FromFn.{get_or-map-range_with_len}
use Rattle.std.proofs.lemmas.Int.{of_z-to_z}
use Rattle.std.proofs.lemmas.Bool.{cond-true, cond-false, not-true, false≢true}
use Rattle.std.specs.List.{range_with_len}
use Rattle.order.specs.declared.code.Order.{Order}
use Rattle.order.specs.declared.code.Undecoded.TheVariants.{UnknownCommand, Operand}
use Rattle.order.specs.Orders.{Form, fit, made, form_of, said, order_of}

-- two functions that agree on the n numbers from a on agree at each of them
pub same_at : {A : Type 0} (f g : ℕ → A) (a n c : ℕ) → map f (range_with_len a n) ≡ map g (range_with_len a n) → a ≤ c → c < a + n → f c ≡ g c
same_at f g a n c e p q =
    sym (get_or-map-range_with_len f a n (c - a) c (f a) (omega arith) (omega arith))
    ∙ ap (λ l. get_or l (c - a) (f a)) e
    ∙ get_or-map-range_with_len g a n (c - a) c (f a) (omega arith) (omega arith)

-- a signed operand, to its bits and back
pub signed_back : (w : Width) (n : ℕ) (r : ℤ) → r ≡ to_z w n → n < 2 ^ bits w → to_z w (of_z w r) ≡ to_z w n
signed_back w n r e h = ap (λ v. to_z w (of_z w v)) e ∙ ap (to_z w) (of_z-to_z w n h)

-- a form whose operands do not fit
abbrev pub refuses : Option Form → ℕ → ℕ → Bool
refuses (Some f) x y = not (fit f x y)
refuses None x y = false

says_operand : (m : Option Form) (x y z : ℕ) → refuses m x y ≡ true → said m x y z ≡ Err Operand
says_operand (Some f) x y z h = cond-false (fit f x y) (Ok (made f x y z)) (Err Operand) (not-true (fit f x y) h)
says_operand None x y z h = absurd (false≢true h)

-- a byte from a to b
abbrev within : ℕ → ℕ → ℕ → Bool
within a b c = leb a c && leb c b

-- the commands of the list, those whose operand x is q, and those whose operands x and y are k and q
abbrev pub listed : ℕ → Bool
listed c =
    within 0x01 0x16 c || within 0x20 0x35 c || within 0x38 0x3d c || within 0x40 0x43 c || within 0x50 0x60 c || within 0x68 0x69 c
    || within 0x70 0x73 c || within 0x78 0x7d c || within 0x80 0x86 c

abbrev pub takes_q : ℕ → Bool
takes_q c = within 0x20 0x35 c || within 0x38 0x3d c || within 0x68 0x69 c || within 0x70 0x73 c

abbrev pub takes_k_and_q : ℕ → Bool
takes_k_and_q c = within 0x78 0x7d c || within 0x80 0x86 c

-- an operand past its limit
abbrev pub over : ℕ → ℕ → ℕ → Bool
over c x y = cond (takes_q c) (not (leb x 15)) (cond (takes_k_and_q c) (not (leb x 15 && leb y 15)) false)

module _ (c x y z : ℕ) where
  -- a command of this form, with operands that fit, says the order that the form makes
  pub decoded : {o : Order} (f : Form) → form_of c ≡ Some f → fit f x y ≡ true → o ≡ made f x y z → Ok o ≡ order_of c x y z
  unfolding order_of
  decoded f e h m = ap Ok m ∙ sym (ap (λ k. said k x y z) e ∙ cond-true (fit f x y) (Ok (made f x y z)) (Err Operand) h)

  pub refused : over c x y ≡ true → c < 256 → Err Operand ≡ order_of c x y z
  unfolding order_of
  refused h p = sym (says_operand (form_of c) x y z (same_at (λ c. refuses (form_of c) x y) (λ c. over c x y) 0 256 c refl (omega arith) p ∙ h))

  pub unknown : listed c ≡ false → c < 256 → Err UnknownCommand ≡ order_of c x y z
  unfolding order_of
  unknown h p =
      sym (ap (λ m. said m x y z) (ap (λ b. cond b None (form_of c)) (sym h)
      ∙ same_at (λ c. cond (listed c) None (form_of c)) (λ _. None) 0 256 c refl (omega arith) p))
