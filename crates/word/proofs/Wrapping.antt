-- Wrapping modulo 2^w, for every width w.
use Rattle.std.proofs.Common.{◌≡◌, ℕ, ◌+◌, ◌-◌, ◌*◌, ◌/◌, ◌%◌, ◌^◌, ◌<◌, ◌≤◌, false, ℤ, pos, negsuc, ◌+ℤ◌, ◌-ℤ◌, ◌*ℤ◌, neg_ℤ, nat_abs, ◌≤ℤ◌, ◌<ℤ◌, sym, refl, ap, ◌∙◌, mod-lt, mod-eq_of_lt, mul_assoc, mul-le-mul_left, div-add-mod', arith, pow_pos, rules}
use Rattle.std.proofs.lemmas.Grind.{common_steps}
use lib.IntN.{*ℤ_comm}
use borrow.Author.Differences.{ints, up, down, same_in, same_out, sum_is_lem, neg_is, product_is}
use Rattle.std.proofs.lemmas.Int.{int_rem_euclid_is}
use Rattle.word.specs.Wrap.{wrap, signed, outside}
use Rattle.word.specs.Laws.{Wraps}
use Rattle.word.proofs.Powers.{factor, double}

-- z plus a multiple of 2^w is the natural m
pub wrap_is : (w : ℕ) (z : ℤ) (k m : ℕ) → z +ℤ pos (k * 2 ^ w) ≡ pos m → wrap w z ≡ m % 2 ^ w
wrap_is w (pos n) k m e = ap nat_abs (int_rem_euclid_is (pos n) (pos (2 ^ w)) (2 ^ w) k m (pow_pos w) refl e)
wrap_is w (negsuc n) k m e = ap nat_abs (int_rem_euclid_is (negsuc n) (pos (2 ^ w)) (2 ^ w) k m (pow_pos w) refl e)

-- a and b differ by a multiple of 2^w
pub wrap_same : (w : ℕ) (a b : ℤ) (j k : ℕ) → a +ℤ pos (j * 2 ^ w) ≡ b +ℤ pos (k * 2 ^ w) → wrap w a ≡ wrap w b
wrap_same w a b j k e =
    let m = 2 ^ w in
    let some = pow_pos w in
    let t = down a + down b in
    let far : t * 1 ≤ t * m = mul-le-mul_left t some in
    let n = up a + (j + t) * m - down a in
    wrap_is w a (j + t) n (omega (arith, ints)) ∙ sym (wrap_is w b (k + t) n (omega (arith, ints)))

-- z and what is left of it differ by a multiple of 2^w
pub rest : (w : ℕ) (z : ℤ) → (j : ℕ) × (k : ℕ) × (pos (wrap w z) +ℤ pos (j * 2 ^ w) ≡ z +ℤ pos (k * 2 ^ w))
rest w (pos a) = (a / 2 ^ w, 0, omega (arith, same_in, sum_is_lem, div-add-mod' a (2 ^ w)))
rest w (negsuc a) =
    let small = mod-lt a (pow_pos w) in
    (0, a / 2 ^ w + 1, omega (arith, same_in, sum_is_lem, div-add-mod' a (2 ^ w)))

pub wrap_below : (w : ℕ) (z : ℤ) → wrap w z < 2 ^ w
wrap_below w z = search rules

wrap_turns : (w : ℕ) (a : ℤ) (k : ℕ) → wrap w (a +ℤ pos (k * 2 ^ w)) ≡ wrap w a
wrap_turns w a k = wrap_same w (a +ℤ pos (k * 2 ^ w)) a 0 k (omega (arith, same_in, same_out, sum_is_lem))

-- a multiple of 2^w is one of 2^v
wrap_narrow : (w v : ℕ) (a : ℤ) → v ≤ w → wrap v (pos (wrap w a)) ≡ wrap v a
wrap_narrow w v a h =
    let l = rest w a in
    let scale = 2 ^ (w - v) in
    let is : (n : ℕ) → n * scale * 2 ^ v ≡ n * 2 ^ w = λ n. mul_assoc n scale (2 ^ v) ∙ ap (λ (m : ℕ). n * m) (sym (factor w v h)) in
    wrap_same v (pos (wrap w a)) a (l.0 * scale) (l.1 * scale)
    (ap (λ (n : ℕ). pos (wrap w a) +ℤ pos n) (is l.0) ∙ l.2 ∙ ap (λ (n : ℕ). a +ℤ pos n) (sym (is l.1)))

pub wrap_add : (w : ℕ) (a b : ℤ) → wrap w (pos (wrap w a) +ℤ pos (wrap w b)) ≡ wrap w (a +ℤ b)
wrap_add w a b =
    let l = rest w a in
    let r = rest w b in
    wrap_same w (pos (wrap w a) +ℤ pos (wrap w b)) (a +ℤ b) (l.0 + r.0) (l.1 + r.1) (omega (arith, same_in, same_out, sum_is_lem, l.2, r.2))

pub wrap_neg : (w : ℕ) (a : ℤ) → wrap w (neg_ℤ (pos (wrap w a))) ≡ wrap w (neg_ℤ a)
wrap_neg w a =
    let l = rest w a in
    wrap_same w (neg_ℤ (pos (wrap w a))) (neg_ℤ a) l.1 l.0 (omega (arith, same_in, same_out, sum_is_lem, neg_is, l.2))

pub wrap_sub : (w : ℕ) (a b : ℤ) → wrap w (pos (wrap w a) -ℤ pos (wrap w b)) ≡ wrap w (a -ℤ b)
wrap_sub w a b =
    let l = rest w a in
    let r = rest w b in
    wrap_same w (pos (wrap w a) -ℤ pos (wrap w b)) (a -ℤ b) (l.0 + r.1) (l.1 + r.0) (omega (arith, same_in, same_out, sum_is_lem, neg_is, l.2, r.2))

times : (w : ℕ) (a b c : ℤ) (j k : ℕ) → a +ℤ pos (j * 2 ^ w) ≡ b +ℤ pos (k * 2 ^ w) → wrap w (a *ℤ c) ≡ wrap w (b *ℤ c)
times w a b c j k e =
    let sum : up a + j * 2 ^ w + down b ≡ up b + k * 2 ^ w + down a = omega (arith, same_out, sum_is_lem) in
    let above = ap (λ x. x * up c) sum in
    let below = ap (λ x. x * down c) sum in
    wrap_same w (a *ℤ c) (b *ℤ c) (j * up c + k * down c) (k * up c + j * down c) (omega (arith, same_in, sum_is_lem, product_is))

-- one factor may wrap first
pub wrap_mul_left : (w : ℕ) (a c : ℤ) → wrap w (pos (wrap w a) *ℤ c) ≡ wrap w (a *ℤ c)
wrap_mul_left w a c = let l = rest w a in times w (pos (wrap w a)) a c l.0 l.1 l.2

pub wrap_mul : (w : ℕ) (a b : ℤ) → wrap w (pos (wrap w a) *ℤ pos (wrap w b)) ≡ wrap w (a *ℤ b)
wrap_mul w a b =
    wrap_mul_left w a (pos (wrap w b)) ∙ ap (wrap w) (*ℤ_comm a (pos (wrap w b)))
    ∙ wrap_mul_left w b a ∙ ap (wrap w) (*ℤ_comm b a)

pub wrap_signed : (w x : ℕ) → x < 2 ^ w → wrap w (signed w x) ≡ x
wrap_signed w x h = grind arith

-- a number does not overflow where it or its complement lies below 2^(w-1)
pub in_pos : (w n : ℕ) → n < 2 ^ (w - 1) → outside w (pos n) ≡ false
in_pos w n h = grind arith

pub in_neg : (w n : ℕ) → n < 2 ^ (w - 1) → outside w (negsuc n) ≡ false
in_neg w n h = grind arith

signed_inside : (w x : ℕ) → 0 < w → x < 2 ^ w → outside w (signed w x) ≡ false
signed_inside w x some below = grind (arith, common_steps)

-- where a number lies that does not overflow
pub inside : (w : ℕ) (z : ℤ) → outside w z ≡ false → (neg_ℤ (pos (2 ^ (w - 1))) ≤ℤ z) × (z <ℤ pos (2 ^ (w - 1)))
inside w z e = grind arith

pub signed_wrap : (w : ℕ) (a : ℤ) → 0 < w → outside w a ≡ false → signed w (wrap w a) ≡ a
signed_wrap w (pos n) h e = grind (arith, double w h, mod-eq_of_lt, inside w (pos n) e)
signed_wrap w (negsuc n) h e = grind (arith, double w h, mod-eq_of_lt, inside w (negsuc n) e)

pub wraps : (w : ℕ) → Wraps w
wraps w = record {
  below = wrap_below w;
  turns = wrap_turns w;
  add = wrap_add w;
  sub = wrap_sub w;
  neg = wrap_neg w;
  mul = wrap_mul w;
  narrow = wrap_narrow w;
  bits = wrap_signed w;
  inside = signed_inside w;
  number = signed_wrap w;
}
