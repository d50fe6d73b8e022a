-- What wraps to the same bits, and what undoes what: for every width w, from the law of wrapping alone.
use Rattle.std.proofs.Common.{◌≡◌, ℕ, ℤ, pos, ◌+ℤ◌, ◌-ℤ◌, neg_ℤ, sym, refl, ap, ◌∙◌, ap₂, le_refl, arith}
use borrow.Author.Differences.{ints}
use Rattle.word.specs.Wrap.{wrap, signed}
use Rattle.word.specs.Laws.{Wraps}

module _ (w : ℕ) (law : Wraps w) where
  pub same_sum : (a b c d : ℤ) → wrap w a ≡ wrap w c → wrap w b ≡ wrap w d → wrap w (a +ℤ b) ≡ wrap w (c +ℤ d)
  same_sum a b c d p q = sym (law.add a b) ∙ ap₂ (λ (m n : ℕ). wrap w (pos m +ℤ pos n)) p q ∙ law.add c d

  same_difference : (a b c d : ℤ) → wrap w a ≡ wrap w c → wrap w b ≡ wrap w d → wrap w (a -ℤ b) ≡ wrap w (c -ℤ d)
  same_difference a b c d p q = sym (law.sub a b) ∙ ap₂ (λ (m n : ℕ). wrap w (pos m -ℤ pos n)) p q ∙ law.sub c d

  same_negative : (a c : ℤ) → wrap w a ≡ wrap w c → wrap w (neg_ℤ a) ≡ wrap w (neg_ℤ c)
  same_negative a c p = sym (law.neg a) ∙ ap (λ (m : ℕ). wrap w (neg_ℤ (pos m))) p ∙ law.neg c

  -- x has the bits of the sum, the difference or the negative
  pub sum_undone : (a b x : ℤ) → wrap w x ≡ wrap w (a +ℤ b) → wrap w (x -ℤ b) ≡ wrap w a
  sum_undone a b x e = same_difference x b (a +ℤ b) b e refl ∙ ap (wrap w) {x = (a +ℤ b) -ℤ b} {y = a} (omega (arith, ints))

  pub difference_undone : (a b x : ℤ) → wrap w x ≡ wrap w (a -ℤ b) → wrap w (x +ℤ b) ≡ wrap w a
  difference_undone a b x e = same_sum x b (a -ℤ b) b e refl ∙ ap (wrap w) {x = (a -ℤ b) +ℤ b} {y = a} (omega (arith, ints))

  pub negative_undone : (a x : ℤ) → wrap w x ≡ wrap w (neg_ℤ a) → wrap w (neg_ℤ x) ≡ wrap w a
  negative_undone a x e = same_negative x (neg_ℤ a) e ∙ ap (wrap w) {x = neg_ℤ (neg_ℤ a)} {y = a} (omega (arith, ints))

  -- the bits of z, read without a sign and with one
  pub plain : (z : ℤ) → wrap w (pos (wrap w z)) ≡ wrap w z
  plain z = law.narrow w z (le_refl w)

  pub with_sign : (z : ℤ) → wrap w (signed w (wrap w z)) ≡ wrap w z
  with_sign z = law.bits (wrap w z) (law.below z)
