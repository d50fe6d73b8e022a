-- An array by `from_fn`, where the closure computes a function.
use Rattle.std.proofs.Common.{◌≡◌, ℕ, zero, suc, ◌+◌, ◌<◌, ◌≤◌, List, map, length, get_or, sym, ap, ◌∙◌, subst, inl, inr, arith}
use denote.Param.Members.{Mut}
use Rattle.std.specs.Fn.{Called}
use Rattle.std.specs.Array.{IsFromFnResult, IsFromFnResultFrom}
use Rattle.std.proofs.lemmas.Bool.{cases_eq}
use Rattle.std.proofs.lemmas.List.{same_lists, get_or-map, length-map}

module _ {F B : Type 0} (g : Mut F (ℕ × Unit {0}) B) (f : F) (n : ℕ) (h : ℕ → B) where
  -- a call leaves the closure as it was
  abbrev pub Computes : Type 0
  Computes = (i : ℕ) (y : B) (q : F) → i < n → Called g f (i, tt) y q → (q ≡ f) × (y ≡ h i)

  each : (ys : List B) (i m : ℕ) → i + m ≡ n → Computes → IsFromFnResultFrom g f ys i m → (k : ℕ) (e : B) → i ≤ k → k < n → get_or ys k e ≡ h k
  each ys i zero ends computes made k e low high = absurd (omega arith)
  each ys i (suc m) ends computes (q, y, at_y, called, rest) k e low high =
      let said = computes i y q (omega arith) called in
      elim (cases_eq k i) [
        | inl same ↦ ap (λ j. get_or ys j e) same ∙ at_y.1 e ∙ said.1 ∙ sym (ap h same)
        | inr other ↦ each ys (i + 1) m (omega arith) computes (subst (λ p. IsFromFnResultFrom g p ys (i + 1) m) said.0 rest) k e (omega arith) high
      ]

-- the function of the element at each number
pub mapped : {F A B : Type 0} {g : Mut F (ℕ × Unit {0}) B} {f : F} (h : A → B) (xs : List A) (ys : List B) (n : ℕ) (d : A) → length xs ≡ n → IsFromFnResult g f ys n → Computes g f n (λ k. h (get_or xs k d)) → ys ≡ map h xs
mapped {g} {f} h xs ys n d long m computes =
    same_lists ys (map h xs) (m.long ∙ sym long ∙ sym (length-map xs h)) (λ k e lt.
    each g f n (λ j. h (get_or xs j d)) ys 0 n (omega arith) computes m.each k e (omega arith) (omega (arith, m.long)) ∙ sym (get_or-map h xs k d e (omega (arith, m.long))))
