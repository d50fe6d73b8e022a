use Rattle.std.proofs.Common.{rules, ◌≡◌, ◌↔◌, IsTrue, Bool, List, ℤ, refl, ◌∙◌, subst, arith}
use borrow.Author.Tests.{tests}
use Rattle.std.specs.Ordering.{int_eq}
use Rattle.std.specs.Cmp.Lexicographic.{pointwise}
use Rattle.std.proofs.lemmas.Grind.{common_steps}
use Rattle.std.proofs.lemmas.Bool.Decides.{Decides-int_eq}
use Rattle.std.proofs.lemmas.Slice.Eq.{slice_eq-Decides}
use Rattle.word_values.proofs.Mapping.{signed_each}
use Rattle.word_values.proofs.answer.Answer.is.Goals as goal

-- r is what `==` says of xs and ys
compared : (xs ys zs : List ℤ) (r : Bool) → r ≡ pointwise int_eq xs ys → ys ≡ zs → IsTrue r ↔ (xs ≡ zs)
compared xs ys zs r e same = subst (λ v. IsTrue r ↔ (xs ≡ v)) same (slice_eq-Decides Decides-int_eq xs ys r e)

pub returns-in-Word : goal.returns-in-Word
returns-in-Word c = compared _ _ _ _ c.eq-in-Word.ensures (grind (arith, common_steps))

pub returns-in-Part : goal.returns-in-Part
returns-in-Part c = compared _ _ _ _ c.eq.ensures (search rules)

pub returns-in-Value : goal.returns-in-Value
returns-in-Value c = compared _ _ _ _ c.eq-in-Value.ensures (search rules)

pub returns-in-Checked : goal.returns-in-Checked
returns-in-Checked c = compared _ _ _ _ c.eq-in-Checked.ensures (search rules)

pub returns-in-Q : goal.returns-in-Q
returns-in-Q c =
    let mapped = signed_each _ _ 3 refl c.map.ensures.items (λ p q x y k. search (rules, tests)) in
    compared _ _ _ _ c.eq-in-Q.ensures (c.as_slice-in-Q.ensures ∙ mapped ∙ search rules)

pub returns-in-Symbols : goal.returns-in-Symbols
returns-in-Symbols c =
    let mapped = signed_each _ _ 8 (search rules) c.map-in-Symbols.ensures.items (λ p q x y k. search (rules, tests)) in
    compared _ _ _ _ c.eq-in-Symbols.ensures (c.as_slice-in-Symbols.ensures ∙ mapped ∙ search rules)
