-- What holds of all registers.
use Rattle.std.proofs.Common.{ℕ, zero, suc, ◌^◌, ◌<◌, ◌≤◌, List, [], ◌∷◌, map, length, get_or, take, arith, lit<}
use Rattle.std.proofs.lemmas.List.{length-map, length-reverse, length-take-le}
use Rattle.word.specs.declared.word.Word.{Word}
use Rattle.registers.specs.Registers.{bits_of}
use Rattle.registers.specs.Sound.{Sound}
use Rattle.registers.specs.Pile.{stacked}
use Rattle.registers.specs.declared.pile.Pile.{Pile}
use Rattle.registers.specs.declared.registers.Registers.TheInside.{Inside}
use Rattle.registers.specs.declared.registers.Registers.TheView.{view, invariant}

pile_fits : {T : Type 0} (p : Pile T) → length (stacked p) ≤ 16
pile_fits p = omega (arith, p.fits, length-reverse (take p.depth p.cells), length-take-le p.depth p.cells (omega (arith, p.whole, p.fits)))

words_fit : (ws : List Word) (i : ℕ) → get_or (map bits_of ws) i 0 < 2 ^ 48
words_fit [] i = lit< tt
words_fit (w ∷ ws) zero = w.ok
words_fit (w ∷ ws) (suc i) = words_fit ws i

pub sound : (r : Inside) → invariant r → Sound (view r)
sound r held = record {
  nest_fits = simp length-map (pile_fits r.nest);
  links_fit = pile_fits r.links;
  words_fit = words_fit (stacked r.nest);
  sixteen = held.sixteen;
  zero = held.zero;
}
