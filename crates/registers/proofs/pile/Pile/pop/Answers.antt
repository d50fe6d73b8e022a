use Rattle.std.proofs.Common.{take, arith}
use Rattle.std.proofs.lemmas.List.{length-reverse, length-take}
use Rattle.registers.proofs.Piles.{tidy_pop}
use Rattle.registers.proofs.pile.Pile.pop.Goals as goal

pub returns-clause-tidy : goal.returns-clause-tidy
returns-clause-tidy g c =
    let p = c.args.self.now in
    λ tidy. record {
      within = omega (arith, tidy.within);
      clear = tidy_pop c.args.blank p.cells p.depth (omega (arith, c.requires, length-reverse (take p.depth p.cells), length-take p.depth p.cells)) tidy.within p.whole tidy.clear;
    }
