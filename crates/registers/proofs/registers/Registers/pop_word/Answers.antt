use Rattle.std.proofs.Common.{sym, subst}
use Rattle.registers.specs.Pile.{Tidy}
use Rattle.registers.specs.Registers.{word_of, same_word}
use Rattle.registers.proofs.registers.Registers.pop_word.Goals as goal

pub invariant_of-self : goal.invariant_of-self
invariant_of-self c =
    let held = c.self.invariant in
    let zero_word = same_word c.default.result (word_of 0) c.default.ensures in
    record {
      nest_tidy = subst (λ w. Tidy w c.pop.new.self) zero_word (c.pop.ensures.tidy (subst (λ w. Tidy w c.self.inside.nest) (sym zero_word) held.nest_tidy));
      links_tidy = held.links_tidy;
      sixteen = held.sixteen;
      zero = held.zero;
    }
