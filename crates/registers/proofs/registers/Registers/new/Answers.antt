use Rattle.std.proofs.Common.{rules, subst}
use Rattle.registers.specs.Pile.{Tidy}
use Rattle.registers.specs.Registers.{word_of, same_word}
use Rattle.registers.proofs.registers.Registers.new.Goals as goal

pub invariant_of-result : goal.invariant_of-result
invariant_of-result c = record {
  nest_tidy = subst (λ w. Tidy w c.new.result) (same_word c.default.result (word_of 0) c.default.ensures) c.new.ensures.tidy;
  links_tidy = c.new-2.ensures.tidy;
  sixteen = search rules;
  zero = search rules;
}
