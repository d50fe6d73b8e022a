use Rattle.std.proofs.Common.{◌≡◌, map, length, sym, ap, ◌∙◌, subst, rules}
use borrow.Author.Tests.{tests}
use Rattle.std.proofs.lemmas.List.{length-map}
use Rattle.buffers.specs.Buffers.{free, released, Quiet}
use Rattle.buffers.proofs.Locks.{released_quiet}
use Rattle.buffers.proofs.Mapping.{mapped}
use Rattle.buffers.proofs.table.Buffers.release.Goals as goal
use Rattle.buffers.proofs.table.Buffers.release.Goals.{After-from_fn-self}

all : (c : After-from_fn-self) → c.from_fn-self.result ≡ map (released c.args.slot) c.args.self.now.table
all c = mapped (released c.args.slot) c.args.self.now.table c.from_fn-self.result 16 free c.args.self.now.sixteen c.from_fn-self.ensures.items (λ i y q below k. search (rules, tests))

pub returns : goal.returns
returns c = all (goal.at.returns c).After-from_fn-self

pub invariant_of-self : goal.invariant_of-self
invariant_of-self c = record {
  sixteen = ap length (all c) ∙ length-map c.args.self.now.table (released c.args.slot) ∙ c.args.self.now.sixteen;
  quiet = λ e. subst Quiet (sym (all c)) (released_quiet c.args.slot c.args.self.now.table (c.args.self.now.quiet e));
}
