use Rattle.std.proofs.Common.{◌+◌, ◌-◌, ◌&&◌, ◌∙◌, rules}
use borrow.Author.Tests.{tests}
use Rattle.std.proofs.lemmas.Iterator.{YieldsList-from_slice}
use Rattle.std.proofs.lemmas.Iterator.Search.{any_from_yields_List}
use Rattle.buffers.specs.declared.buffer.Buffer.{Buffer}
use Rattle.buffers.specs.Buffers.{records, holds, locks, any_below}
use Rattle.buffers.proofs.Locks.{any_of, by_words, quiet_unlocked}
use Rattle.buffers.proofs.table.Buffers.locked.Goals as goal

pub returns-then-self : goal.returns-then-self
returns-then-self c =
    let test = λ (b : Buffer). holds c.args.slot b && any_below (c.args.last + 1 - c.args.first) (λ j. locks b.work (c.args.first + j)) in
    any_from_yields_List test _ _ c.any.result c.any.ensures.ran (YieldsList-from_slice c.args.self.now.table cc) (λ x b q k. search (rules, tests))
    ∙ any_of test c.args.self.now.table c.args.self.now.sixteen
    ∙ by_words c.args.slot (records c.args.self.now.table) c.args.first c.args.last

pub returns-else-self : goal.returns-else-self
returns-else-self c =
    let b = c.args.self.now in
    c.if-self.false ∙ quiet_unlocked b.table c.args.slot c.args.first c.args.last (b.quiet c.if-self.false)
