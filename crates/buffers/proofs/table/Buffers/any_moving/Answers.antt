use Rattle.std.proofs.Common.{◌∙◌, rules}
use borrow.Author.Tests.{tests}
use Rattle.std.proofs.lemmas.Iterator.{YieldsList-from_slice}
use Rattle.std.proofs.lemmas.Iterator.Search.{any_from_yields_List}
use Rattle.buffers.specs.declared.buffer.Buffer.{Buffer}
use Rattle.buffers.specs.Buffers.{is_moving}
use Rattle.buffers.proofs.Locks.{any_of}
use Rattle.buffers.proofs.table.Buffers.any_moving.Goals as goal

pub returns : goal.returns
returns c =
    let test = λ (b : Buffer). is_moving b.work in
    any_from_yields_List test _ _ c.any.result c.any.ensures.ran (YieldsList-from_slice c.args.self.now.table cc) (λ x b q k. search (rules, tests))
    ∙ any_of test c.args.self.now.table c.args.self.now.sixteen
