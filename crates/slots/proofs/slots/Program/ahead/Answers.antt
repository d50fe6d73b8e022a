use Rattle.buffers.specs.Buffers.{records}
use Rattle.slots.specs.Held.{program_of}
use Rattle.slots.proofs.Orders.{ahead_is}
use Rattle.slots.proofs.slots.Program.ahead.Goals as goal

pub returns : goal.returns
returns c ready bank =
    let got = c.in_ok-area.ensures.lookup.0 in
    ahead_is c.args.p (program_of c.args.self.now) c.args.store.now c.in_ok-area.area.now (records c.args.buffers.now.table) ready bank c.outlook.result
    c.range.result.start c.range.result.end c.range.ensures.start c.range.ensures.end got.1 got.2 (c.outlook.ensures ready bank)
