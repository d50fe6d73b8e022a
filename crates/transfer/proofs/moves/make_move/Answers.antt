use Rattle.std.proofs.Common.{arith}
use Rattle.device.specs.Bank.{standing}
use Rattle.transfer.proofs.Slices.{read_confined}
use Rattle.transfer.proofs.moves.make_move.Goals as goal

pub returns-in-Read-clause-words : goal.returns-in-Read-clause-words
returns-in-Read-clause-words g c =
    let d = standing (g.B.Bank.devices c.args.bank.now) c.args.n in
    let sound = (g.met.B.Bank.whole c.args.bank.now).each_sound c.args.n in
    let words = c.addresses-words.ensures in
    read_confined c.in-Read.ends c.args.x c.in-Read.is _ _ c.args.area.now d sound (omega (arith, words.start)) (omega (arith, words.end)) _ c.read_words.ensures.area
