use Rattle.buffers.proofs.Found.{meet_by, meet_not}
use Rattle.buffers.proofs.buffer.groups_meet.Goals as goal

pub returns-then-first-last : goal.returns-then-first-last
returns-then-first-last c = meet_by c.args.from c.args.to c.args.first c.args.last c.max.result c.min.result c.if-first-last.true c.max.ensures c.min.ensures

pub returns-else-first-last : goal.returns-else-first-last
returns-else-first-last c = meet_not c.args.from c.args.to c.args.first c.args.last c.if-first-last.false
