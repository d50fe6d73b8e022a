use Rattle.std.proofs.Common.{length, arith}
use Rattle.outlook.proofs.Outside.{never, none, by_end}
use Rattle.outlook.proofs.view.View.is_outside.Goals as goal
use Rattle.outlook.proofs.view.View.is_outside.Goals.{then-size-gt10922-via-then-size-gt10922, then-size-gt10922-via-else-size-gt10922+then-bytes-eq0}

pub returns : goal.returns
returns c = by_end c.args.place c.args.bytes (length c.args.self.now.area.now) c.ranges.place.fits c.min.result (omega arith) c.if-size-gt10922.false (cc)

pub returns-then-size-gt10922 : goal.returns-then-size-gt10922
returns-then-size-gt10922 c = elim c.then-size-gt10922.branch [
  | then-size-gt10922-via-then-size-gt10922 w ↦ never c.args.place c.args.bytes (length c.args.self.now.area.now) c.ranges.place.fits w.if-size-gt10922.true
  | then-size-gt10922-via-else-size-gt10922+then-bytes-eq0 w ↦ none c.args.place c.args.bytes (length c.args.self.now.area.now) c.ranges.place.fits w.if-bytes-eq0.true
]
