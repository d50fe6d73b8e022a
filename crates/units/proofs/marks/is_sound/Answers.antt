use Rattle.std.proofs.Common.{false, arith}
use lib.Count.{ones, ones_in}
use Rattle.std.proofs.lemmas.List.FromFn.{get_or-map-range_with_len}
use Rattle.units.specs.Frames.{sound_frame}
use Rattle.units.proofs.marks.is_sound.Goals as goal

-- The table is the list of what the rule gives at 0, 1, .. 255: antt compares the 256 marks.
pub returns : goal.returns
unfolding sound_frame ones ones_in
returns c = get_or-map-range_with_len sound_frame 0 256 c.from.result c.args.frame false (omega arith) (omega arith)
