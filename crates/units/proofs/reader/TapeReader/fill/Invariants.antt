use Rattle.std.proofs.Common.{◌≡◌, take, vec_items, vec_len}
use Rattle.units.proofs.reader.TapeReader.fill.Given as goal

abbrev pub invariant-loop-frame : goal.invariant-loop-frame
invariant-loop-frame l = record {
  frames : vec_items l.self.frames ≡ take l.frame-index l.frames;
  count : vec_len l.self.frames ≡ l.frame-index;
  head : l.self.head ≡ 0;
}
