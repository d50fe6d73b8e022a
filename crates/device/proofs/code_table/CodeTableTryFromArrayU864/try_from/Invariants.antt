use Rattle.std.proofs.Common.{◌≡◌, ℕ, ◌<◌, get_or}
use Rattle.device.specs.Layers.{occurs}
use Rattle.device.specs.Meaning.{Below}
use Rattle.device.proofs.code_table.CodeTableTryFromArrayU864.try_from.Given as goal

abbrev pub invariant-loop-symbol : goal.invariant-loop-symbol
invariant-loop-symbol l = record {
  places : Below 64 l.place-items;
  once : (k : ℕ) → k < l.symbol → occurs k l.shown ≡ 1;
  inverse : (k : ℕ) → k < l.symbol → get_or l.shown (get_or l.place-items k 0) 0 ≡ k;
}
