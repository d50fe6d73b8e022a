-- What a reader answers, by the cell that the frame under its head makes.
use Rattle.std.proofs.Common.{◌≡◌, ℕ, ◌<◌, List, map, length, get_or, Some, None, Option, sym, refl, arith}
use Rattle.std.specs.Prelude.{IfSome}
use Rattle.std.specs.Option.{ok_or}
use Rattle.std.proofs.lemmas.List.{length-map, get_or-map}
use Rattle.std.proofs.lemmas.Bool.{lt-ltb, ne_eqb}
use Rattle.device.specs.Meaning.{read_answer}
use Rattle.device.specs.Words.{said}
use Rattle.device.specs.declared.refusal.Refusal.TheVariants.{Damaged}
use Rattle.units.specs.Frames.{cell_of, cell_number}
use Rattle.units.specs.Units.{reader_of}

pub read_cell : (frames : List ℕ) (head : ℕ) (cell : Option ℕ) → head < length frames → cell_number cell ≡ cell_of (get_or frames head 0) → IfSome cell (λ symbol. symbol < 64) →
    said (ok_or cell Damaged) ≡ read_answer (reader_of (map cell_of frames) head)
read_cell frames head None inside number small =
    rw (length-map frames cell_of, lt-ltb head (length frames) inside, get_or-map cell_of frames head 0 0 inside, sym number) refl
read_cell frames head (Some symbol) inside number small =
    rw (length-map frames cell_of, lt-ltb head (length frames) inside, get_or-map cell_of frames head 0 0 inside, sym number, ne_eqb symbol 64 (λ q. omega arith)) refl
