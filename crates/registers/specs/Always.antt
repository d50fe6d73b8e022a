-- What holds of the registers of every program, whatever its orders did.
use Rattle.registers.specs.Sound.{Sound}
use Rattle.registers.specs.declared.registers.Registers.TheInside.{Inside}
use Rattle.registers.specs.declared.registers.Registers.TheView.{view, invariant}

-- whatever the fields are that registers may have, what they hold is sound
abbrev pub AlwaysSound : Type 0
AlwaysSound = (r : Inside) → invariant r → Sound (view r)
