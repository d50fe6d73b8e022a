use Rattle.std.proofs.Common.{◌+◌, ◌-◌, sym, ap, ◌∙◌, inl, inr}
use Rattle.buffers.specs.Buffers.{any_below, locks}
use Rattle.buffers.proofs.Found.{any_never}
use Rattle.buffers.proofs.buffer.Work.locks_any.Goals as goal

pub returns-in-Idle : goal.returns-in-Idle
returns-in-Idle c =
    let n = c.args.last + 1 - c.args.first in
    elim c.in-Idle.is [
      | inl idle ↦ sym (ap (λ w. any_below n (λ j. locks w (c.args.first + j))) idle ∙ any_never n)
      | inr seeking ↦ sym (ap (λ w. any_below n (λ j. locks w (c.args.first + j))) seeking ∙ any_never n)
    ]
