use Rattle.std.proofs.Common.{codes, sym, ap}
use Rattle.host.specs.Causes.{cause_name, cause_of}
use Rattle.host.proofs.cause.Cause.name.Goals as goal

pub returns-in-Device : goal.returns-in-Device
returns-in-Device c = sym (ap (λ x. codes (cause_name (cause_of x))) c.in-Device.is)

pub returns-in-Out : goal.returns-in-Out
returns-in-Out c = sym (ap (λ x. codes (cause_name (cause_of x))) c.in-Out.is)

pub returns-in-Count : goal.returns-in-Count
returns-in-Count c = sym (ap (λ x. codes (cause_name (cause_of x))) c.in-Count.is)
