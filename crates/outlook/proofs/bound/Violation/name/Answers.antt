use Rattle.std.proofs.Common.{codes, sym, ap}
use Rattle.outlook.specs.Words.{violation_name}
use Rattle.outlook.proofs.bound.Violation.name.Goals as goal

pub returns-in-Liv : goal.returns-in-Liv
returns-in-Liv c = sym (ap (λ x. codes (violation_name x)) c.in-Liv.is)

pub returns-in-Nouv : goal.returns-in-Nouv
returns-in-Nouv c = sym (ap (λ x. codes (violation_name x)) c.in-Nouv.is)

pub returns-in-Lov : goal.returns-in-Lov
returns-in-Lov c = sym (ap (λ x. codes (violation_name x)) c.in-Lov.is)
