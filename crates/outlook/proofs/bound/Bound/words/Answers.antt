use Rattle.std.proofs.Common.{codes, sym, ap}
use Rattle.outlook.specs.Words.{bound_words}
use Rattle.outlook.proofs.bound.Bound.words.Goals as goal

pub returns-in-Place : goal.returns-in-Place
returns-in-Place c = sym (ap (λ x. codes (bound_words x)) c.in-Place.is)

pub returns-in-OrderLock : goal.returns-in-OrderLock
returns-in-OrderLock c = sym (ap (λ x. codes (bound_words x)) c.in-OrderLock.is)

pub returns-in-Command : goal.returns-in-Command
returns-in-Command c = sym (ap (λ x. codes (bound_words x)) c.in-Command.is)

pub returns-in-Operands : goal.returns-in-Operands
returns-in-Operands c = sym (ap (λ x. codes (bound_words x)) c.in-Operands.is)

pub returns-in-CellsShort : goal.returns-in-CellsShort
returns-in-CellsShort c = sym (ap (λ x. codes (bound_words x)) c.in-CellsShort.is)

pub returns-in-CellsOver : goal.returns-in-CellsOver
returns-in-CellsOver c = sym (ap (λ x. codes (bound_words x)) c.in-CellsOver.is)

pub returns-in-ShiftLength : goal.returns-in-ShiftLength
returns-in-ShiftLength c = sym (ap (λ x. codes (bound_words x)) c.in-ShiftLength.is)

pub returns-in-Address : goal.returns-in-Address
returns-in-Address c = sym (ap (λ x. codes (bound_words x)) c.in-Address.is)

pub returns-in-NoBuffer : goal.returns-in-NoBuffer
returns-in-NoBuffer c = sym (ap (λ x. codes (bound_words x)) c.in-NoBuffer.is)

pub returns-in-Limits : goal.returns-in-Limits
returns-in-Limits c = sym (ap (λ x. codes (bound_words x)) c.in-Limits.is)

pub returns-in-Busy : goal.returns-in-Busy
returns-in-Busy c = sym (ap (λ x. codes (bound_words x)) c.in-Busy.is)

pub returns-in-WordLock : goal.returns-in-WordLock
returns-in-WordLock c = sym (ap (λ x. codes (bound_words x)) c.in-WordLock.is)
