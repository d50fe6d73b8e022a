use Rattle.std.proofs.Common.{codes, sym, ap}
use Rattle.device.specs.Words.{words}
use Rattle.device.proofs.refusal.Refusal.words.Goals as goal

pub returns-in-WrongWay : goal.returns-in-WrongWay
returns-in-WrongWay c = sym (ap (λ x. codes (words x)) c.in-WrongWay.is)

pub returns-in-NoMore : goal.returns-in-NoMore
returns-in-NoMore c = sym (ap (λ x. codes (words x)) c.in-NoMore.is)

pub returns-in-Damaged : goal.returns-in-Damaged
returns-in-Damaged c = sym (ap (λ x. codes (words x)) c.in-Damaged.is)

pub returns-in-NoRing : goal.returns-in-NoRing
returns-in-NoRing c = sym (ap (λ x. codes (words x)) c.in-NoRing.is)

pub returns-in-Full : goal.returns-in-Full
returns-in-Full c = sym (ap (λ x. codes (words x)) c.in-Full.is)

pub returns-in-NoSuchCell : goal.returns-in-NoSuchCell
returns-in-NoSuchCell c = sym (ap (λ x. codes (words x)) c.in-NoSuchCell.is)

pub returns-in-NothingThere : goal.returns-in-NothingThere
returns-in-NothingThere c = sym (ap (λ x. codes (words x)) c.in-NothingThere.is)
