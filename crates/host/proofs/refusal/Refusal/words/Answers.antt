use Rattle.std.proofs.Common.{codes, sym, ap}
use Rattle.host.specs.Numbers.{words}
use Rattle.host.proofs.refusal.Refusal.words.Goals as goal

pub returns-in-SlotOver3 : goal.returns-in-SlotOver3
returns-in-SlotOver3 c = sym (ap (λ x. codes (words x)) c.in-SlotOver3.is)

pub returns-in-BufferOver15 : goal.returns-in-BufferOver15
returns-in-BufferOver15 c = sym (ap (λ x. codes (words x)) c.in-BufferOver15.is)

pub returns-in-AreaShape : goal.returns-in-AreaShape
returns-in-AreaShape c = sym (ap (λ x. codes (words x)) c.in-AreaShape.is)

pub returns-in-AreaPast : goal.returns-in-AreaPast
returns-in-AreaPast c = sym (ap (λ x. codes (words x)) c.in-AreaPast.is)

pub returns-in-ImageLong : goal.returns-in-ImageLong
returns-in-ImageLong c = sym (ap (λ x. codes (words x)) c.in-ImageLong.is)

pub returns-in-SlotInUse : goal.returns-in-SlotInUse
returns-in-SlotInUse c = sym (ap (λ x. codes (words x)) c.in-SlotInUse.is)

pub returns-in-AreaOverlaps : goal.returns-in-AreaOverlaps
returns-in-AreaOverlaps c = sym (ap (λ x. codes (words x)) c.in-AreaOverlaps.is)

pub returns-in-SlotEmpty : goal.returns-in-SlotEmpty
returns-in-SlotEmpty c = sym (ap (λ x. codes (words x)) c.in-SlotEmpty.is)

pub returns-in-BufferTaken : goal.returns-in-BufferTaken
returns-in-BufferTaken c = sym (ap (λ x. codes (words x)) c.in-BufferTaken.is)

pub returns-in-NothingThere : goal.returns-in-NothingThere
returns-in-NothingThere c = sym (ap (λ x. codes (words x)) c.in-NothingThere.is)

pub returns-in-BufferBusy : goal.returns-in-BufferBusy
returns-in-BufferBusy c = sym (ap (λ x. codes (words x)) c.in-BufferBusy.is)

pub returns-in-NotBusy : goal.returns-in-NotBusy
returns-in-NotBusy c = sym (ap (λ x. codes (words x)) c.in-NotBusy.is)

pub returns-in-SlotStopped : goal.returns-in-SlotStopped
returns-in-SlotStopped c = sym (ap (λ x. codes (words x)) c.in-SlotStopped.is)

pub returns-in-StoreShort : goal.returns-in-StoreShort
returns-in-StoreShort c = sym (ap (λ x. codes (words x)) c.in-StoreShort.is)
