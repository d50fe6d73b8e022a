use Rattle.std.proofs.Common.{length, arith}
use Rattle.std.proofs.lemmas.List.FromFn.{fill_by_all}
use Rattle.host.specs.Calls.{image_word, image_words}
use Rattle.slots.proofs.area.fill.Goals as goal

pub returns : goal.returns
unfolding image_words
returns c =
    fill_by_all (image_word c.args.image.now) c.loop-k.area (length c.args.area.now) 0 c.loop-k.auto.area
    (λ k h. c.loop-k.invariant k (omega arith))
