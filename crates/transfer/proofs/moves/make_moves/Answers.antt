use Rattle.std.proofs.Common.{◌≡◌, sym, ap, ◌∙◌, subst}
use Rattle.std.proofs.lemmas.List.{drop_all}
use Rattle.device.specs.Bank.{standing}
use Rattle.transfer.specs.Moves.{Left, in_turn}
use Rattle.transfer.specs.Keeping.{Keeps}
use Rattle.device.proofs.Standing.{beside_all}
use Rattle.transfer.proofs.Effects.{in_turn_more, in_turn_none}
use Rattle.transfer.proofs.Keeping.{keeps}
use Rattle.transfer.proofs.moves.make_moves.Goals as goal

pub loop-x-preserved : goal.loop-x-preserved
loop-x-preserved g c =
    let d = g.B.Bank.devices in
    in_turn_more c.args.n c.args.moves.now c.loop-x.x-index _ (d c.args.bank.now) (d c.loop-x.bank) (d c.make_move.new.bank) _ c.loop-x.area c.make_move.new.area
    c.loop-x-test.true c.make_move.ensures.area c.make_move.ensures.after c.loop-x.invariant.0 c.loop-x.invariant.1

pub returns : goal.returns
returns g c =
    let b₀ = g.B.Bank.devices c.args.bank.now in
    let d = standing b₀ c.args.n in
    let b = g.B.Bank.devices c.loop-x.bank in
    let made : in_turn c.args.moves.now c.args.area.now d ≡ record { area = c.loop-x.area; device = standing b c.args.n } =
    sym c.loop-x.invariant.0
    ∙ ap (λ l. in_turn l c.loop-x.area (standing b c.args.n)) (drop_all c.loop-x.x-index c.args.moves.now c.loop-x-test.false)
    ∙ in_turn_none c.loop-x.area (standing b c.args.n) in
    let area = sym (ap (λ (y : Left). y.area) made) in
    record {
      area = area;
      after = beside_all c.args.n b₀ b _ c.loop-x.invariant.1 (sym (ap (λ (y : Left). y.device) made));
      keeps = subst (Keeps c.args.moves.now d c.args.area.now) (sym area) (keeps c.args.moves.now d c.args.area.now ((g.met.B.Bank.whole c.args.bank.now).each_sound c.args.n));
    }
