use Rattle.std.proofs.Common.{get_or, refl, arith}
use Rattle.device.specs.Meaning.{Meaning, write_after}
use Rattle.device.specs.Words.{words}
use Rattle.device.specs.Bank.{standing}
use Rattle.device.proofs.Standing.{standing_after, beside_none, beside_more, beside_all}
use Rattle.tape_copy.proofs.Sending.{started, more, stopped, finished}
use Rattle.tape_copy.proofs.writing.write_in.Goals as goal

pub loop-i-init : goal.loop-i-init
loop-i-init g c = (started _, beside_none c.args.n (g.B.Bank.devices c.args.bank.now))

pub loop-i-preserved : goal.loop-i-preserved
loop-i-preserved g c =
    let d = g.B.Bank.devices in
    let n = c.args.n in
    let ss = c.args.symbols.now in
    let i = c.loop-i.i in
    let s = get_or ss i 0 in
    let f : Meaning → Meaning = λ m. write_after m s in
    let here = d c.loop-i.bank in
    let told = c.in_default.ensures in (
      more _ ss i s (standing here n) c.loop-i-test.true refl c.loop-i.invariant.0 {d' = standing (d c.write.new.self) n} (standing_after f here n {b' = d c.write.new.self} told.after) told.answer,
      beside_more f n (d c.args.bank.now) here {b' = d c.write.new.self} told.after c.loop-i.invariant.1,
    )

pub returns-in-Err : goal.returns-in-Err
returns-in-Err g c =
    let d = g.B.Bank.devices in
    let n = c.args.n in
    let ss = c.args.symbols.now in
    let i = c.loop-i.i in
    let s = get_or ss i 0 in
    let f : Meaning → Meaning = λ m. write_after m s in
    let here = d c.loop-i.bank in
    let told = c.in-Err.ensures in
    let end = stopped _ ss i s (standing here n) c.loop-i-test.true refl c.loop-i.invariant.0 {d' = standing (d c.write.new.self) n} (standing_after f here n {b' = d c.write.new.self} told.after) (words c.in-Err.refusal) told.answer in
    record {
      count = end.0;
      refusal = end.1;
      after = beside_all n (d c.args.bank.now) (d c.write.new.self) _ (beside_more f n (d c.args.bank.now) here {b' = d c.write.new.self} told.after c.loop-i.invariant.1) end.2;
    }

pub returns : goal.returns
returns g c =
    let d = g.B.Bank.devices in
    let n = c.args.n in
    let here = d c.loop-i.bank in
    let end = finished _ c.args.symbols.now c.loop-i.i (standing here n) c.loop-i-test.false c.loop-i.invariant.0 in
    record {
      count = omega (arith, end.0);
      refusal = end.1;
      after = beside_all n (d c.args.bank.now) here _ c.loop-i.invariant.1 end.2;
    }
