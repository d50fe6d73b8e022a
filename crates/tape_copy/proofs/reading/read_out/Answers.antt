use Rattle.std.proofs.Common.{◌≡◌, true, false, not, rules, Err, vec_items, vec_len, vec_capacity, sym, ap, ◌∙◌, arith}
use denote.Enum.Bare.{same_true, sameb}
use Rattle.device.specs.contracts.refusal.Refusal.{the_type}
use Rattle.device.specs.declared.refusal.Refusal.{Refusal}
use Rattle.device.specs.declared.refusal.Refusal.TheVariants.{Damaged}
use Rattle.device.specs.Bank.{bank_answer}
use Rattle.device.specs.Meaning.{read_answer, read_after}
use Rattle.device.specs.Words.{words}
use Rattle.device.specs.Bank.{standing}
use Rattle.device.proofs.Standing.{standing_after, beside_none, beside_more, beside_all}
use Rattle.tape_copy.proofs.Passing.{started, more, skip, stopped, renamed, room, few_left}
use Rattle.tape_copy.proofs.reading.read_out.Goals as goal
use Rattle.tape_copy.proofs.reading.read_out.Goals.{in-Ok, in-Err-2}

-- the test for a damaged cell
same : (r : Refusal) → false ≡ not (sameb the_type r Damaged) → r ≡ Damaged
same r e = same_true the_type (search rules) r Damaged (grind arith)

other : (r : Refusal) → true ≡ not (sameb the_type r Damaged) → r ≡ Damaged → ⊥
other r e d = let z : true ≡ false = e ∙ ap (λ x. not (sameb the_type x Damaged)) d in cc

pub loop-number-init : goal.loop-number-init
loop-number-init g c =
    let b = g.B.Bank.devices c.args.bank.now in
    let d = standing b c.args.n in
    let s = c.in_ok-symbols.ensures in
    let t = c.in_ok-damaged.ensures in (
      renamed d d 0 s.items t.items (started d),
      beside_none c.args.n b,
      omega (arith, s.len),
      omega (arith, t.len),
      omega (arith, s.capacity, c.from-most.ensures),
      omega (arith, t.capacity, c.from-most.ensures),
    )

pub push_reserved-requires : goal.push_reserved-requires
push_reserved-requires g c =
    let d = g.B.Bank.devices in
    let n = c.args.n in
    let here = d c.loop-number.bank in
    let told = c.in-Ok.ensures in
    let sound = (g.met.B.Bank.whole c.loop-number.bank).each_sound n in
    let whole = (g.met.B.Bank.whole c.args.bank.now).each_sound n in
    let on = more _ (standing here n) _ _ _ sound c.loop-number.invariant.0 c.in-Ok.symbol {rest' = standing (d c.read.new.self) n} told.answer (standing_after read_after here n {b' = d c.read.new.self} told.after) in
    let few = room _ (standing here n) _ _ _ sound c.loop-number.invariant.0 whole on in
    omega (arith, few, c.loop-number.invariant.2, c.loop-number.invariant.4)

pub unreachable-requires : goal.unreachable-requires
unreachable-requires g c =
    let b = g.B.Bank.devices c.args.bank.now in
    let few = few_left (standing b c.args.n) ((g.met.B.Bank.whole c.args.bank.now).each_sound c.args.n) in
    omega (arith, few, c.loop-number.invariant.0.left)

pub returns-in-Err : goal.returns-in-Err
returns-in-Err g c =
    let d = g.B.Bank.devices in
    let n = c.args.n in
    let here = d c.loop-number.bank in
    let told = c.in-Err.ensures in
    let sound = (g.met.B.Bank.whole c.loop-number.bank).each_sound n in
    let end = stopped _ (standing here n) _ _ _ sound c.loop-number.invariant.0 c.in-Err.stop {rest' = standing (d c.read.new.self) n} (other c.in-Err.stop c.if-ne.ensures) told.answer (standing_after read_after here n {b' = d c.read.new.self} told.after) in
    record {
      answer = (end.symbols, end.damaged, end.why);
      after = beside_all n (d c.args.bank.now) (d c.read.new.self) _ (beside_more read_after n (d c.args.bank.now) here {b' = d c.read.new.self} told.after c.loop-number.invariant.1) end.out;
    }

pub push_reserved-requires-in-Err-2 : goal.push_reserved-requires-in-Err-2
push_reserved-requires-in-Err-2 g c =
    let d = g.B.Bank.devices in
    let n = c.args.n in
    let here = d c.loop-number.bank in
    let told = c.in-Err.ensures in
    let sound = (g.met.B.Bank.whole c.loop-number.bank).each_sound n in
    let whole = (g.met.B.Bank.whole c.args.bank.now).each_sound n in
    let damaged : Err "damaged" ≡ bank_answer read_answer here n = sym (ap (λ r. Err (words r)) (same c.in-Err.stop c.if-ne.ensures)) ∙ told.answer in
    let on = skip _ (standing here n) _ _ _ sound c.loop-number.invariant.0 {rest' = standing (d c.read.new.self) n} damaged (standing_after read_after here n {b' = d c.read.new.self} told.after) in
    let few = room _ (standing here n) _ _ _ sound c.loop-number.invariant.0 whole on in
    omega (arith, few, c.loop-number.invariant.3, c.loop-number.invariant.5)

pub loop-number-preserved : goal.loop-number-preserved
loop-number-preserved g c =
    let d = g.B.Bank.devices in
    let n = c.args.n in
    let here = d c.loop-number.bank in
    let sound = (g.met.B.Bank.whole c.loop-number.bank).each_sound n in
    let inv = c.loop-number.invariant in
    let beside = beside_more read_after n (d c.args.bank.now) here {b' = d c.read.new.self} c.read.ensures.after inv.1 in
    let then = standing_after read_after here n {b' = d c.read.new.self} c.read.ensures.after in
    elim c.match-read.branch [
      | in-Ok w ↦
          let push = w.push_reserved.ensures in
          let on = more _ (standing here n) _ _ _ sound inv.0 w.in-Ok.symbol {rest' = standing (d c.read.new.self) n} w.in-Ok.ensures.answer then in (
            renamed _ _ _ (ap vec_items w.symbols-is ∙ push.items) (ap vec_items w.damaged-is) on,
            beside,
            omega (arith, ap vec_len w.symbols-is, push.len, inv.2),
            omega (arith, ap vec_len w.damaged-is, inv.3),
            omega (arith, ap vec_capacity w.symbols-is, push.capacity, inv.4),
            omega (arith, ap vec_capacity w.damaged-is, inv.5),
          )
      | in-Err-2 w ↦
          let push = w.push_reserved-in-Err-2.ensures in
          let damaged : Err "damaged" ≡ bank_answer read_answer here n = sym (ap (λ r. Err (words r)) (same w.in-Err.stop w.if-ne.ensures)) ∙ w.in-Err.ensures.answer in
          let on = skip _ (standing here n) _ _ _ sound inv.0 {rest' = standing (d c.read.new.self) n} damaged then in (
            renamed _ _ _ (ap vec_items w.symbols-is) (ap vec_items w.damaged-is ∙ push.items) on,
            beside,
            omega (arith, ap vec_len w.symbols-is, inv.2),
            omega (arith, ap vec_len w.damaged-is, push.len, inv.3),
            omega (arith, ap vec_capacity w.symbols-is, inv.4),
            omega (arith, ap vec_capacity w.damaged-is, push.capacity, inv.5),
          )
    ]
