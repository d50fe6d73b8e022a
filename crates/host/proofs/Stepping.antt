-- A turn is entering, its steps, and handing back.
use Rattle.std.proofs.Common.{◌≡◌, ℕ, zero, suc, ◌+◌, ◌^◌, ◌<◌, ◌≤◌, true, false, eqb, ltb, length, Some, None, Option, sym, refl, ap, ◌∙◌, ap₂, inl, inr, arith}
use mathlib.Core.Path.{fun_ext}
use Rattle.std.proofs.lemmas.Bool.Decides.{nat_tests}
use Rattle.std.proofs.lemmas.Bool.{cases_eq, cond-true, cond-false, le-ltb, eq-eqb}
use Rattle.outlook.specs.Own.{Own}
use Rattle.program.specs.Kept.{update}
use Rattle.program.specs.Told.{Told}
use Rattle.buffers.specs.Buffers.{holds}
use Rattle.host.specs.World.{World, Program, own_in, with_own, put}
use Rattle.host.specs.Causes.{Cause, Ending}
use Rattle.host.specs.Turns.{Turn, Stop, try, cause_by, stops, done_by, left_by, stop_at, one_more, orders}
use Rattle.host.specs.Numbers.{Answer}
use Rattle.host.specs.Numbers.Answer.{ended}
use Rattle.host.specs.Calls.{step_checks, first_failing, refusal, turned, turn_report, perform, by_check}
use Rattle.host.specs.Calls.Call.{turn}
use Rattle.host.specs.Steps.{Token, Stepped, entered, stepped, step_on, step_checked, step_in, tried_in, ending_at, counted, handed_back, ending_or_count, place_in, steps}
use Rattle.host.proofs.Changes.{ready_try}
use Rattle.host.proofs.Keeps.{Keeps, keeps_left, keeps_try, keeps_after, keeps_orders}
use Rattle.host.proofs.Lens.{FitsIn, own_put, slot_put, put_put, put_back, line_there, update_other}
use Rattle.host.proofs.Parts.{length_part, length_put_part, put_same}

-- the checks of a step that pass

pub step_passes : (p : ℕ) (w : World) (g : Program) → p ≤ 3 → w.slots p ≡ Some g → g.ready ≡ true → g.base + g.size ≤ length w.store → first_failing (step_checks p w) ≡ None
step_passes p w g number there ready inside = grind (arith, nat_tests)

-- what a step that passes its checks may rest on
pub record Granted (p : ℕ) (w : World) : Type 0 where
  pub program : Program
  pub number : p ≤ 3
  pub there : w.slots p ≡ Some program
  pub ready : program.ready ≡ true
  pub inside : program.base + program.size ≤ length w.store

pub step_granted : (p : ℕ) (w : World) → first_failing (step_checks p w) ≡ None → Granted p w
step_granted p w e = at (w.slots p) refl
  where
    at : (o : Option Program) → w.slots p ≡ o → Granted p w
    at None there = absurd (grind (arith, nat_tests))
    at (Some g) there = record {
      program = g;
      number = grind (arith, nat_tests);
      there = there;
      ready = grind (arith, nat_tests);
      inside = grind (arith, nat_tests);
    }

-- what a program owns, put back
pub put_own : (p : ℕ) (g : Program) (w : World) → w.slots p ≡ Some g → g.base + g.size ≤ length w.store → put p g (own_in p g w) w ≡ w
put_own p g w there inside =
    sym (put_back p g w (own_in p g w) w.store w.slots w.buffers w.bank (record { owners = λ k. refl; others = λ k h. refl; devices = λ k h. refl })
    (sym (put_same g.base g.size w.store inside)) (fun_ext slot) refl)
  where
    slot : (k : ℕ) → w.slots k ≡ update w.slots p (Some g) k
    slot k = elim (cases_eq k p) [
      | inl same ↦ ap w.slots same ∙ there ∙ sym (cond-true (eqb k p) (Some g) (w.slots k) (eq-eqb k p same))
      | inr other ↦ sym (update_other w.slots p (Some g) k other)
    ]

-- a program that was ready and had no cause is ready
ready_told : (x : Told) → cause_by x ≡ None → stops x ≡ false
ready_told x e = grind arith

no_cause : (place : ℕ) (c : Option Cause) → stop_at place c ≡ None → c ≡ None
no_cause place c e = grind arith

ready_more : (t : Turn) (s : Option Stop) → t.stop ≡ s → (t.stop ≡ None → t.own.ready ≡ true) → (one_more s t).stop ≡ None → (one_more s t).own.ready ≡ true
ready_more t s es h e = grind (arith, ready_told, no_cause, ready_try)

pub ready_orders : (n : ℕ) (o : Own) → o.ready ≡ true → (orders n o).stop ≡ None → (orders n o).own.ready ≡ true
unfolding orders
ready_orders zero o r e = r
ready_orders (suc n) o r e = ready_more (orders n o) (orders n o).stop refl (ready_orders n o r) e

-- at most one order is done by a step
done_one : (x : Told) → done_by x ≤ 1
done_one x = grind arith

counts_more : (n : ℕ) (t : Turn) (s : Option Stop) → t.orders ≤ n → (one_more s t).orders ≤ suc n
counts_more n t s h = grind (arith, done_one)

pub counts_orders : (n : ℕ) (o : Own) → (orders n o).orders ≤ n
unfolding orders
counts_orders zero o = omega arith
counts_orders (suc n) o = counts_more n (orders n o) (orders n o).stop (counts_orders n o)

-- a turn so far, as its token
abbrev ending_by : ℕ → Option Stop → Option Ending
ending_by p None = None
ending_by p (Some s) = Some (record { slot = p; place = s.place; cause = s.cause })

abbrev pub token_of : ℕ → Turn → Token
token_of p t = record { slot = p; ending = ending_by p t.stop; orders = t.orders }

ending_same : (p place : ℕ) (c : Option Cause) → ending_at p place c ≡ ending_by p (stop_at place c)
ending_same p place c = grind arith

module _ (p : ℕ) (w : World) (granted : Granted p w) where
  abbrev g : Program
  g = granted.program

  abbrev pub owns : Own
  owns = own_in p g w

  fits_by : (q : Own) → Keeps owns q → FitsIn p g w q
  fits_by q k = record {
    words = k.words ∙ length_part g.base g.size w.store granted.inside;
    lines = λ j. k.lines j ∙ line_there (holds p (w.buffers j)) (w.bank j) (w.buffers j).work;
  }

  pub fits : (n : ℕ) → FitsIn p g w (orders n owns).own
  fits n = fits_by (orders n owns).own (keeps_orders n owns)

  -- the world after some orders of a turn
  abbrev pub world_at : Turn → World
  world_at t = put p g t.own w

  long : (o : Own) → length o.area ≡ g.size → length (put p g o w).store ≡ length w.store
  unfolding put
  long o e = length_put_part g.base o.area w.store (let i = granted.inside in omega arith)

  module _ (t : Turn) (kept : Keeps owns t.own) (small : t.orders + 1 < 2 ^ 64) where
    fit : FitsIn p g w t.own
    fit = fits_by t.own kept

    tried : Own × Told
    tried = try t.own

    -- a step that tries an order
    step_tries : t.stop ≡ None → t.own.ready ≡ true
        → step_on None (token_of p t) (world_at t) ≡ tried_in (token_of p t) (world_at t) (with_own g t.own) (try t.own)
    step_tries none ready =
        ap (step_checked (token_of p t) (world_at t))
        (step_passes p (world_at t) (with_own g t.own) granted.number (slot_put p g w t.own fit) ready (omega (arith, granted.inside, long t.own fit.words)))
        ∙ ap (step_in (token_of p t) (world_at t)) (slot_put p g w t.own fit)
        ∙ ap (λ o. tried_in (token_of p t) (world_at t) (with_own g t.own) (try o)) (own_put p g w t.own fit granted.inside)

    step_world : (s : Option Stop) → t.stop ≡ s → (s ≡ None → t.own.ready ≡ true) → (stepped (token_of p t) (world_at t)).world ≡ world_at (one_more s t)
    unfolding stepped
    step_world (Some s) es r = ap (λ x. (step_on (ending_by p x) (token_of p t) (world_at t)).world) es
    step_world None es r =
        ap (λ x. (step_on (ending_by p x) (token_of p t) (world_at t)).world) es
        ∙ ap (λ (x : Stepped). x.world) (step_tries es (r refl))
        ∙ put_put p g w t.own fit (left_by (try t.own)) (fits_by _ (keeps_left owns (try t.own) (keeps_after kept (keeps_try t.own)))) granted.inside

    step_token : (s : Option Stop) → t.stop ≡ s → (s ≡ None → t.own.ready ≡ true) → (stepped (token_of p t) (world_at t)).token ≡ token_of p (one_more s t)
    unfolding stepped
    step_token (Some s) es r = ap (λ x. (step_on (ending_by p x) (token_of p t) (world_at t)).token) es
    step_token None es r =
        ap (λ x. (step_on (ending_by p x) (token_of p t) (world_at t)).token) es
        ∙ ap (λ (x : Stepped). x.token) (step_tries es (r refl))
        ∙ (λ i. record {
          slot = p;
          ending = ending_same p t.own.regs.place (cause_by (try t.own).1) i;
          orders = (let d = done_one (try t.own).1 in let e : counted t.orders (done_by (try t.own).1) ≡ t.orders + done_by (try t.own).1 = omega arith in e) i;
        })

  pub steps_are : (n : ℕ) → n < 2 ^ 64 → steps n (entered p) w ≡ (world_at (orders n owns), token_of p (orders n owns))
  unfolding steps orders
  steps_are zero small = ap (λ (x : World). (x, entered p)) (sym (put_own p g w granted.there granted.inside))
  steps_are (suc n) small =
      let t = orders n owns in
      let before = steps_are n (omega arith) in
      let few = counts_orders n owns in
      let ready : t.stop ≡ None → t.own.ready ≡ true = ready_orders n owns granted.ready in
      ap (λ (x : World × Token). ((stepped x.1 x.0).world, (stepped x.1 x.0).token)) before
      ∙ ap₂ (λ (x : World) (y : Token). (x, y))
      (step_world t (keeps_orders n owns) (omega arith) t.stop refl ready)
      (step_token t (keeps_orders n owns) (omega arith) t.stop refl ready)

  report_by : (t : Turn) → FitsIn p g w t.own → handed_back (token_of p t) (world_at t) ≡ turn_report p t
  report_by t fit =
      ap (λ n. record { ending = ending_or_count (ending_by p t.stop) p n; orders = t.orders })
      (cond-false (ltb 3 p) 0 _ (le-ltb 3 p granted.number) ∙ ap place_in (slot_put p g w t.own fit))
      ∙ at t.stop
    where
      at : (s : Option Stop) → record { ending = ending_or_count (ending_by p s) p t.own.regs.place; orders = t.orders } ≡ turn_report p (record { own = t.own; stop = s; orders = t.orders })
      at (Some s) = refl
      at None = refl

  pub turn_by_steps : (n : ℕ) → n < 2 ^ 64
      → ◌≡◌ {A = World × Answer}
      ((steps n (entered p) w).0, ended (handed_back (steps n (entered p) w).1 (steps n (entered p) w).0))
      (turned p n w (w.slots p))
  unfolding turned
  turn_by_steps n small =
      ap (λ (x : World × Token). (x.0, ended (handed_back x.1 x.0))) (steps_are n small)
      ∙ ap (λ r. (world_at (orders n owns), ended r)) (report_by (orders n owns) (fits n))
      ∙ ap (turned p n w) (sym granted.there)

-- a turn that passes its checks
pub turn_is_steps : (p n : ℕ) (w : World) → n < 2 ^ 64 → refusal (turn p n) w ≡ None
    → ◌≡◌ {A = World × Answer}
    ((steps n (entered p) w).0, ended (handed_back (steps n (entered p) w).1 (steps n (entered p) w).0))
    (perform (turn p n) w)
turn_is_steps p n w small e = turn_by_steps p w (step_granted p w e) n small ∙ ap (by_check (turn p n) w) (sym e)

-- after a cause, further steps change nothing
stays : (t : Token) (w : World) (e : Ending) → t.ending ≡ Some e → ((stepped t w).world ≡ w) × ((stepped t w).token ≡ t)
unfolding stepped
stays t w e h = (ap (λ x. (step_on x t w).world) h, ap (λ x. (step_on x t w).token) h)

pub steps_stay : (k n : ℕ) (t : Token) (w : World) (e : Ending) → k ≤ n → (steps k t w).1.ending ≡ Some e → steps n t w ≡ steps k t w
unfolding steps
steps_stay k zero t w e h x = let z : 0 ≡ k = omega arith in ap (λ j. steps j t w) z
steps_stay k (suc n) t w e h x =
    elim (cases_eq k (suc n)) [
      | inl same ↦ ap (λ j. steps j t w) (sym same)
      | inr other ↦
          let before = steps_stay k n t w e (omega arith) x in
          let s = stays (steps n t w).1 (steps n t w).0 e (ap (λ (y : World × Token). y.1.ending) before ∙ x) in
          ap₂ (λ (a : World) (b : Token). (a, b)) s.0 s.1 ∙ before
    ]
