-- From what the code does to the steps of a turn.
use Rattle.std.proofs.Common.{◌≡◌, ℕ, ◌+◌, ◌^◌, ◌<◌, ◌≤◌, Bool, true, false, cond, ltb, length, is_some, Some, None, Err, Option, Result, sym, refl, ap, ◌∙◌, ap₂, arith}
use Rattle.std.proofs.Math.Numerals.{suc-eq-add-one}
use Rattle.std.proofs.lemmas.Bool.Decides.{nat_tests}
use Rattle.std.proofs.lemmas.Bool.{cond-false, le-ltb, ltb-false}
use Rattle.device.specs.Meaning.{Meaning}
use Rattle.outlook.specs.Own.{Own}
use Rattle.outlook.specs.Outlook.{foreseen}
use Rattle.outlook.specs.declared.bound.Bound.{Bound}
use Rattle.outlook.specs.declared.next.Next.{Next}
use Rattle.program.specs.Effects.{tried}
use Rattle.program.specs.Kept.{update}
use Rattle.program.specs.Told.{Told}
use Rattle.program.specs.Told.Told.{broke}
use Rattle.host.specs.World.{World, Program, own_in, with_own, put}
use Rattle.host.specs.Causes.{Ending, Report, endings_of}
use Rattle.host.specs.Numbers.{Answer}
use Rattle.host.specs.Numbers.Answer.{ended}
use Rattle.host.specs.Calls.Call.{turn}
use Rattle.host.specs.Calls.{step_checks, first_failing, refusal, perform}
use Rattle.host.specs.Turns.{try, stops, stopped, left_by}
use Rattle.host.specs.Steps.{Token, StepAnswer, Stepped, by_ending, step_on, step_checked, step_in, stepped, tried_by, told_of, place_in, place_of, steps, entered, handed_back}
use Rattle.host.specs.Steps.StepAnswer.{gave, turned_down}
use Rattle.host.specs.declared.cause.Ending.{Ending as ToldEnding}
use Rattle.host.proofs.Lens.{update_same, update_twice}
use Rattle.host.proofs.Stepping.{Granted, step_passes, put_own, steps_stay, turn_is_steps}
use Rattle.slots.specs.Ahead.{ahead_of}
use Rattle.slots.specs.Held.{halted, state_of}
use Rattle.slots.specs.declared.slots.State.{State}
use Rattle.slots.specs.declared.slots.State.TheVariants.{Empty, Ready, Stopped}
use Rattle.machine.specs.Settled.{Settled, stopped_in}

-- a step that gives the turn's cause again, and one that is turned down

pub given_again : (t : Token) (w : World) (e : Ending) → t.ending ≡ Some e → record { world = w; token = t; answer = gave e } ≡ stepped t w
unfolding stepped
given_again t w e h = sym (ap (λ x. step_on x t w) h)

pub refused_step : (t : Token) (w : World) (n : ℕ) → t.ending ≡ None → first_failing (step_checks t.slot w) ≡ Some n → record { world = w; token = t; answer = turned_down n } ≡ stepped t w
unfolding stepped
refused_step t w n h e = sym (ap (λ x. step_on x t w) h ∙ ap (step_checked t w) e)

-- the state that a slot answers, and the check that it fails

abbrev pub answers_state : ℕ → World → Option State
answers_state p w = cond (ltb 3 p) None (Some (state_of (w.slots p)))

pub fails_over : (p : ℕ) (w : World) → None ≡ answers_state p w → first_failing (step_checks p w) ≡ Some 1
fails_over p w e = grind (arith, nat_tests)

pub fails_empty : (p : ℕ) (w : World) → Some Empty ≡ answers_state p w → first_failing (step_checks p w) ≡ Some 10
fails_empty p w e = grind (arith, nat_tests)

pub fails_stopped : (p : ℕ) (w : World) → Some Stopped ≡ answers_state p w → first_failing (step_checks p w) ≡ Some 15
fails_stopped p w e = grind (arith, nat_tests)

-- a program that is ready
pub record IsReady (p : ℕ) (w : World) : Type 0 where
  pub program : Program
  pub number : ltb 3 p ≡ false
  pub there : w.slots p ≡ Some program
  pub ready : program.ready ≡ true

pub ready_there : (p : ℕ) (w : World) → Some Ready ≡ answers_state p w → IsReady p w
ready_there p w e = at (w.slots p) refl
  where
    at : (o : Option Program) → w.slots p ≡ o → IsReady p w
    at None there = absurd (grind (arith, nat_tests))
    at (Some g) there = record { program = g; number = grind (arith, nat_tests); there = there; ready = grind (arith, nat_tests) }

-- what the code found ahead of the program in a slot
abbrev pub FoundAhead : ℕ → World → Option (Result Next Bound) → Type 0
FoundAhead p w a = (ready : Bool) (bank : ℕ → Option Meaning) → a ≡ ahead_of p (w.slots p) w.store w.buffers ready bank

pub fails_short : (p : ℕ) (w : World) (a : Option (Result Next Bound)) → IsReady p w → FoundAhead p w a → a ≡ None → first_failing (step_checks p w) ≡ Some 16
fails_short p w a h found none = let f = found h.program.ready w.bank in grind (arith, nat_tests)

-- a step that tries an order

inside_found : (p : ℕ) (w : World) (a : Option (Result Next Bound)) (r : Result Next Bound) (h : IsReady p w) → FoundAhead p w a → a ≡ Some r → h.program.base + h.program.size ≤ length w.store
inside_found p w a r h found some = let f = found h.program.ready w.bank in grind (arith, nat_tests)

foreseen_found : (p : ℕ) (w : World) (a : Option (Result Next Bound)) (r : Result Next Bound) (h : IsReady p w) → FoundAhead p w a → a ≡ Some r → foreseen (own_in p h.program w) ≡ r
foreseen_found p w a r h found some = let f = found h.program.ready w.bank in grind (arith, nat_tests)

pub granted_ahead : (p : ℕ) (w : World) (a : Option (Result Next Bound)) (r : Result Next Bound) → IsReady p w → FoundAhead p w a → a ≡ Some r → Granted p w
granted_ahead p w a r h found some = record {
  program = h.program;
  number = ltb-false 3 p h.number;
  there = h.there;
  ready = h.ready;
  inside = inside_found p w a r h found some;
}

pub tried_breaks : (p : ℕ) (w : World) (a : Option (Result Next Bound)) (bound : Bound) → IsReady p w → FoundAhead p w a → a ≡ Some (Err bound) → ◌≡◌ {A = World × Told} (w, broke bound) (tried_by p w (w.slots p))
unfolding try
tried_breaks p w a bound h found some =
    let q = own_in p h.program w in
    let e : try q ≡ (q, broke bound) = ap (λ r. tried r q) (foreseen_found p w a (Err bound) h found some) in
    sym (
    ap (tried_by p w) h.there
    ∙ ap (λ (r : Own × Told). (put p h.program r.0 w, r.1)) e
    ∙ ap (λ (v : World). (v, broke bound)) (put_own p h.program w h.there (inside_found p w a (Err bound) h found some))
    )

-- the program stopped where it has to be
settled_put : (p : ℕ) (g : Program) (w : World) (r : Own × Told) → cond (stops r.1) (stopped_in p (put p g r.0 w)) (put p g r.0 w) ≡ put p g (left_by r) w
unfolding put
settled_put p g w r = at (stops r.1)
  where
    at : (b : Bool) → cond b (stopped_in p (put p g r.0 w)) (put p g r.0 w) ≡ put p g (cond b (stopped r.0) r.0) w
    at true = λ i. record {
      store = (put p g r.0 w).store;
      slots = (ap (λ o. update (put p g r.0 w).slots p (halted o)) (update_same w.slots p (Some (with_own g r.0))) ∙ update_twice w.slots p _ _) i;
      buffers = (put p g r.0 w).buffers;
      bank = (put p g r.0 w).bank;
    }
    at false = refl

pub step_settled :
    (t t' : Token) (w tried_world w' : World) (x : Told) (place : ℕ)
    → Granted t.slot w
    → t.ending ≡ None
    → ◌≡◌ {A = World × Told} (tried_world, x) (tried_by t.slot w (w.slots t.slot))
    → place ≡ place_of w.slots t.slot
    → Settled place x t t' tried_world w'
    → record { world = w'; token = t'; answer = by_ending t'.ending } ≡ stepped t w
unfolding stepped
step_settled t t' w tried_world w' x place granted none was placed settled =
    let g = granted.program in
    let r = try (own_in t.slot g w) in
    let e : ◌≡◌ {A = World × Told} (tried_world, x) (put t.slot g r.0 w, r.1) = was ∙ ap (tried_by t.slot w) granted.there in
    let at : place ≡ g.regs.place = placed ∙ cond-false (ltb 3 t.slot) 0 _ (le-ltb 3 t.slot granted.number) ∙ ap place_in granted.there in
    ap₂ (λ (v : World) (u : Token). record { world = v; token = u; answer = by_ending u.ending })
    (settled.world ∙ ap (λ (y : World × Told). cond (stops y.1) (stopped_in t.slot y.0) y.0) e ∙ settled_put t.slot g w r)
    (settled.token ∙ ap₂ (told_of t) at (ap (λ (y : World × Told). y.1) e))
    ∙ sym (
    ap (λ y. step_on y t w) none
    ∙ ap (step_checked t w) (step_passes t.slot w g granted.number granted.there granted.ready granted.inside)
    ∙ ap (step_in t w) granted.there
    )

-- steps one after another

pub none_yet : (t : Token) (w : World) → (w, t) ≡ steps 0 t w
unfolding steps
none_yet t w = refl

pub one_more : (k : ℕ) (t u v : Token) (w y z : World) (a : StepAnswer) → ◌≡◌ {A = World × Token} (y, u) (steps k t w) → record { world = z; token = v; answer = a } ≡ stepped u y → ◌≡◌ {A = World × Token} (z, v) (steps (k + 1) t w)
unfolding steps
one_more k t u v w y z a e f =
    ap (λ (s : Stepped). (s.world, s.token)) f
    ∙ ap (λ (x : World × Token). ((stepped x.1 x.0).world, (stepped x.1 x.0).token)) e
    ∙ ap (λ j. steps j t w) (suc-eq-add-one k)

is_some_ending : (o : Option ToldEnding) → is_some o ≡ is_some (endings_of o)
is_some_ending o = grind arith

-- a turn that has its cause
pub has_ended : (k n : ℕ) (t u : Token) (w y : World) (o : Option ToldEnding) → k ≤ n → ◌≡◌ {A = World × Token} (y, u) (steps k t w) → u.ending ≡ endings_of o → is_some o ≡ true → ◌≡◌ {A = World × Token} (y, u) (steps n t w)
has_ended k n t u w y o h e same some = at (endings_of o) same (sym (is_some_ending o) ∙ some)
  where
    at : (d : Option Ending) → u.ending ≡ d → is_some d ≡ true → ◌≡◌ {A = World × Token} (y, u) (steps n t w)
    at None there s = cc
    at (Some d) there s = e ∙ sym (steps_stay k n t w d h (ap (λ (x : World × Token). x.1.ending) (sym e) ∙ there))

-- a whole turn
pub turn_ran :
    (p n : ℕ) (w y : World) (t u : Token) (r : Report)
    → n < 2 ^ 64
    → None ≡ refusal (turn p n) w
    → t ≡ entered p
    → ◌≡◌ {A = World × Token} (y, u) (steps n t w)
    → r ≡ handed_back u y
    → ◌≡◌ {A = World × Answer} (y, ended r) (perform (turn p n) w)
turn_ran p n w y t u r small granted begun ran told =
    ap (λ x. (y, ended x)) told
    ∙ ap (λ (x : World × Token). (x.0, ended (handed_back x.1 x.0))) (ran ∙ ap (λ x. steps n x w) begun)
    ∙ turn_is_steps p n w small (sym granted)
