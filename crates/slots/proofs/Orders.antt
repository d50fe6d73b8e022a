-- The next order of the program in a slot.
use Rattle.std.proofs.Common.{◌≡◌, ℕ, ◌+◌, ◌-◌, ◌<◌, ◌≤◌, List, length, get_or, slice_range, set, Some, None, Ok, Option, Result, Bool, true, refl, ap, ◌∙◌, sym, inl, inr, arith}
use mathlib.Core.Path.{fun_ext}
use borrow.Rule.Slice.PartMut.{put_mid}
use Rattle.std.specs.Option.{option_map}
use Rattle.std.proofs.lemmas.Bool.{cases_lt}
use Rattle.std.proofs.lemmas.Bool.Decides.{nat_tests}
use Rattle.std.proofs.lemmas.Grind.{common_steps}
use Rattle.std.proofs.lemmas.List.{get_or_default, get_or_past}
use Rattle.device.specs.Meaning.{Meaning}
use Rattle.buffers.specs.declared.buffer.Buffer.{Buffer}
use Rattle.outlook.specs.Own.{Own, owning, own_of, lines_of}
use Rattle.outlook.specs.Outlook.{foreseen}
use Rattle.outlook.specs.declared.bound.Bound.{Bound}
use Rattle.outlook.specs.declared.next.Next.{Next}
use Rattle.registers.specs.Registers.{Regs}
use Rattle.program.specs.Effects.{tried, carried}
use Rattle.program.specs.Kept.{Kept, update}
use Rattle.program.specs.Told.{Told}
use Rattle.host.specs.Steps.{tried_by}
use Rattle.host.specs.Turns.{try}
use Rattle.host.specs.World.{World, Program, part, put}
use Rattle.host.proofs.Lens.{put_back}
use Rattle.slots.specs.Ahead.{ahead_of}
use Rattle.slots.specs.Carried.{Carried}
use Rattle.slots.specs.Held.{program_of}
use Rattle.slots.specs.declared.slots.Program.{Program as ToldProgram}
use Rattle.slots.proofs.Areas.{part_written}

-- what is ahead, from the outlook on the part of the store
pub ahead_is :
    (p : ℕ) (g : Program) (store area : List ℕ) (buffers : ℕ → Buffer) (ready : Bool) (bank : ℕ → Option Meaning) (r : Result Next Bound) (from to : ℕ)
    → from ≡ g.base
    → to ≡ g.base + g.size
    → to ≤ length store
    → area ≡ slice_range store from to
    → r ≡ foreseen (owning area g.regs ready (lines_of p buffers bank))
    → Some r ≡ ahead_of p (Some g) store buffers ready bank
unfolding part
ahead_is p g store area buffers ready bank r from to ef et inside ea was =
    let n : to - from ≡ g.size = omega arith in
    grind (arith, nat_tests)

-- what is ahead of a program: its area is in the store, and the outlook gives it
pub record Known (p : ℕ) (g : Program) (store : List ℕ) (buffers : ℕ → Buffer) (r : Result Next Bound) : Type 0 where
  pub inside : g.base + g.size ≤ length store
  pub ahead : (ready : Bool) (bank : ℕ → Option Meaning) → r ≡ foreseen (owning (part g.base g.size store) g.regs ready (lines_of p buffers bank))

-- what the code found ahead
abbrev FoundAhead : ℕ → Option Program → List ℕ → (ℕ → Buffer) → Result Next Bound → Type 0
FoundAhead p o store buffers r = (ready : Bool) (bank : ℕ → Option Meaning) → Some r ≡ ahead_of p o store buffers ready bank

pub known : (p : ℕ) (g : Program) (store : List ℕ) (buffers : ℕ → Buffer) (r : Result Next Bound) → FoundAhead p (Some g) store buffers r → Known p g store buffers r
known p g store buffers r e = record {
  inside = (let f = e true (λ k. None) in grind (arith, nat_tests));
  ahead = λ ready bank. (let f = e ready bank in grind (arith, nat_tests));
}

-- nothing is ahead where no program is
pub none_ahead : (p : ℕ) (store : List ℕ) (buffers : ℕ → Buffer) (r : Result Next Bound) → FoundAhead p None store buffers r → ⊥
none_ahead p store buffers r e = let z = e true (λ k. None) in cc

-- where something is ahead, the table has the slot, and what is read there is the slot's
pub ahead_at :
    (t : List (Option ToldProgram)) (i p : ℕ) (o : Option ToldProgram) (store : List ℕ) (buffers : ℕ → Buffer) (r : Result Next Bound)
    → i ≡ p
    → FoundAhead p (option_map program_of (get_or t p None)) store buffers r
    → (p < length t) × (get_or t p None ≡ get_or t i o)
ahead_at t i p o store buffers r e found = elim (cases_lt p (length t)) [
  | inl below ↦ (below, get_or_default t p None o below ∙ ap (λ k. get_or t k o) (sym e))
  | inr past ↦ absurd (none_ahead p store buffers r (λ ready bank.
      found ready bank ∙ ap (λ x. ahead_of p (option_map program_of x) store buffers ready bank) (get_or_past t p None past)))
]

-- an order carried out is the order tried
tried_is : (o q : Own) (next : Next) (x : Told) → Ok next ≡ foreseen o → carried next o ≡ (q, x) → try o ≡ (q, x)
unfolding try
tried_is o q next x e f = ap (λ r. tried r o) (sym e) ∙ f

-- from what carrying the order out did to a program's registers and its area
pub carried_out :
    (p : ℕ) (g : Program) (regs : Regs) (store area : List ℕ) (buffers buffers' : ℕ → Buffer) (bank bank' : ℕ → Option Meaning) (next : Next) (x : Told)
    → length area ≡ g.size
    → ((ready : Bool) (bank : ℕ → Option Meaning) → Ok next ≡ foreseen (own_of p g.regs (part g.base g.size store) ready buffers bank))
    → ((ready : Bool) → carried next (own_of p g.regs (part g.base g.size store) ready buffers bank) ≡ (own_of p regs area ready buffers' bank', x))
    → Kept p buffers buffers' bank bank'
    → Carried p g (record { base = g.base; size = g.size; regs = regs; ready = g.ready }) store (put_mid g.base g.size store area) buffers buffers' bank bank' x
carried_out p g regs store area buffers buffers' bank bank' next x long known own kept = record {
  owns = own_of p regs area g.ready buffers' bank';
  tried = tried_is _ _ next x (known g.ready bank) (own g.ready);
  then = refl;
  stored = part_written g.base g.size area store long;
  lines = refl;
  kept = kept;
}

-- the programs of a table with one changed
pub one_set : (t : List (Option ToldProgram)) (i p : ℕ) (o : Option ToldProgram) (k : ℕ) → i ≡ p → p < length t
    → option_map program_of (get_or (set t i o) k None) ≡ update (λ j. option_map program_of (get_or t j None)) p (option_map program_of o) k
one_set t i p o k e h = grind (arith, common_steps, nat_tests)

-- the world of slots with one changed
pub carried_world :
    (p i : ℕ) (t : List (Option ToldProgram)) (g : Program) (g' : ToldProgram) (store store' : List ℕ) (buffers buffers' : ℕ → Buffer) (bank bank' : ℕ → Option Meaning) (x : Told)
    → i ≡ p
    → p < length t
    → option_map program_of (get_or t p None) ≡ Some g
    → Carried p g (program_of g') store store' buffers buffers' bank bank' x
    → ◌≡◌ {A = World × Told}
    (record { store = store'; slots = λ k. option_map program_of (get_or (set t i (Some g')) k None); buffers = buffers'; bank = bank' }, x)
    (tried_by p (record { store = store; slots = λ k. option_map program_of (get_or t k None); buffers = buffers; bank = bank }) (option_map program_of (get_or t p None)))
carried_world p i t g g' store store' buffers buffers' bank bank' x e h there c =
    ap (λ w. (w, x))
    (put_back p g before c.owns store' (λ k. option_map program_of (get_or (set t i (Some g')) k None)) buffers' bank' c.kept c.stored
    (fun_ext (λ k. one_set t i p (Some g') k e h ∙ ap (λ y. update before.slots p (Some y) k) c.then)) c.lines)
    ∙ ap (λ (r : Own × Told). (put p g r.0 before, r.1)) (sym c.tried)
    ∙ ap (tried_by p before) (sym there)
  where
    before : World
    before = record { store = store; slots = λ k. option_map program_of (get_or t k None); buffers = buffers; bank = bank }
