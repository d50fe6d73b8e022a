-- What a program owns, as a part of the world that is read and replaced.
use Rattle.std.proofs.Common.{◌≡◌, ℕ, ◌+◌, ◌≤◌, Bool, true, false, cond, eqb, ◌≢◌, List, length, is_some, Some, Option, sym, refl, ap, ◌∙◌, inl, inr, arith}
use mathlib.Core.Path.{fun_ext}
use Rattle.std.proofs.lemmas.Bool.{cases_eq, cond-true, cond-false, eq-eqb, ne_eqb}
use Rattle.device.specs.Meaning.{Meaning}
use Rattle.buffers.specs.declared.buffer.Work.{Work}
use Rattle.buffers.specs.declared.buffer.Buffer.{Buffer}
use Rattle.buffers.specs.Buffers.{holds, owner_is}
use Rattle.outlook.specs.Own.{Own, Line, line_if, lines_of}
use Rattle.program.specs.Kept.{Kept, update}
use Rattle.host.specs.World.{World, Program, put_part, own_in, owned_by, owned, with_own, line_put, device_put, put}
use Rattle.host.proofs.Parts.{part_put, put_put as put_part_twice}

-- a function with another value at one number

pub update_same : {X : Type 0} (f : ℕ → X) (at : ℕ) (x : X) → update f at x at ≡ x
update_same f at x = cond-true (eqb at at) x (f at) (eq-eqb at at refl)

pub update_other : {X : Type 0} (f : ℕ → X) (at : ℕ) (x : X) (k : ℕ) → k ≢ at → update f at x k ≡ f k
update_other f at x k ne = cond-false (eqb k at) x (f k) (ne_eqb k at ne)

pub update_twice : {X : Type 0} (f : ℕ → X) (at : ℕ) (x y : X) → update (update f at x) at y ≡ update f at y
update_twice f at x y = fun_ext (λ k. elim (cases_eq k at) [
  | inl same ↦ cond-true (eqb k at) y _ (eq-eqb k at same) ∙ sym (cond-true (eqb k at) y _ (eq-eqb k at same))
  | inr other ↦ update_other (update f at x) at y k other ∙ update_other f at x k other ∙ sym (update_other f at y k other)
])

-- a line put and read again

kept_owner : (h : Bool) (b : Buffer) (l : Option Line) → (cond h (line_put b l) b).owner ≡ b.owner
kept_owner h b l = grind arith

pub put_holds : (p : ℕ) (g : Program) (o : Own) (w : World) (q k : ℕ) → holds q ((put p g o w).buffers k) ≡ holds q (w.buffers k)
unfolding put
put_holds p g o w q k = ap (owner_is q) (kept_owner (holds p (w.buffers k)) (w.buffers k) (o.lines k))

line_back : (h : Bool) (b : Buffer) (d : Option Meaning) (l : Option Line) → is_some l ≡ h
    → line_if h (cond h (device_put d l) d) (cond h (line_put b l) b).work ≡ l
line_back h b d l e = grind arith

twice_work : (h : Bool) (b : Buffer) (l m : Option Line) → is_some l ≡ h → is_some m ≡ h
    → cond h (line_put (cond h (line_put b l) b) m) (cond h (line_put b l) b) ≡ cond h (line_put b m) b
twice_work h b l m e f = grind arith

twice_device : (h : Bool) (d : Option Meaning) (l m : Option Line) → is_some l ≡ h → is_some m ≡ h
    → cond h (device_put (cond h (device_put d l) d) m) (cond h (device_put d l) d) ≡ cond h (device_put d m) d
twice_device h d l m e f = grind arith

-- What is put in a program's place has to fit it: as many words, and a line for each buffer that it has.
pub record FitsIn (p : ℕ) (g : Program) (w : World) (o : Own) : Type 0 where
  pub words : length o.area ≡ g.size
  pub lines : (k : ℕ) → is_some (o.lines k) ≡ holds p (w.buffers k)

pub own_path : (o q : Own) → o.area ≡ q.area → o.regs ≡ q.regs → o.ready ≡ q.ready → ((k : ℕ) → o.lines k ≡ q.lines k) → o ≡ q
own_path o q a r s l = λ i. record { area = a i; regs = r i; ready = s i; lines = λ k. l k i }

module _ (p : ℕ) (g : Program) (w : World) (o : Own) (fits : FitsIn p g w o) where
  pub put_lines : (k : ℕ) → lines_of p (put p g o w).buffers (put p g o w).bank k ≡ o.lines k
  unfolding put
  put_lines k =
      ap (λ h. line_if h ((put p g o w).bank k) ((put p g o w).buffers k).work) (put_holds p g o w p k)
      ∙ line_back (holds p (w.buffers k)) (w.buffers k) (w.bank k) (o.lines k) (fits.lines k)

  -- what is put is owned
  pub own_put : g.base + g.size ≤ length w.store → own_in p (with_own g o) (put p g o w) ≡ o
  unfolding put
  own_put inside = own_path _ o (part_put g.base g.size o.area w.store fits.words inside) refl refl put_lines

  pub slot_put : (put p g o w).slots p ≡ Some (with_own g o)
  unfolding put
  slot_put = update_same w.slots p (Some (with_own g o))

  pub owned_put : g.base + g.size ≤ length w.store → owned p (put p g o w) ≡ Some o
  owned_put inside = ap (owned_by p (put p g o w)) slot_put ∙ ap Some (own_put inside)

  -- of two puts the second stays
  pub put_put : (q : Own) → FitsIn p g w q → g.base + g.size ≤ length w.store → put p (with_own g o) q (put p g o w) ≡ put p g q w
  unfolding put
  put_put q f inside = λ i. record {
    store = put_part_twice g.base q.area o.area w.store (f.words ∙ sym fits.words) (let l = fits.words in omega arith) i;
    slots = update_twice w.slots p (Some (with_own g o)) (Some (with_own g q)) i;
    buffers = fun_ext (λ k.
        ap (λ h. cond h (line_put ((put p g o w).buffers k) (q.lines k)) ((put p g o w).buffers k)) (put_holds p g o w p k)
        ∙ twice_work (holds p (w.buffers k)) (w.buffers k) (o.lines k) (q.lines k) (fits.lines k) (f.lines k)) i;
    bank = fun_ext (λ k.
        ap (λ h. cond h (device_put ((put p g o w).bank k) (q.lines k)) ((put p g o w).bank k)) (put_holds p g o w p k)
        ∙ twice_device (holds p (w.buffers k)) (w.bank k) (o.lines k) (q.lines k) (fits.lines k) (f.lines k)) i;
  }

-- what a program owns fits its place
pub line_there : (h : Bool) (d : Option Meaning) (b : Work) → is_some (line_if h d b) ≡ h
line_there h d b = grind arith

-- From what the code did to what the program owned: buffers and devices that are another's are as they were, so the
-- world is the old one with what the program owns now put in place.
module _ (p : ℕ) (buffers buffers' : ℕ → Buffer) (bank bank' : ℕ → Option Meaning) (kept : Kept p buffers buffers' bank bank') where
  buffer_back : (k : ℕ) (h : Bool) → holds p (buffers k) ≡ h → cond h (line_put (buffers k) (line_if h (bank' k) (buffers' k).work)) (buffers k) ≡ buffers' k
  buffer_back k true e = λ i. record { owner = sym (kept.owners k) i; work = (buffers' k).work }
  buffer_back k false e = sym (kept.others k e)

  device_back : (k : ℕ) (h : Bool) → holds p (buffers k) ≡ h → cond h (device_put (bank k) (line_if h (bank' k) (buffers' k).work)) (bank k) ≡ bank' k
  device_back k true e = refl
  device_back k false e = sym (kept.devices k e)

  still : (k : ℕ) → holds p (buffers' k) ≡ holds p (buffers k)
  still k = ap (owner_is p) (kept.owners k)

  pub buffers_put : (k : ℕ) → cond (holds p (buffers k)) (line_put (buffers k) (lines_of p buffers' bank' k)) (buffers k) ≡ buffers' k
  buffers_put k =
      ap (λ h. cond (holds p (buffers k)) (line_put (buffers k) (line_if h (bank' k) (buffers' k).work)) (buffers k)) (still k)
      ∙ buffer_back k (holds p (buffers k)) refl

  pub bank_put : (k : ℕ) → cond (holds p (buffers k)) (device_put (bank k) (lines_of p buffers' bank' k)) (bank k) ≡ bank' k
  bank_put k =
      ap (λ h. cond (holds p (buffers k)) (device_put (bank k) (line_if h (bank' k) (buffers' k).work)) (bank k)) (still k)
      ∙ device_back k (holds p (buffers k)) refl

-- the world that was put, from its parts
pub put_back :
    (p : ℕ) (g : Program) (w : World) (o : Own) (store : List ℕ) (slots : ℕ → Option Program) (buffers : ℕ → Buffer) (bank : ℕ → Option Meaning)
    → Kept p w.buffers buffers w.bank bank
    → store ≡ put_part g.base o.area w.store
    → slots ≡ update w.slots p (Some (with_own g o))
    → lines_of p buffers bank ≡ o.lines
    → record { store = store; slots = slots; buffers = buffers; bank = bank } ≡ put p g o w
unfolding put
put_back p g w o store slots buffers bank kept es et el = λ i. record {
  store = es i;
  slots = et i;
  buffers = λ k. (sym (buffers_put p w.buffers buffers w.bank bank kept k) ∙ ap (λ l. cond (holds p (w.buffers k)) (line_put (w.buffers k) (l k)) (w.buffers k)) el) i;
  bank = λ k. (sym (bank_put p w.buffers buffers w.bank bank kept k) ∙ ap (λ l. cond (holds p (w.buffers k)) (device_put (w.bank k) (l k)) (w.bank k)) el) i;
}
