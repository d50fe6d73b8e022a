-- The buffers of a slot, as records and as the lines of its program.
use Rattle.std.proofs.Common.{◌≡◌, ℕ, ◌+◌, ◌-◌, ◌≤◌, Bool, true, false, cond, not, ◌&&◌, ◌||◌, ltb, List, length, is_some, Some, None, Option, sym, refl, ap, ◌∙◌, inl, inr, arith}
use mathlib.Core.Path.{fun_ext}
use Rattle.std.proofs.lemmas.List.{get_or_past}
use Rattle.std.proofs.lemmas.Bool.{cases_lt, le-ltb, or_from}
use Rattle.device.specs.Meaning.{Meaning}
use Rattle.buffers.specs.declared.buffer.Work.{Work}
use Rattle.buffers.specs.declared.buffer.Buffer.{Buffer}
use Rattle.buffers.specs.Buffers.{free, records, holds, locks, any_below, locked_between, work_of}
use Rattle.outlook.specs.Own.{line_if, lines_of, line_work, lines_locked}

line_locks : (h : Bool) (d : Option Meaning) (w : Work) (a : ℕ) → (h && locks w a) ≡ locks (line_work (line_if h d w)) a
line_locks true d w a = refl
line_locks false d w a = refl

pub locked_lines : (slot : ℕ) (buffers : ℕ → Buffer) (bank : ℕ → Option Meaning) (first last : ℕ) → locked_between slot buffers first last ≡ lines_locked (lines_of slot buffers bank) first last
locked_lines slot buffers bank first last =
    ap (any_below (last + 1 - first)) (fun_ext (λ j. ap (any_below 16) (fun_ext (λ k. line_locks (holds slot (buffers k)) (bank k) (buffers k).work (first + j)))))

line_there : (h : Bool) (d : Option Meaning) (w : Work) → is_some (line_if h d w) ≡ h
line_there true d w = refl
line_there false d w = refl

-- a slot's buffer, as the code was told of it
pub record Held (slot n : ℕ) (table : List Buffer) (w : Work) : Type 0 where
  pub within : n ≤ 15
  pub held : holds slot (records table n) ≡ true
  pub same : w ≡ (records table n).work

pub held : (slot n : ℕ) (table : List Buffer) (w : Work) → length table ≡ 16 → Some w ≡ work_of slot (records table n) → Held slot n table w
held slot n table w long e = at (holds slot (records table n)) refl e
  where
    inside : holds slot (records table n) ≡ true → n ≤ 15
    inside h = elim (cases_lt 15 n) [
      | inl far ↦ let past : records table n ≡ free = get_or_past table n free (omega (arith, long)) in
          let t : true ≡ false = sym h ∙ ap (holds slot) past in
          cc
      | inr near ↦ near
    ]

    at : (h : Bool) → holds slot (records table n) ≡ h → Some w ≡ cond h (Some (records table n).work) None → Held slot n table w
    at true eh e = record { within = inside eh; held = eh; same = cc }
    at false eh e = cc

module _ (slot n : ℕ) (table : List Buffer) (bank : ℕ → Option Meaning) where
  pub is_there : (w : Work) → Held slot n table w → (ltb 15 n || not (is_some (lines_of slot (records table) bank n))) ≡ false
  is_there w h = or_from (ltb 15 n) _ (le-ltb 15 n h.within) (ap not (line_there (holds slot (records table n)) (bank n) (records table n).work ∙ h.held))

  pub same_work : (w : Work) → Held slot n table w → line_work (lines_of slot (records table) bank n) ≡ w
  same_work w h = ap (λ b. line_work (line_if b (bank n) (records table n).work)) h.held ∙ sym h.same
