-- What trying an order, and a turn, keep of what the program owns: how many words its area has, and which buffers are its.
-- Of the order code, the proofs about turns and runs use this alone.
use Rattle.std.proofs.Common.{◌≡◌, ℕ, zero, suc, Bool, true, false, cond, ◌≢◌, ◌⊎◌, length, is_some, Some, None, Option, sym, refl, ap, ◌∙◌, inl, inr}
use Rattle.std.proofs.lemmas.Bool.{cases_eq}
use Rattle.outlook.specs.Own.{Own, Line}
use Rattle.program.specs.Kept.{update}
use Rattle.program.specs.Told.{Told}
use Rattle.host.specs.Turns.{Turn, Stop, try, stops, stopped, left_by, one_more, orders}
use Rattle.host.proofs.Changes.{OneLine, Changes, changes_try}
use Rattle.host.proofs.Lens.{update_same, update_other}

pub record Keeps (o q : Own) : Type 0 where
  pub words : length q.area ≡ length o.area
  pub lines : (k : ℕ) → is_some (q.lines k) ≡ is_some (o.lines k)

pub keeps_same : (o : Own) → Keeps o o
keeps_same o = record { words = refl; lines = λ k. refl }

pub keeps_after : {o m q : Own} → Keeps o m → Keeps m q → Keeps o q
keeps_after a b = record { words = b.words ∙ a.words; lines = λ k. b.lines k ∙ a.lines k }

-- a line that is another, or as it was
pub line_at : (f : ℕ → Option Line) (at : ℕ) (l : Line) (k : ℕ) → ((k ≡ at) × (update f at (Some l) k ≡ Some l)) ⊎ ((k ≢ at) × (update f at (Some l) k ≡ f k))
line_at f at l k =
    elim (cases_eq k at) [
      | inl same ↦ inl (same, ap (update f at (Some l)) same ∙ update_same f at (Some l))
      | inr other ↦ inr (other, update_other f at (Some l) k other)
    ]

pub keeps_changes : {o q : Own} → Changes o q → Keeps o q
keeps_changes {o} {q} h = record { words = h.words; lines = λ k. elim h.lines [ inl same ↦ ap (λ f. is_some (f k)) same | inr one ↦ there one k ] }
  where
    there : OneLine o q.lines → (k : ℕ) → is_some (q.lines k) ≡ is_some (o.lines k)
    there one k = ap (λ f. is_some (f k)) one.is ∙ elim (line_at o.lines one.buffer one.line k) [
      | inl a ↦ ap is_some a.1 ∙ sym (ap (λ j. is_some (o.lines j)) a.0 ∙ one.its)
      | inr a ↦ ap is_some a.1
    ]

pub keeps_try : (o : Own) → Keeps o (try o).0
keeps_try o = keeps_changes (changes_try o)

pub keeps_left : (o : Own) (r : Own × Told) → Keeps o r.0 → Keeps o (left_by r)
keeps_left o r h = at (stops r.1)
  where
    at : (b : Bool) → Keeps o (cond b (stopped r.0) r.0)
    at true = record { words = h.words; lines = h.lines }
    at false = h

keeps_more : (o : Own) (t : Turn) (s : Option Stop) → Keeps o t.own → Keeps o (one_more s t).own
keeps_more o t (Some s) h = h
keeps_more o t None h = keeps_left o (try t.own) (keeps_after h (keeps_try t.own))

pub keeps_orders : (n : ℕ) (o : Own) → Keeps o (orders n o).own
unfolding orders
keeps_orders zero o = keeps_same o
keeps_orders (suc n) o = keeps_more o (orders n o) (orders n o).stop (keeps_orders n o)
