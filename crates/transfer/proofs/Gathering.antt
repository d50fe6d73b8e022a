-- One more symbol of a word that is read from a bank.
use Rattle.std.proofs.Common.{◌≡◌, ℕ, zero, suc, ◌+◌, ◌*◌, ◌%◌, ◌^◌, ◌<◌, ◌≤◌, Bool, true, false, [], ◌∷◌, length, get_or, IfSome, Some, None, Ok, Err, Option, refl, ap, arith, pow-add}
use Prim.Native.String.{String}
use Rattle.std.proofs.lemmas.Nat.{mul-le}
use Rattle.std.proofs.lemmas.Bool.Decides.{nat_tests}
use Rattle.device.specs.Meaning.{Meaning, Sound, read_answer, read_after}
use Rattle.device.specs.Bank.{Devices, Whole, answer_of, after_of, bank_answer}
use Rattle.transfer.specs.Symbols.{Run, gather, go_on, behind, ending, packed}
use Rattle.transfer.specs.Symbols.Stop.{all, message_end, refused}
use Rattle.transfer.proofs.Movement.{count}

-- a symbol that is read is below 64
pub read_below : (m : Meaning) → Sound m → (s : ℕ) → Ok s ≡ read_answer m → s < 64
read_below m h s e = grind (arith, nat_tests, h.cells_small m.head)

pub symbol_below : (b : Devices) → Whole b → (n s : ℕ) → Ok s ≡ bank_answer read_answer b n → s < 64
symbol_below b w n s = at (get_or b n None) (w.each_sound n)
  where
    at : (o : Option Meaning) → IfSome o Sound → Ok s ≡ answer_of read_answer o → s < 64
    at None h e = cc
    at (Some m) h e = read_below m h s e

pub weight : (j s : ℕ) → s < 64 → s * 2 ^ (6 * j) + 2 ^ (6 * j) ≤ 2 ^ (6 * suc j)
weight j s h =
    let six : 6 * suc j ≡ 6 * j + 6 = omega arith in
    let split : 2 ^ (6 * j + 6) ≡ 2 ^ (6 * j) * 2 ^ 6 = pow-add 2 (6 * j) 6 in
    let top : s * 2 ^ (6 * j) ≤ 63 * 2 ^ (6 * j) = mul-le s (2 ^ (6 * j)) 63 (2 ^ (6 * j)) (omega arith) (omega arith) in
    rw six (omega (arith, split, top))

-- k symbols are still to come, and the word so far is w
pub record Going (whole rest : Run) (k w : ℕ) : Type 0 where
  pub word : w + packed k rest.symbols ≡ packed 8 whole.symbols
  pub room : w + 2 ^ (6 * k) ≤ 2 ^ 48

pub packed_none : (k : ℕ) → packed k [] ≡ 0
unfolding packed
packed_none zero = refl
packed_none (suc k) = refl

-- one symbol more of k
module _ (ends : Bool) (d after : Option Meaning) (ed : after ≡ after_of read_after d) (whole : Run) (k j w : ℕ) (ek : k ≡ suc j) (g : Going whole (gather ends k d) k w) where
  abbrev rest : Run
  rest = gather ends j after

  module _ (s : ℕ) (answer : Ok s ≡ answer_of read_answer d) (small : s < 64) where
    -- the code shifts in 64 bits, and nothing is lost
    pub fits : w + s * 2 ^ (6 * j) % 2 ^ 64 + 2 ^ (6 * j) ≤ 2 ^ 48
    fits = omega (arith, weight j s small, ap (λ i. 2 ^ (6 * i)) ek, g.room)

    shifted : s * 2 ^ (6 * j) % 2 ^ 64 ≡ s * 2 ^ (6 * j)
    shifted = omega (arith, weight j s small, ap (λ i. 2 ^ (6 * i)) ek, g.room)

    next : gather ends k d ≡ go_on ends (Ok s) after rest
    unfolding gather
    next = rw (ek, ed, ← answer) refl

    word : (x : Run) → gather ends k d ≡ x → w + packed (suc j) x.symbols ≡ packed 8 whole.symbols
    word x e = grind (arith, ek, g.word)

    -- and is not the last
    module _ (on : ending ends s ≡ false) where
      on_run : gather ends k d ≡ behind s rest
      on_run = grind (arith, nat_tests, next)

      pub goes_on : Going whole rest j (w + s * 2 ^ (6 * j) % 2 ^ 64)
      unfolding packed
      goes_on = record { word = omega (arith, shifted, word (behind s rest) on_run); room = fits }

      pub one_more : count (gather ends k d) ≡ record { moved = 1 + length rest.symbols; stop = rest.stop; device = rest.device }
      one_more = grind (arith, on_run)

    -- or is
    module _ (off : ending ends s ≡ true) where
      off_run : gather ends k d ≡ record { symbols = s ∷ []; stop = message_end; device = after }
      off_run = grind (arith, nat_tests, next)

      pub ends_here : w + s * 2 ^ (6 * j) % 2 ^ 64 ≡ packed 8 whole.symbols
      unfolding packed
      ends_here = omega (arith, shifted, word _ off_run, packed_none j)

      pub one_last : count (gather ends k d) ≡ record { moved = 1; stop = message_end; device = after }
      one_last = ap count off_run

  -- or a refusal
  module _ (e : String) (answer : Err e ≡ answer_of read_answer d) where
    none_run : gather ends k d ≡ record { symbols = []; stop = refused e; device = after }
    unfolding gather
    none_run = rw (ek, ed, ← answer) refl

    pub none_more : count (gather ends k d) ≡ record { moved = 0; stop = refused e; device = after }
    none_more = ap count none_run

    pub ended : w ≡ packed 8 whole.symbols
    ended = grind (arith, none_run, g.word, packed_none k)

-- or the word is full
pub full : (ends : Bool) (d : Option Meaning) (whole : Run) (k w : ℕ) → k ≡ 0 → Going whole (gather ends k d) k w → w ≡ packed 8 whole.symbols
unfolding packed
full ends d whole k w e g = let none = ap (λ i. packed i (gather ends k d).symbols) e in omega (arith, g.word)

pub nothing_left : (ends : Bool) (d : Option Meaning) (k : ℕ) → k ≡ 0 → count (gather ends k d) ≡ record { moved = 0; stop = all; device = d }
unfolding gather
nothing_left ends d k e = rw e refl
