-- One more symbol of a word that is written, and one more word.
use Rattle.std.proofs.Common.{◌≡◌, ℕ, zero, suc, ◌+◌, ◌*◌, ◌/◌, ◌%◌, ◌^◌, ◌≤◌, Bool, true, false, cond, List, [], ◌∷◌, ◌++◌, length, get_or, Some, None, Ok, Err, Option, Result, sym, refl, ap, arith}
use Prim.Native.String.{String}
use Rattle.std.proofs.lemmas.List.{length-append}
use Rattle.std.proofs.lemmas.Bool.Decides.{nat_tests}
use Rattle.device.specs.Meaning.{Meaning, write_answer, write_after}
use Rattle.device.specs.Bank.{answer_of, after_of}
use Rattle.transfer.specs.declared.part.Stop.{Stop as Stopped}
use Rattle.transfer.specs.Symbols.{Sent, send, send_on, ending, unpacked, spread, stop_of}
use Rattle.transfer.specs.Symbols.Stop.{all, message_end, refused}
use Rattle.transfer.proofs.Words.{is_all, stops_early}

-- one symbol more of k
module _ (ends : Bool) (d after : Option Meaning) (s : ℕ) (ed : after ≡ after_of (λ m. write_after m s) d) (w k j : ℕ) (ek : k ≡ suc j) (es : s ≡ w / 2 ^ (6 * j) % 64) where
  abbrev rest : Sent
  rest = send ends (unpacked j w) after

  first : {r : Result (Unit {0}) String} → r ≡ answer_of write_answer d → send ends (unpacked k w) d ≡ send_on ends s r after rest
  unfolding send unpacked
  first e = rw (ek, ed, ← e, ← es) refl

  pub symbol_more : Ok tt ≡ answer_of write_answer d → ending ends s ≡ false → send ends (unpacked k w) d ≡ record { moved = 1 + rest.moved; stop = rest.stop; device = rest.device }
  symbol_more e on = grind (arith, nat_tests, first e)

  pub symbol_last : Ok tt ≡ answer_of write_answer d → ending ends s ≡ true → send ends (unpacked k w) d ≡ record { moved = 1; stop = message_end; device = after }
  symbol_last e off = grind (arith, nat_tests, first e)

  pub symbol_refused : (e : String) → Err e ≡ answer_of write_answer d → send ends (unpacked k w) d ≡ record { moved = 0; stop = refused e; device = after }
  symbol_refused e answer = first answer

pub no_symbol : (ends : Bool) (d : Option Meaning) (w k : ℕ) → k ≡ 0 → send ends (unpacked k w) d ≡ record { moved = 0; stop = all; device = d }
unfolding send unpacked
no_symbol ends d w k e = rw e refl

-- what was sent, and more after it unless it was stopped
abbrev pub joined : Sent → Sent → Sent
joined r x = cond (is_all r.stop) (record { moved = r.moved + x.moved; stop = x.stop; device = x.device }) r

module _ (ends : Bool) where
  join_on : (ys : List ℕ) (s : ℕ) (r : Result (Unit {0}) String) (d : Option Meaning) (x y : Sent) → x ≡ joined y (send ends ys y.device) →
      send_on ends s r d x ≡ joined (send_on ends s r d y) (send ends ys (send_on ends s r d y).device)
  join_on ys s r d x y h = grind (arith, nat_tests, h)

  pub send_append : (xs ys : List ℕ) (d : Option Meaning) → send ends (xs ++ ys) d ≡ joined (send ends xs d) (send ends ys (send ends xs d).device)
  unfolding send
  send_append [] ys d = grind (arith, nat_tests)
  send_append (x ∷ xs) ys d = join_on ys x (answer_of write_answer d) (after_of (λ m. write_after m x) d) _ _ (send_append xs ys (after_of (λ m. write_after m x) d))

  -- nothing comes of nothing
  pub send_nothing : (ss : List ℕ) (d : Option Meaning) → d ≡ None → (send ends ss d).device ≡ None
  unfolding send
  send_nothing [] d e = e
  send_nothing (s ∷ ss) d e = ap (λ (x : Option Meaning). (send ends (s ∷ ss) x).device) e

  -- at most as many as were given
  pub most : (ss : List ℕ) (d : Option Meaning) → (send ends ss d).moved ≤ length ss
  unfolding send
  most [] d = omega arith
  most (s ∷ ss) d = grind (arith, nat_tests, most ss (after_of (λ m. write_after m s) d))

pub length_unpacked : (k w : ℕ) → length (unpacked k w) ≡ k
unfolding unpacked
length_unpacked zero w = refl
length_unpacked (suc k) w = ap suc (length_unpacked k w)

pub length_spread : (n a : ℕ) (area : List ℕ) → length (spread n a area) ≡ 8 * n
unfolding spread
length_spread zero a area = refl
length_spread (suc n) a area = grind (arith, length-append, length_unpacked, length_spread n (a + 1) area)

-- one word more of m
module _ (ends : Bool) (d after : Option Meaning) (area : List ℕ) (a m m' : ℕ) (left : m ≡ suc m') where
  abbrev this : Sent
  this = send ends (unpacked 8 (get_or area a 0)) d

  abbrev behind : Sent
  behind = send ends (spread m' (a + 1) area) after

  split : after ≡ this.device → send ends (spread m a area) d ≡ joined this behind
  unfolding spread
  split ed = grind (arith, left, send_append ends (unpacked 8 (get_or area a 0)) (spread m' (a + 1) area) d)

  pub word_more : after ≡ this.device → all ≡ this.stop → send ends (spread m a area) d ≡ record { moved = this.moved + behind.moved; stop = behind.stop; device = behind.device }
  word_more ed full = grind (arith, nat_tests, split ed, ap is_all (sym full))

  pub word_last : after ≡ this.device → (stop : Stopped) → stop_of (Some stop) ≡ this.stop → send ends (spread m a area) d ≡ this
  word_last ed stop stopped = grind (arith, nat_tests, split ed, ap is_all (sym stopped), stops_early stop)

pub no_word : (ends : Bool) (d : Option Meaning) (area : List ℕ) (a m : ℕ) → m ≡ 0 → send ends (spread m a area) d ≡ record { moved = 0; stop = all; device = d }
unfolding send spread
no_word ends d area a m e = rw e refl
