-- One word more of a transfer: a run of symbols by eights.
use Rattle.std.proofs.Common.{◌≡◌, ℕ, zero, suc, ◌+◌, ◌*◌, ◌≤◌, Bool, true, false, cond, List, [], ◌∷◌, ◌++◌, length, get_or, set, Some, None, Option, Result, sym, refl, ap, suc-add, zero-add, arith}
use Prim.Native.String.{String}
use Rattle.std.proofs.lemmas.List.{length-append, drop_at, drop_all, set-get_or}
use Rattle.std.proofs.lemmas.Bool.Decides.{nat_tests}
use Rattle.device.specs.Meaning.{Meaning, read_answer, read_after}
use Rattle.device.specs.Bank.{answer_of, after_of}
use Rattle.transfer.proofs.Movement.{count}
use Rattle.transfer.specs.Symbols.{Stop, Run, gather, go_on, packed, filled, stored, stop_of}
use Rattle.transfer.specs.Symbols.Stop.{all, message_end, refused}
use Rattle.transfer.specs.declared.part.Stop.{Stop as Stopped}
use Rattle.transfer.specs.declared.part.Stop.TheVariants.{EndMessage, Refused}

abbrev pub is_all : Stop → Bool
is_all all = true
is_all message_end = false
is_all (refused e) = false

pub stops_early : (s : Stopped) → is_all (stop_of (Some s)) ≡ false
stops_early EndMessage = refl
stops_early (Refused e) = refl

-- a run, and another after it unless it was stopped
abbrev pub joined : Run → Run → Run
joined r x = cond (is_all r.stop) (record { symbols = r.symbols ++ x.symbols; stop = x.stop; device = x.device }) r

module _ (ends : Bool) where
  join_on : (m : ℕ) (r : Result ℕ String) (d : Option Meaning) (x y : Run) → x ≡ joined y (gather ends m y.device) →
      go_on ends r d x ≡ joined (go_on ends r d y) (gather ends m (go_on ends r d y).device)
  join_on m r d x y h = grind (arith, nat_tests, h)

  -- k symbols and m more
  pub gather_add : (k m : ℕ) (d : Option Meaning) → gather ends (k + m) d ≡ joined (gather ends k d) (gather ends m (gather ends k d).device)
  unfolding gather
  gather_add zero m d = rw zero-add refl
  gather_add (suc k) m d = rw suc-add (join_on m (answer_of read_answer d) (after_of read_after d) _ _ (gather_add k m (after_of read_after d)))

  -- nothing comes of nothing
  pub gather_nothing : (k : ℕ) (d : Option Meaning) → d ≡ None → (gather ends k d).device ≡ None
  unfolding gather
  gather_nothing zero d e = e
  gather_nothing (suc k) d e = ap (λ (x : Option Meaning). (gather ends (suc k) x).device) e

  -- at most k symbols, and k where all came
  pub most : (k : ℕ) (d : Option Meaning) → length (gather ends k d).symbols ≤ k
  unfolding gather
  most zero d = omega arith
  most (suc k) d = grind (arith, nat_tests, most k (after_of read_after d))

  pub all_came : (k : ℕ) (d : Option Meaning) → is_all (gather ends k d).stop ≡ true → length (gather ends k d).symbols ≡ k
  unfolding gather
  all_came zero d h = refl
  all_came (suc k) d h = grind (arith, nat_tests, all_came k (after_of read_after d))

packed_append : (k : ℕ) (xs ys : List ℕ) → length xs ≡ k → packed k (xs ++ ys) ≡ packed k xs
unfolding packed
packed_append zero xs ys e = refl
packed_append (suc k) [] ys e = absurd (omega arith)
packed_append (suc k) (x ∷ xs) ys e = grind (arith, packed_append k xs ys)

pub stored_none : (n a : ℕ) (area : List ℕ) → stored n a [] area ≡ area
unfolding stored
stored_none zero a area = refl
stored_none (suc n) a area = refl

module _ (n a : ℕ) (area : List ℕ) where
  -- a word that came whole, with more behind it
  word_and : (xs ss : List ℕ) → length xs ≡ 8 → stored (suc n) a (xs ++ ss) area ≡ stored n (a + 1) ss (set area a (filled (get_or area a 0) xs))
  unfolding stored
  word_and [] ss e = absurd (omega arith)
  word_and (x ∷ xs) ss e = grind (arith, drop_at (x ∷ xs) ss 8 e, packed_append 8 (x ∷ xs) ss e)

  -- the last word
  word_alone : (xs : List ℕ) → length xs ≤ 8 → stored (suc n) a xs area ≡ set area a (filled (get_or area a 0) xs)
  unfolding stored
  word_alone [] h = sym (set-get_or area a 0)
  word_alone (x ∷ xs) h = grind (arith, drop_all 8 (x ∷ xs) h, stored_none)

-- one word more of m
module _ (ends : Bool) (d after : Option Meaning) (ed : after ≡ (gather ends 8 d).device) (m m' : ℕ) (left : m ≡ suc m') where
  abbrev this : Run
  this = gather ends 8 d

  abbrev rest : Run
  rest = gather ends (8 * m') after

  split : gather ends (8 * m) d ≡ joined this rest
  split = let eights : 8 * m ≡ 8 + 8 * m' = omega arith in grind (arith, eights, gather_add ends 8 (8 * m') d)

  module _ (area : List ℕ) (a cell : ℕ) (ec : cell ≡ filled (get_or area a 0) this.symbols) where
    -- a word that is full
    module _ (full : all ≡ this.stop) where
      on : gather ends (8 * m) d ≡ record { symbols = this.symbols ++ rest.symbols; stop = rest.stop; device = rest.device }
      on = grind (arith, nat_tests, split, ap is_all (sym full))

      pub words_more : stored m a (gather ends (8 * m) d).symbols area ≡ stored m' (a + 1) rest.symbols (set area a cell)
      words_more = grind (arith, on, word_and m' a area this.symbols rest.symbols (all_came ends 8 d (ap is_all (sym full))))

      pub count_more : count (gather ends (8 * m) d) ≡ record { moved = length this.symbols + length rest.symbols; stop = rest.stop; device = rest.device }
      count_more = grind (arith, on, length-append this.symbols rest.symbols)

    -- or the last one
    module _ (stop : Stopped) (stopped : stop_of (Some stop) ≡ this.stop) where
      off : gather ends (8 * m) d ≡ this
      off = grind (arith, nat_tests, split, ap is_all (sym stopped), stops_early stop)

      pub words_last : stored m a (gather ends (8 * m) d).symbols area ≡ set area a cell
      words_last = grind (arith, off, word_alone m' a area this.symbols (most ends 8 d))

      pub count_last : count (gather ends (8 * m) d) ≡ count this
      count_last = ap count off

-- no word is left
pub nothing_left : (ends : Bool) (d : Option Meaning) (m a : ℕ) (area : List ℕ) → m ≡ 0 → stored m a (gather ends (8 * m) d).symbols area ≡ area
unfolding stored
nothing_left ends d m a area e = rw e refl
