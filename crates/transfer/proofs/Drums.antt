-- What reading, seeking and writing leave of a drum, and what stands in its cells.
use Rattle.std.proofs.Common.{◌≡◌, ℕ, zero, suc, ◌+◌, ◌*◌, ◌/◌, ◌%◌, ◌^◌, ◌<◌, ◌≤◌, Bool, true, false, cond, ◌⊎◌, List, [], ◌∷◌, length, get_or, set, Some, Ok, Err, Option, Result, sym, refl, ap, ◌∙◌, subst, inl, inr, mod-lt, mod-eq_of_lt, arith, lit<}
use Prim.Native.String.{String}
use lib.Pow.{mod-pow-add}
use Rattle.std.proofs.lemmas.List.{length-set, get_or-set_same, get_or-set_other}
use Rattle.std.proofs.lemmas.Bool.{cases_lt, cond_both}
use Rattle.std.proofs.lemmas.Bool.Decides.{nat_tests}
use Rattle.device.specs.Meaning.{Meaning, moved, read_answer, read_after, write_answer, write_after, seek_after, takes}
use Rattle.transfer.specs.Symbols.{Run, Sent, gather, go_on, send, one_more, ending, packed, unpacked}
use Rattle.transfer.specs.Symbols.Stop.{message_end, refused}
use Rattle.transfer.specs.Keeping.{Drum}

-- a drum whose head is at a cell or behind the last
pub record Ready (m : Meaning) : Type 0 where
  pub drum : Drum m
  pub within : m.head ≤ length m.cells

-- a device that stands there and meets Q
pub record Still (Q : Meaning → Type 0) (d : Option Meaning) : Type 0 where
  pub then : Meaning
  pub is : d ≡ Some then
  pub meets : Q then

-- the same drum with its head at h
pub ready_at : (m : Meaning) (h : ℕ) → Ready m → h ≤ length m.cells → Ready (moved m h)
ready_at m h r w = record { drum = grind arith; within = w }

-- Reading passes a cell, or stays behind the last.
pub read_ready : (m : Meaning) → Ready m → Ready (read_after m)
read_ready m r = ready_at m _ r (grind (arith, nat_tests))

-- what holds of a drum whatever is read, holds after a run
still_on : (Q : Meaning → Type 0) (ends : Bool) (x : Result ℕ String) (d : Option Meaning) (r : Run) → Still Q d → Still Q r.device → Still Q (go_on ends x d r).device
still_on Q ends (Err e) d r one rest = one
still_on Q ends (Ok s) d r one rest = cond_both (ending ends s) _ _ (λ (r : Run). Still Q r.device) (λ _. one) (λ _. rest)

pub still_gather : (Q : Meaning → Type 0) → ((m : Meaning) → Q m → Q (read_after m)) → (ends : Bool) (k : ℕ) (m : Meaning) → Q m → Still Q (gather ends k (Some m)).device
unfolding gather
still_gather Q step ends zero m q = record { then = m; is = refl; meets = q }
still_gather Q step ends (suc k) m q =
    still_on Q ends (read_answer m) (Some (read_after m)) _ (record { then = read_after m; is = refl; meets = step m q }) (still_gather Q step ends k (read_after m) (step m q))

pub seek_ready : (m : Meaning) (cell : ℕ) → Ready m → Ready (seek_after m cell)
seek_ready m cell r = ready_at m _ r (grind (arith, nat_tests))

-- a seek of a cell that is there
pub seek_there : (m : Meaning) (cell : ℕ) → Ready m → cell ≤ length m.cells → seek_after m cell ≡ moved m cell
seek_there m cell r h = grind (arith, nat_tests, r.drum.seeking)

-- Writing one symbol changes the cell at the head and passes it, or is refused behind the last and changes nothing.
abbrev put_at : Meaning → ℕ → Meaning
put_at m s = record { cells = set m.cells m.head (s % 64); head = m.head + 1; capacity = m.capacity; reads = m.reads; seeks = m.seeks; writing = m.writing }

put_ready : (m : Meaning) (s : ℕ) → Ready m → m.head < length m.cells → Ready (put_at m s)
put_ready m s r h = record { drum = grind (arith, length-set); within = omega (arith, length-set m.cells m.head (s % 64)) }

module _ (m : Meaning) (s : ℕ) (r : Ready m) where
  taken : m.head < length m.cells → takes m ≡ true
  taken h = grind (arith, nat_tests, r.drum.taking, r.drum.all_there)

  not_taken : length m.cells ≤ m.head → takes m ≡ false
  not_taken h = grind (arith, nat_tests, r.drum.taking, r.drum.all_there)

  module _ (ends : Bool) (ss : List ℕ) where
    send_there : m.head < length m.cells →
        send ends (s ∷ ss) (Some m) ≡ cond (ending ends s) (record { moved = 1; stop = message_end; device = Some (put_at m s) }) (one_more (send ends ss (Some (put_at m s))))
    unfolding send
    send_there h =
        let answer : write_answer m ≡ Ok tt = grind (arith, nat_tests, taken h) in
        let after : write_after m s ≡ put_at m s = grind (arith, nat_tests, taken h) in
        rw (answer, after) refl

    send_past : length m.cells ≤ m.head → send ends (s ∷ ss) (Some m) ≡ record { moved = 0; stop = refused "full"; device = Some m }
    unfolding send
    send_past h =
        let answer : write_answer m ≡ Err "full" = grind (arith, nat_tests, not_taken h, r.drum.taking) in
        let after : write_after m s ≡ m = grind (arith, nat_tests, not_taken h) in
        rw (answer, after) refl

-- what symbols that are written leave: a drum whose cells differ only from the head on, as far as symbols were moved
pub record Wrote (m : Meaning) (r : Sent) : Type 0 where
  pub then : Meaning
  pub is : r.device ≡ Some then
  pub ready : Ready then
  pub long : length then.cells ≡ length m.cells
  pub others : (k : ℕ) → (k < m.head) ⊎ (m.head + r.moved ≤ k) → get_or then.cells k 0 ≡ get_or m.cells k 0

put_others : (m : Meaning) (s k : ℕ) → (k < m.head) ⊎ (m.head + 1 ≤ k) → get_or (put_at m s).cells k 0 ≡ get_or m.cells k 0
put_others m s k h = get_or-set_other m.cells m.head k (s % 64) 0 (grind arith)

pub wrote : (ends : Bool) (ss : List ℕ) (m : Meaning) → Ready m → Wrote m (send ends ss (Some m))
unfolding send
wrote ends [] m r = record { then = m; is = refl; ready = r; long = refl; others = λ k h. refl }
wrote ends (s ∷ ss) m r = elim (cases_lt m.head (length m.cells)) [
  | inl h ↦
      let q = put_ready m s r h in
      let w = wrote ends ss (put_at m s) q in
      let long = length-set m.cells m.head (s % 64) in
      subst (Wrote m) (sym (send_there m s r ends ss h)) (cond_both (ending ends s) _ _ (Wrote m)
      (λ _. record { then = put_at m s; is = refl; ready = q; long = long; others = put_others m s })
      (λ _. record { then = w.then; is = w.is; ready = w.ready; long = w.long ∙ long; others = λ k h. w.others k (grind arith) ∙ put_others m s k (grind arith) }))
  | inr h ↦ subst (Wrote m) (sym (send_past m s r ends ss h)) (record { then = m; is = refl; ready = r; long = refl; others = λ k h. refl })
]

-- symbols that stand in the cells from c on
abbrev pub Laid : List ℕ → ℕ → List ℕ → Type 0
Laid cells c [] = Unit {0}
Laid cells c (s ∷ ss) = (get_or cells c 0 ≡ s) × (s < 64) × Laid cells (c + 1) ss

abbrev pub Small : List ℕ → Type 0
Small [] = Unit {0}
Small (s ∷ ss) = (s < 64) × Small ss

pub laid_same : (cells cells' : List ℕ) (c : ℕ) (ss : List ℕ) → ((k : ℕ) → c ≤ k → k < c + length ss → get_or cells' k 0 ≡ get_or cells k 0) → Laid cells c ss → Laid cells' c ss
laid_same cells cells' c [] same l = tt
laid_same cells cells' c (s ∷ ss) same l = (
  same c (omega arith) (omega arith) ∙ l.0,
  l.1,
  laid_same cells cells' (c + 1) ss (λ k lo hi. same k (omega arith) (omega arith)) l.2,
)

-- symbols that are written where there are cells for them stand there
pub laid : (ss : List ℕ) (m : Meaning) → Ready m → Small ss → m.head + length ss ≤ length m.cells → (m' : Meaning) → (send false ss (Some m)).device ≡ Some m' → Laid m'.cells m.head ss
laid [] m r small fits m' e = tt
laid (s ∷ ss) m r small fits m' e =
    let h : m.head < length m.cells = omega arith in
    let q = put_ready m s r h in
    let on : (send false ss (Some (put_at m s))).device ≡ Some m' = sym (ap (λ (x : Sent). x.device) (send_there m s r false ss h)) ∙ e in
    let w = wrote false ss (put_at m s) q in
    let same : m' ≡ w.then = let i = w.is in cc in (
      ap (λ (y : Meaning). get_or y.cells m.head 0) same ∙ w.others m.head (inl (omega arith)) ∙ get_or-set_same m.cells m.head (s % 64) 0 h ∙ mod-eq_of_lt small.0,
      small.0,
      laid ss (put_at m s) q small.1 (omega (arith, length-set m.cells m.head (s % 64))) m' on,
    )

-- and are read there
pub read_laid : (ss : List ℕ) (m : Meaning) → Ready m → m.head + length ss ≤ length m.cells → Laid m.cells m.head ss → (gather false (length ss) (Some m)).symbols ≡ ss
unfolding gather
read_laid [] m r fits l = refl
read_laid (s ∷ ss) m r fits l =
    let there : m.head < length m.cells = omega arith in
    let answer : read_answer m ≡ Ok s = grind (arith, nat_tests, r.drum.reading, l.0, l.1) in
    let after : read_after m ≡ moved m (m.head + 1) = grind (arith, nat_tests, r.drum.reading) in
    rw (answer, after) (ap (λ (t : List ℕ). s ∷ t) (read_laid ss (moved m (m.head + 1)) (ready_at m (m.head + 1) r (omega arith)) (omega arith) l.2))

-- the symbols of a word are small, and give the word again
pub small_unpacked : (k w : ℕ) → Small (unpacked k w)
unfolding unpacked
small_unpacked zero w = tt
small_unpacked (suc k) w = (mod-lt (w / 2 ^ (6 * k)) (lit< tt), small_unpacked k w)

pub packed_unpacked : (k w : ℕ) → packed k (unpacked k w) ≡ w % 2 ^ (6 * k)
unfolding packed unpacked
packed_unpacked zero w = omega arith
packed_unpacked (suc k) w = let six : 6 * suc k ≡ 6 + 6 * k = omega arith in grind (arith, packed_unpacked k w, mod-pow-add w 6 (6 * k))
