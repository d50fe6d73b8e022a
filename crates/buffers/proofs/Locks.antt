-- Locks of a slot's buffers: by buffers and then by words, as the code looks, or by words and then by buffers.
use Rattle.std.proofs.Common.{◌≡◌, ℕ, ◌+◌, ◌-◌, Bool, true, false, cond, ◌&&◌, List, map, length, sym, refl, ap, ◌∙◌, inl, inr, arith}
use mathlib.Core.Path.{fun_ext}
use Rattle.std.proofs.lemmas.List.{get_or_past, get_or-map, length-map}
use Rattle.std.proofs.lemmas.Bool.{cases_lt, and_right}
use Rattle.std.specs.List.{list_any}
use Rattle.buffers.specs.declared.buffer.Work.{Work}
use Rattle.buffers.specs.declared.buffer.Work.TheVariants.{Idle, Seeking, Moving}
use Rattle.buffers.specs.declared.buffer.Buffer.{Buffer}
use Rattle.buffers.specs.Buffers.{free, records, holds, is_moving, locks, any_below, locked_between, Quiet, released}
use Rattle.buffers.proofs.Found.{any_in, any_and, any_swap, any_not, any_none_at}

-- a test that holds of one of the sixteen
pub any_of : (test : Buffer → Bool) (table : List Buffer) → length table ≡ 16 → list_any test table ≡ any_below 16 (λ k. test (records table k))
any_of test table long = any_in test table free ∙ ap (λ n. any_below n (λ k. test (records table k))) long

-- whether buffer k of a slot locks one of the words from the first to the last address
abbrev pub locks_here : ℕ → (ℕ → Buffer) → ℕ → ℕ → ℕ → Bool
locks_here slot buffers first last k = holds slot (buffers k) && any_below (last + 1 - first) (λ j. locks (buffers k).work (first + j))

pub by_words : (slot : ℕ) (buffers : ℕ → Buffer) (first last : ℕ) → any_below 16 (locks_here slot buffers first last) ≡ locked_between slot buffers first last
by_words slot buffers first last =
    ap (any_below 16) (fun_ext (λ k. any_and (last + 1 - first) (holds slot (buffers k)) (λ j. locks (buffers k).work (first + j))))
    ∙ any_swap 16 (last + 1 - first) (λ k j. holds slot (buffers k) && locks (buffers k).work (first + j))

no_lock : (w : Work) (a : ℕ) → is_moving w ≡ false → locks w a ≡ false
no_lock Idle a e = refl
no_lock Seeking a e = refl
no_lock (Moving first last) a e = cc

-- where no buffer moves words nothing is locked
pub quiet_unlocked : (table : List Buffer) (slot first last : ℕ) → Quiet table → false ≡ locked_between slot (records table) first last
quiet_unlocked table slot first last q =
    sym (any_not (last + 1 - first) _ (λ j. any_not 16 _ (λ k. and_right (holds slot (records table k)) _ (no_lock (records table k).work (first + j) (q k)))))

-- none of the sixteen moves words
pub none_moving : (table : List Buffer) → length table ≡ 16 → any_below 16 (λ k. is_moving (records table k).work) ≡ false → Quiet table
none_moving table long e k = elim (cases_lt k 16) [
  | inl h ↦ any_none_at 16 (λ j. is_moving (records table j).work) e k h
  | inr h ↦ ap (λ (b : Buffer). is_moving b.work) (get_or_past table k free (omega (arith, long)))
]

still : (slot : ℕ) (b : Buffer) → is_moving b.work ≡ false → is_moving (released slot b).work ≡ false
still slot b e = at (holds slot b)
  where
    at : (h : Bool) → is_moving (cond h free b).work ≡ false
    at true = refl
    at false = e

-- releasing buffers moves no words
pub released_quiet : (slot : ℕ) (table : List Buffer) → Quiet table → Quiet (map (released slot) table)
released_quiet slot table q k = elim (cases_lt k (length table)) [
  | inl h ↦ ap (λ (b : Buffer). is_moving b.work) (get_or-map (released slot) table k free free h) ∙ still slot (records table k) (q k)
  | inr h ↦ ap (λ (b : Buffer). is_moving b.work) (get_or_past (map (released slot) table) k free (rw (length-map table (released slot)) h))
]
