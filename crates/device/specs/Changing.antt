-- A device seen through a table: each call gives what the call below gives, seen through it. Assumes nothing.
use Rattle.std.specs.Prelude.{◌≡◌, ℕ, ◌+◌, ◌%◌, ◌<◌, Bool, true, false, cond, ◌&&◌, List, [], ◌∷◌, ◌++◌, map, length, Ok, Err, Result, ◌==◌, nat_le, nat_lt, slice_index, slice_set, refl}
use Rattle.std.proofs.Common.{sym, ap, ◌∙◌, ⊎_elim, arith}
use Prim.Native.String.{String}
use Rattle.std.proofs.lemmas.List.{length-map, get_or-map, get_or_past, map-set, map_push}
use Rattle.std.proofs.lemmas.Bool.{cond_both, cases_lt, ltb-true, ne_eqb}
use Rattle.device.specs.Meaning.{Meaning, Sound, Below, moved, put, takes, under_head, read_answer, read_after, write_after, seek_answer, seek_after}
use Rattle.device.specs.Layers.{seen, changed}

-- an answer of the device below, seen through the table
abbrev pub through : List ℕ → Result ℕ String → Result ℕ String
through t (Ok s) = Ok (slice_index t s)
through t (Err e) = Err e

put_map : (f : ℕ → ℕ) (cells : List ℕ) (h x : ℕ) → map f (put cells h x) ≡ put (map f cells) h (f x)
put_map f cells h x = go (nat_lt h (length cells)) ∙ ap (λ n. cond (nat_lt h n) (slice_set (map f cells) h (f x)) (map f cells ++ (f x ∷ []))) (sym (length-map cells f))
  where
    go : (b : Bool) → map f (cond b (slice_set cells h x) (cells ++ (x ∷ []))) ≡ cond b (slice_set (map f cells) h (f x)) (map f cells ++ (f x ∷ []))
    go true = map-set f cells h x
    go false = map_push f cells x

module _ (t : List ℕ) (m : Meaning) where
  -- the symbol s0 below is seen as s
  pub write_changed : {m' : Meaning} (s0 s : ℕ) → s0 < 64 → slice_index t s0 ≡ s % 64 → m' ≡ write_after m s0 → changed t m' ≡ write_after (changed t m) s
  write_changed s0 s small back e = ap (changed t) e ∙ ap (λ cs. record { cells = cs; head = (write_after m s0).head; capacity = m.capacity; reads = m.reads; seeks = m.seeks; writing = m.writing }) (cells_path (takes m))
    where
      shown : seen t (s0 % 64) ≡ s % 64
      shown = let same : s0 % 64 ≡ s0 = omega arith in rw (same, ne_eqb s0 64 (λ q. omega arith)) back

      cells_path : (b : Bool) → map (seen t) (cond b (put m.cells m.head (s0 % 64)) m.cells) ≡ cond b (put (map (seen t) m.cells) m.head (s % 64)) (map (seen t) m.cells)
      cells_path true = put_map (seen t) m.cells m.head (s0 % 64) ∙ ap (put (map (seen t) m.cells) m.head) shown
      cells_path false = refl

module _ (t : List ℕ) (symbols : Below 64 t) (m : Meaning) where
  -- the cell under the head
  cell : (u : ℕ) (b : Bool) → through t (cond b (Err "damaged") (Ok u)) ≡ cond (cond b 64 (slice_index t u) == 64) (Err "damaged") (Ok (cond b 64 (slice_index t u)))
  cell u true = refl
  cell u false = let small = symbols u in rw (ne_eqb (slice_index t u) 64 (λ e. omega arith)) refl

  read_at : (b : Bool) → nat_lt m.head (length m.cells) ≡ b →
      through t (cond b (cond (under_head m == 64) (Err "damaged") (Ok (under_head m))) (Err "no more"))
      ≡ cond b (cond (under_head (changed t m) == 64) (Err "damaged") (Ok (under_head (changed t m)))) (Err "no more")
  read_at true e =
      let u = under_head m in
      cell u (u == 64)
      ∙ ap (λ v. cond (v == 64) (Err "damaged") (Ok v)) (sym (get_or-map (seen t) m.cells m.head 0 0 (ltb-true m.head (length m.cells) e)))
  read_at false e = refl

  reads_at : (r : Bool) →
      through t (cond r (cond (nat_lt m.head (length m.cells)) (cond (under_head m == 64) (Err "damaged") (Ok (under_head m))) (Err "no more")) (Err "wrong way"))
      ≡ cond r (cond (nat_lt m.head (length m.cells)) (cond (under_head (changed t m) == 64) (Err "damaged") (Ok (under_head (changed t m)))) (Err "no more")) (Err "wrong way")
  reads_at true = read_at (nat_lt m.head (length m.cells)) refl
  reads_at false = refl

  pub read_through : {r : Result ℕ String} → r ≡ read_answer m → through t r ≡ read_answer (changed t m)
  read_through e =
      ap (through t) e ∙ reads_at m.reads
      ∙ ap (λ n. cond m.reads (cond (nat_lt m.head n) (cond (under_head (changed t m) == 64) (Err "damaged") (Ok (under_head (changed t m)))) (Err "no more")) (Err "wrong way")) (sym (length-map m.cells (seen t)))

  pub read_changed : {m' : Meaning} → m' ≡ read_after m → changed t m' ≡ read_after (changed t m)
  read_changed e =
      ap (changed t) e
      ∙ ap (λ n. moved (changed t m) (cond (m.reads && nat_lt m.head n) (m.head + 1) m.head)) (sym (length-map m.cells (seen t)))

  pub seek_through : {r : Result (Unit {0}) String} (c : ℕ) → r ≡ seek_answer m c → r ≡ seek_answer (changed t m) c
  seek_through c e =
      e ∙ ap (λ n. cond m.seeks (cond (nat_le c n) (Ok tt) (Err "no such cell")) (Err "wrong way")) (sym (length-map m.cells (seen t)))

  pub seek_changed : {m' : Meaning} (c : ℕ) → m' ≡ seek_after m c → changed t m' ≡ seek_after (changed t m) c
  seek_changed c e =
      ap (changed t) e
      ∙ ap (λ n. moved (changed t m) (cond (m.seeks && nat_le c n) c m.head)) (sym (length-map m.cells (seen t)))

  seen_small : (c : ℕ) → seen t c < 65
  seen_small c = let small = symbols c in cond_both (c == 64) 64 (slice_index t c) (λ y. y < 65) (λ _. omega arith) (λ _. omega arith)

  pub changed_sound : Sound m → Sound (changed t m)
  changed_sound h = record {
    cells_small = λ k.
        ⊎_elim
        (λ (l : k < length m.cells). rw (get_or-map (seen t) m.cells k 0 0 l) (seen_small (slice_index m.cells k)))
        (λ l. rw (get_or_past (map (seen t) m.cells) k 0 (rw (length-map m.cells (seen t)) l)) (omega arith))
        (cases_lt k (length m.cells));
    head_within = rw (length-map m.cells (seen t)) h.head_within;
    cells_fit = rw (length-map m.cells (seen t)) h.cells_fit;
    capacity_small = h.capacity_small;
  }
