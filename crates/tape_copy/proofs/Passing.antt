-- One more cell of a device that is read out.
use Rattle.std.proofs.Common.{◌≡◌, ℕ, ◌+◌, ◌≤◌, Bool, true, false, cond, ◌&&◌, eqb, ltb, ◌⊎◌, List, [], ◌∷◌, ◌++◌, length, get_or, drop, IfSome, Some, None, Ok, Err, codes, Option, Result, sym, refl, ap, ◌∙◌, subst, inl, inr, ⊎_elim, arith}
use Prim.Native.String.{String}
use Rattle.std.proofs.lemmas.List.{append_assoc, append-nil, drop_more, drop_all, length-drop}
use Rattle.std.proofs.lemmas.Bool.{ltb-true, ltb-false, eqb-true, cond-true, cond-false, and_from, and_left, and_right}
use Rattle.device.specs.Meaning.{Meaning, Sound, moved, read_answer, read_after, under_head}
use Rattle.device.specs.Bank.{answer_of, after_of}
use Rattle.device.specs.Words.{words}
use Rattle.device.specs.declared.refusal.Refusal.{Refusal}
use Rattle.device.specs.declared.refusal.Refusal.TheVariants.{WrongWay, NoMore, Damaged, NoRing, Full, NoSuchCell, NothingThere}
use Rattle.tape_copy.specs.Copying.{unread, sound_cells, damaged_cells, stop_of, run_out}

-- n cells were passed; what they gave, followed by what is left, is the whole
pub record Going (whole rest : Option Meaning) (ss ds : List ℕ) (n : ℕ) : Type 0 where
  pub symbols : ss ++ sound_cells (unread rest) ≡ sound_cells (unread whole)
  pub damaged : ds ++ damaged_cells n (unread rest) ≡ damaged_cells 0 (unread whole)
  pub stop : stop_of rest ≡ stop_of whole
  pub out : run_out rest ≡ run_out whole
  pub left : n + length (unread rest) ≡ length (unread whole)

pub started : (d : Option Meaning) → Going d d [] [] 0
started d = record { symbols = refl; damaged = refl; stop = refl; out = refl; left = omega arith }

-- what was read, under other names
pub renamed : (whole rest : Option Meaning) (n : ℕ) {ss ds ss' ds' : List ℕ} → ss' ≡ ss → ds' ≡ ds → Going whole rest ss ds n → Going whole rest ss' ds' n
renamed whole rest n es ed g = record {
  symbols = ap (λ xs. xs ++ sound_cells (unread rest)) es ∙ g.symbols;
  damaged = ap (λ xs. xs ++ damaged_cells n (unread rest)) ed ∙ g.damaged;
  stop = g.stop;
  out = g.out;
  left = g.left;
}

-- what a read with that answer says of what is left: its first cell was passed, or there was none
abbrev pub Reads : Option Meaning → Result ℕ String → Type 0
Reads d (Ok s) = (eqb s 64 ≡ false) × (unread d ≡ s ∷ unread (after_of read_after d))
Reads d (Err e) =
    ((e ≡ "damaged") × (unread d ≡ 64 ∷ unread (after_of read_after d)))
    ⊎ ((unread d ≡ []) × (stop_of d ≡ e) × (after_of read_after d ≡ run_out d))

module _ (m : Meaning) (h : Sound m) where
  first : m.reads ≡ true → ltb m.head (length m.cells) ≡ true → unread (Some m) ≡ under_head m ∷ unread (Some (read_after m))
  first er et =
      cond-true m.reads _ _ er
      ∙ drop_more m.cells m.head 0 (ltb-true _ _ et)
      ∙ ap (λ cs. under_head m ∷ cs)
      (ap (λ n. drop n m.cells) (sym (cond-true (m.reads && ltb m.head (length m.cells)) _ _ (and_from _ _ er et)))
      ∙ sym (cond-true m.reads _ _ er))

  -- by what the device is able to do, whether a cell is left, and whether that is damaged
  reads_by : (r t k : Bool) → m.reads ≡ r → ltb m.head (length m.cells) ≡ t → eqb (under_head m) 64 ≡ k →
      Reads (Some m) (cond r (cond t (cond k (Err "damaged") (Ok (under_head m))) (Err "no more")) (Err "wrong way"))
  reads_by false t k er et ek =
      inr (
        cond-false m.reads _ _ er,
        cond-false m.reads _ _ er,
        ap (λ n. Some (moved m n)) (cond-false (m.reads && ltb m.head (length m.cells)) _ _ (and_left _ _ er) ∙ sym (cond-false m.reads _ _ er)),
      )
  reads_by true false k er et ek =
      let past : length m.cells ≤ m.head = ltb-false _ _ et in
      let end : m.head ≡ length m.cells = omega (arith, h.head_within) in
      inr (
        cond-true m.reads _ _ er ∙ drop_all m.head m.cells past,
        cond-true m.reads _ _ er,
        ap (λ n. Some (moved m n)) (cond-false (m.reads && ltb m.head (length m.cells)) _ _ (and_right _ _ et) ∙ end ∙ sym (cond-true m.reads _ _ er)),
      )
  reads_by true true true er et ek = inl (refl, first er et ∙ ap (λ c. c ∷ unread (Some (read_after m))) (eqb-true _ _ ek))
  reads_by true true false er et ek = (ek, first er et)

reads : (d : Option Meaning) → IfSome d Sound → Reads d (answer_of read_answer d)
reads None h = inr (refl, refl, refl)
reads (Some m) h = reads_by m h m.reads (ltb m.head (length m.cells)) (eqb (under_head m) 64) refl refl refl

-- reading on ends the same from the next cell
stop_after : (d : Option Meaning) → stop_of (after_of read_after d) ≡ stop_of d
stop_after None = refl
stop_after (Some m) = refl

out_after : (d : Option Meaning) → run_out (after_of read_after d) ≡ run_out d
out_after None = refl
out_after (Some m) = ap (λ n. Some (moved m n)) (go m.reads)
  where
    go : (r : Bool) → cond r (length m.cells) (cond (r && ltb m.head (length m.cells)) (m.head + 1) m.head) ≡ cond r (length m.cells) m.head
    go true = refl
    go false = refl

-- two words that begin with other letters differ
letter : String → ℕ
letter s = get_or (codes s) 0 0

differ : (a b : String) → a ≡ b → letter a ≡ letter b
differ a b e = ap letter e

stop_not_damaged : (d : Option Meaning) → stop_of d ≡ "damaged" → ⊥
unfolding letter
stop_not_damaged None e = let z = differ _ _ e in omega arith
stop_not_damaged (Some m) e = go m.reads e
  where
    go : (r : Bool) → ◌≡◌ {A = String} (cond r "no more" "wrong way") "damaged" → ⊥
    go true e = let z = differ _ _ e in omega arith
    go false e = let z = differ _ _ e in omega arith

damaged_only : (r : Refusal) → words r ≡ "damaged" → r ≡ Damaged
unfolding letter
damaged_only Damaged e = refl
damaged_only WrongWay e = let z = differ _ _ e in absurd (omega arith)
damaged_only NoMore e = let z = differ _ _ e in absurd (omega arith)
damaged_only NoRing e = let z = differ _ _ e in absurd (omega arith)
damaged_only Full e = let z = differ _ _ e in absurd (omega arith)
damaged_only NoSuchCell e = let z = differ _ _ e in absurd (omega arith)
damaged_only NothingThere e = let z = differ _ _ e in absurd (omega arith)

sound_more : (cs : List ℕ) (c : ℕ) {ds : List ℕ} → ds ≡ c ∷ cs → eqb c 64 ≡ false → sound_cells ds ≡ c ∷ sound_cells cs
unfolding sound_cells
sound_more cs c e k = ap sound_cells e ∙ cond-false (eqb c 64) _ _ k

sound_less : (cs : List ℕ) {ds : List ℕ} → ds ≡ 64 ∷ cs → sound_cells ds ≡ sound_cells cs
unfolding sound_cells
sound_less cs e = ap sound_cells e

damaged_less : (n : ℕ) (cs : List ℕ) (c : ℕ) {ds : List ℕ} → ds ≡ c ∷ cs → eqb c 64 ≡ false → damaged_cells n ds ≡ damaged_cells (n + 1) cs
unfolding damaged_cells
damaged_less n cs c e k = ap (damaged_cells n) e ∙ cond-false (eqb c 64) _ _ k

damaged_more : (n : ℕ) (cs : List ℕ) {ds : List ℕ} → ds ≡ 64 ∷ cs → damaged_cells n ds ≡ n ∷ damaged_cells (n + 1) cs
unfolding damaged_cells
damaged_more n cs e = ap (damaged_cells n) e

-- no device has more than 4096 cells left
pub few_left : (d : Option Meaning) → IfSome d Sound → length (unread d) ≤ 4096
few_left None h = omega arith
few_left (Some m) h = go m.reads
  where
    go : (r : Bool) → length (cond r (drop m.head m.cells) []) ≤ 4096
    go true = omega (arith, length-drop m.head m.cells, h.cells_fit, h.capacity_small)
    go false = omega arith

module _ (whole rest : Option Meaning) (ss ds : List ℕ) (n : ℕ) (h : IfSome rest Sound) (g : Going whole rest ss ds n) where
  -- a symbol was read
  pub more : (s : ℕ) {rest' : Option Meaning} → Ok s ≡ answer_of read_answer rest → rest' ≡ after_of read_after rest → Going whole rest' (ss ++ (s ∷ [])) ds (n + 1)
  more s {rest'} e er =
      let r : Reads rest (Ok s) = subst (Reads rest) (sym e) (reads rest h) in
      subst (λ d. Going whole d (ss ++ (s ∷ [])) ds (n + 1)) (sym er) (record {
        symbols = append_assoc ss (s ∷ []) _ ∙ ap (λ cs. ss ++ cs) (sym (sound_more _ s r.1 r.0)) ∙ g.symbols;
        damaged = ap (λ cs. ds ++ cs) (sym (damaged_less n _ s r.1 r.0)) ∙ g.damaged;
        stop = stop_after rest ∙ g.stop;
        out = out_after rest ∙ g.out;
        left = omega (arith, ap length r.1, g.left);
      })

  -- a damaged cell was passed
  pub skip : {rest' : Option Meaning} → Err "damaged" ≡ answer_of read_answer rest → rest' ≡ after_of read_after rest → Going whole rest' ss (ds ++ (n ∷ [])) (n + 1)
  skip {rest'} e er = subst (λ d. Going whole d ss (ds ++ (n ∷ [])) (n + 1)) (sym er) (⊎_elim passed (λ r. absurd (stop_not_damaged rest r.1)) (subst (Reads rest) (sym e) (reads rest h)))
    where
      passed : (◌≡◌ {A = String} "damaged" "damaged") × (unread rest ≡ 64 ∷ unread (after_of read_after rest)) → Going whole (after_of read_after rest) ss (ds ++ (n ∷ [])) (n + 1)
      passed r = record {
        symbols = ap (λ cs. ss ++ cs) (sym (sound_less _ r.1)) ∙ g.symbols;
        damaged = append_assoc ds (n ∷ []) _ ∙ ap (λ cs. ds ++ cs) (sym (damaged_more n _ r.1)) ∙ g.damaged;
        stop = stop_after rest ∙ g.stop;
        out = out_after rest ∙ g.out;
        left = omega (arith, ap length r.1, g.left);
      }

  -- what was read when it stopped
  pub record All (stop : Refusal) (rest' : Option Meaning) : Type 0 where
    pub symbols : ss ≡ sound_cells (unread whole)
    pub damaged : ds ≡ damaged_cells 0 (unread whole)
    pub why : words stop ≡ stop_of whole
    pub out : rest' ≡ run_out whole

  pub stopped : (stop : Refusal) {rest' : Option Meaning} → (stop ≡ Damaged → ⊥) → Err (words stop) ≡ answer_of read_answer rest → rest' ≡ after_of read_after rest → All stop rest'
  unfolding sound_cells damaged_cells
  stopped stop {rest'} other e er = ⊎_elim (λ r. absurd (other (damaged_only stop r.0))) ended (subst (Reads rest) (sym e) (reads rest h))
    where
      ended : (unread rest ≡ []) × (stop_of rest ≡ words stop) × (after_of read_after rest ≡ run_out rest) → All stop rest'
      ended r = record {
        symbols = sym (append-nil ss) ∙ ap (λ cs. ss ++ sound_cells cs) (sym r.0) ∙ g.symbols;
        damaged = sym (append-nil ds) ∙ ap (λ cs. ds ++ damaged_cells n cs) (sym r.0) ∙ g.damaged;
        why = sym r.1 ∙ g.stop;
        out = er ∙ r.2 ∙ g.out;
      }

  -- a cell that was passed is one of at most 4096
  pub room : IfSome whole Sound → {n' : ℕ} {rest' : Option Meaning} {ss' ds' : List ℕ} → Going whole rest' ss' ds' n' → n' ≤ 4096
  room w t = omega (arith, few_left whole w, t.left)
