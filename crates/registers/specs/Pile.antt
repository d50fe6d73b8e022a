-- A pile: what is on it, and how it is kept.
--   stacked        what is on it, the newest first
--   Tidy blank p   at most sixteen cells of p are in use, and the others are blank
--   pile_of        the tidy pile on which some things are, of which there are at most sixteen
use Rattle.std.specs.Prelude.{◌≡◌, ◌+◌, ◌-◌, ◌≤◌, List, ◌++◌, length, reverse, take, drop, replicate, min}
use Rattle.std.proofs.Common.{ℕ, arith, sym, ap, ◌∙◌, length-take-le, take-append-drop, lit≤}
use Rattle.std.proofs.lemmas.List.{length-append, length-replicate, length-reverse, reverse-reverse, take-replicate}
use Rattle.std.proofs.Math.Seq.{take-append-add}
use Rattle.std.proofs.Math.Nat.{ℕ_set, min-le_left, le_trans}
use Rattle.std.specs.Coded.{le_prop}
use mathlib.Core.HLevel.{is_prop→PathP}
use mathlib.Core.Path.{PathP}
use Rattle.registers.specs.declared.pile.Pile.{Pile}

-- the newest first
abbrev pub stacked : {T : Type 0} → Pile T → List T
stacked p = reverse (take p.depth p.cells)

pub record Tidy {T : Type 0} (blank : T) (p : Pile T) : Type 0 where
  pub within : p.depth ≤ 16
  pub clear : drop p.depth p.cells ≡ replicate (16 - p.depth) blank

-- sixteen cells, the first of which hold what is given, and the others are blank
abbrev pub sixteen_cells : {T : Type 0} → T → List T → List T
sixteen_cells blank xs = take 16 (xs ++ replicate 16 blank)

pub length-sixteen_cells : {T : Type 0} (blank : T) (xs : List T) → length (sixteen_cells blank xs) ≡ 16
length-sixteen_cells blank xs = length-take-le 16 (xs ++ replicate 16 blank) (omega (arith, length-append xs (replicate 16 blank), length-replicate 16 blank))

abbrev pub pile_of : {T : Type 0} → T → List T → Pile T
pile_of blank xs = record {
  cells = sixteen_cells blank (reverse xs);
  depth = min 16 (length xs);
  fits = le_trans (min-le_left 16 (length xs)) (lit≤ tt);
  whole = length-sixteen_cells blank (reverse xs);
}

-- two proofs of a bound on one number are one
same_bound : (b : ℕ) {m n : ℕ} (e : m ≡ n) (p : m ≤ b) (q : n ≤ b) → PathP (λ i. e i ≤ b) p q
same_bound b e p q = is_prop→PathP (λ i. e i ≤ b) (λ i. le_prop) p q

same_pile : {T : Type 0} (p q : Pile T) → p.cells ≡ q.cells → p.depth ≡ q.depth → p ≡ q
same_pile p q c d = λ i. record {
  cells = c i;
  depth = d i;
  fits = same_bound _ d p.fits q.fits i;
  whole = is_prop→PathP (λ j. length (c j) ≡ 16) (λ j. ℕ_set (length (c j)) 16) p.whole q.whole i;
}

-- a tidy pile has nothing but what is on it
pub pile_of-stacked : {T : Type 0} (blank : T) (p : Pile T) → Tidy blank p → pile_of blank (stacked p) ≡ p
pile_of-stacked blank p tidy =
    let below = take p.depth p.cells in
    let used : length below ≡ p.depth = length-take-le p.depth p.cells (omega (arith, p.whole, tidy.within)) in
    let deep : length (stacked p) ≡ p.depth = length-reverse below ∙ used in
    let cut : take (16 - p.depth) (replicate 16 blank) ≡ drop p.depth p.cells = take-replicate (16 - p.depth) 16 blank (omega arith) ∙ sym tidy.clear in
    same_pile (pile_of blank (stacked p)) p
    (ap (sixteen_cells blank) (reverse-reverse below)
    ∙ ap (λ n. take n (below ++ replicate 16 blank)) {x = 16} {y = length below + (16 - p.depth)} (omega (arith, used, tidy.within))
    ∙ take-append-add below (replicate 16 blank) (16 - p.depth)
    ∙ ap (λ xs. below ++ xs) cut
    ∙ take-append-drop p.depth p.cells)
    (ap (min 16) deep ∙ min_of)
  where
    min_of : min 16 p.depth ≡ p.depth
    min_of = omega (arith, tidy.within)
