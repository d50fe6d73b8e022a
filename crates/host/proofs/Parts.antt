-- A part of a list read and replaced.
use Rattle.std.proofs.Common.{◌≡◌, ℕ, ◌+◌, ◌-◌, ◌<◌, ◌≤◌, ◌⊎◌, List, ◌++◌, length, get_or, take, drop, sym, refl, ap, ◌∙◌, ap₂, inl, inr, arith, length-append, length-drop, take-append-drop, length-take, length-take-le, get_or-drop, get_or-take, drop-drop, take_at, ext_get_or, drop_at}
use lib.ListN.{get_or-append}
use Rattle.host.specs.World.{part, put_part}

pub length_put_part : (base : ℕ) (words store : List ℕ) → base + length words ≤ length store → length (put_part base words store) ≡ length store
unfolding put_part
length_put_part base words store h = simp (length-append, length-take, length-drop) (omega arith)

-- what is put is read
pub part_put : (base size : ℕ) (words store : List ℕ) → length words ≡ size → base + size ≤ length store → part base size (put_part base words store) ≡ words
unfolding part put_part
part_put base size words store e h =
    ap (take size) (drop_at (take base store) _ base (length-take-le base store (omega arith)))
    ∙ take_at words _ size e

pub length_part : (base size : ℕ) (store : List ℕ) → base + size ≤ length store → length (part base size store) ≡ size
unfolding part
length_part base size store h = simp (length-take, length-drop) (omega arith)

drop_put : (base : ℕ) (words store : List ℕ) → base + length words ≤ length store → drop (base + length words) (put_part base words store) ≡ drop (base + length words) store
unfolding put_part
drop_put base words store h =
    sym (drop-drop (length words) base _)
    ∙ ap (drop (length words)) (drop_at (take base store) _ base (length-take-le base store (omega arith)))
    ∙ drop_at words _ (length words) refl

get_d_past : (xs : List ℕ) (n i : ℕ) → n ≤ i → get_or (drop n xs) (i - n) 0 ≡ get_or xs i 0
get_d_past xs n i h =
    let e : n + (i - n) ≡ i = omega arith in
    get_or-drop n xs (i - n) 0 ∙ ap (λ j. get_or xs j 0) e

-- words outside a part that is put stay
pub put_part_outside : (base : ℕ) (words store : List ℕ) → base + length words ≤ length store → (i : ℕ) → (i < base) ⊎ (base + length words ≤ i) → get_or (put_part base words store) i 0 ≡ get_or store i 0
unfolding put_part
put_part_outside base words store h i (inl b) =
    let l : length (take base store) ≡ base = length-take-le base store (omega arith) in
    get_or-append (take base store) _ 0 i (omega arith) ∙ get_or-take base store i 0 b
put_part_outside base words store h i (inr b) =
    sym (get_d_past (put_part base words store) (base + length words) i b)
    ∙ ap (λ xs. get_or xs (i - (base + length words)) 0) (drop_put base words store h)
    ∙ get_d_past store (base + length words) i b

-- so does another part
pub part_other :
    (base : ℕ) (words store : List ℕ) (from size : ℕ)
    → base + length words ≤ length store
    → (from + size ≤ base) ⊎ (base + length words ≤ from)
    → part from size (put_part base words store) ≡ part from size store
unfolding part
part_other base words store from size h apart =
    ext_get_or 0 _ _
    (simp (length-take, length-drop, length_put_part base words store h))
    (λ i lt.
    let l : i < size = omega (arith, simp (length-take, length-drop) at lt) in
    get_or-take size (drop from (put_part base words store)) i 0 l
    ∙ get_or-drop from (put_part base words store) i 0
    ∙ put_part_outside base words store h (from + i) (beside l apart)
    ∙ sym (get_or-drop from store i 0)
    ∙ sym (get_or-take size (drop from store) i 0 l))
  where
    beside : {i : ℕ} → i < size → (from + size ≤ base) ⊎ (base + length words ≤ from) → (from + i < base) ⊎ (base + length words ≤ from + i)
    beside l (inl a) = inl (omega arith)
    beside l (inr a) = inr (omega arith)

-- a part read and put back
pub put_same : (base size : ℕ) (store : List ℕ) → base + size ≤ length store → put_part base (part base size store) store ≡ store
unfolding put_part part
put_same base size store h =
    let long : length (take size (drop base store)) ≡ size = simp (length-take, length-drop) (omega arith) in
    ap (λ n. take base store ++ (take size (drop base store) ++ drop (base + n) store)) long
    ∙ ap (λ xs. take base store ++ (take size (drop base store) ++ xs)) (sym (drop-drop size base store))
    ∙ ap (λ xs. take base store ++ xs) (take-append-drop size (drop base store))
    ∙ take-append-drop base store

-- of two parts put in one place the second stays
pub put_put : (base : ℕ) (x y store : List ℕ) → length x ≡ length y → base + length y ≤ length store → put_part base x (put_part base y store) ≡ put_part base x store
unfolding put_part
put_put base x y store e h =
    ap₂ (λ (a b : List ℕ). a ++ (x ++ b)) front
    (ap (λ n. drop (base + n) (put_part base y store)) e ∙ drop_put base y store h ∙ ap (λ n. drop (base + n) store) (sym e))
  where
    front : take base (put_part base y store) ≡ take base store
    front = take_at (take base store) _ base (length-take-le base store (omega arith))
