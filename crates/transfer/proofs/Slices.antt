-- The words of a move as a slice of the area.
use Rattle.std.proofs.Common.{◌≡◌, ℕ, zero, suc, ◌+◌, ◌-◌, ◌*◌, ◌<◌, ◌≤◌, Bool, List, [], ◌∷◌, ◌++◌, length, get_or, take, drop, set, Option, sym, refl, subst, ap, ◌∙◌, ap₂, if◌then◌else◌, ◌&&◌, nat_lt, nat_le, ◌⊎◌, arith}
use Rattle.std.proofs.lemmas.List.{length-set, length-take, length-drop, take-append-drop, get_or-take, get_or-drop, set-append_left, set-append_right}
use Rattle.std.proofs.lemmas.Bool.Decides.{nat_tests}
use Rattle.std.proofs.lemmas.Grind.{common_steps}
use Rattle.device.specs.Meaning.{Meaning}
use Rattle.transfer.specs.declared.moves.Transfer.TheVariants.{Read, Write}
use Rattle.transfer.specs.Symbols.{gather, send, packed, unpacked, stored, spread}
use Rattle.transfer.specs.declared.moves.Move.{Move}
use Rattle.transfer.specs.Moves.{Confined, span, write_effect, effect_of}
use Rattle.transfer.proofs.Confined.{Fine, confined}

-- n words of an area from i on, and what lies behind them
abbrev pub part : ℕ → ℕ → List ℕ → List ℕ
part i n area = take n (drop i area)

abbrev pub rest : ℕ → ℕ → List ℕ → List ℕ
rest i n area = drop n (drop i area)

length_part : (i n : ℕ) (area : List ℕ) → i + n ≤ length area → length (part i n area) ≡ n
length_part i n area h = grind (arith, length-take, length-drop)

stored_within : (n a : ℕ) (ss xs ys zs : List ℕ) → a + n ≤ length ys → stored n (length xs + a) ss (xs ++ (ys ++ zs)) ≡ xs ++ (stored n a ss ys ++ zs)
unfolding stored
stored_within zero a ss xs ys zs h = refl
stored_within (suc n) a [] xs ys zs h = refl
stored_within (suc n) a (s ∷ ss) xs ys zs h =
    let w = packed 8 (s ∷ ss) in
    let here : set (xs ++ (ys ++ zs)) (length xs + a) w ≡ xs ++ (set ys a w ++ zs) = grind (arith, common_steps, set-append_left ys zs a w, set-append_right xs (ys ++ zs) (length xs) (length xs + a) w) in
    let next : length xs + a + 1 ≡ length xs + (a + 1) = omega arith in
    ap₂ (λ i l. stored n i (drop 8 (s ∷ ss)) l) next here ∙ stored_within n (a + 1) (drop 8 (s ∷ ss)) xs (set ys a w) zs (omega (arith, length-set ys a w))

stored_part : (i n : ℕ) (ss area : List ℕ) → i + n ≤ length area → stored n i ss area ≡ take i area ++ (stored n 0 ss (part i n area) ++ rest i n area)
stored_part i n ss area h =
    let parts : take i area ++ (part i n area ++ rest i n area) ≡ area = ap (λ l. take i area ++ l) (take-append-drop n (drop i area)) ∙ take-append-drop i area in
    let first : length (take i area) + 0 ≡ i = grind (arith, length-take) in
    ap₂ (λ j l. stored n j ss l) (sym first) (sym parts) ∙ stored_within n 0 ss (take i area) (part i n area) (rest i n area) (omega (arith, length_part i n area h))

spread_same : (n i j : ℕ) (xs ys : List ℕ) → ((k : ℕ) → k < n → get_or xs (i + k) 0 ≡ get_or ys (j + k) 0) → spread n i xs ≡ spread n j ys
unfolding spread
spread_same zero i j xs ys same = refl
spread_same (suc n) i j xs ys same =
    let first : get_or xs i 0 ≡ get_or ys j 0 = let e = same 0 (omega arith) in grind arith in
    ap₂ (λ w ss. unpacked 8 w ++ ss) first (spread_same n (i + 1) (j + 1) xs ys (λ k h. let e = same (1 + k) (omega arith) in grind arith))

spread_part : (i n : ℕ) (area : List ℕ) → spread n i area ≡ spread n 0 (part i n area)
spread_part i n area = spread_same n i 0 area (part i n area) (λ k h. grind (arith, get_or-take, get_or-drop))

-- a read and a write of the words from i to m, by the slice of them; where one lies outside the area, by none
module _ (ends : Bool) (i m start end : ℕ) (area : List ℕ) (d : Option Meaning)
    (from : start ≡ if nat_lt m (length area) && nat_le i m then i else 0) (to : end ≡ if nat_lt m (length area) && nat_le i m then m + 1 else 0) where
  abbrev words : List ℕ
  words = part start (end - start) area

  spanned : span area i m ≡ length words
  spanned = grind (arith, nat_tests, length-take, length-drop)

  whole : length words ≡ end - start
  whole = grind (arith, nat_tests, length-take, length-drop)

  inside : start + length words ≤ length area
  inside = grind (arith, nat_tests, length-take, length-drop)

  same_start : (length words ≡ 0) ⊎ (i ≡ start)
  same_start = grind (arith, nat_tests, length-take, length-drop)

  stored_there : (n : ℕ) (ss : List ℕ) → (n ≡ 0) ⊎ (i ≡ start) → stored n i ss area ≡ stored n start ss area
  unfolding stored
  stored_there n ss e = grind arith

  spread_there : (n : ℕ) → (n ≡ 0) ⊎ (i ≡ start) → spread n i area ≡ spread n start area
  unfolding spread
  spread_there n e = grind arith

  pub read_slice : (effect_of (Read ends) i m area d).area
      ≡ take start area ++ (stored (length words) 0 (gather ends (8 * length words) d).symbols words ++ drop (end - start) (drop start area))
  read_slice = grind (arith, spanned, stored_there (length words) (gather ends (8 * length words) d).symbols same_start, stored_part start (length words) (gather ends (8 * length words) d).symbols area inside, whole)

  pub write_slice : effect_of (Write ends) i m area d ≡ write_effect area (send ends (spread (length words) 0 words) d)
  write_slice = grind (arith, spanned, spread_there (length words) same_start, spread_part start (length words) area, whole)

-- and words that a read left in that slice make the area one that the move may leave
module _ (ends : Bool) (x : Move) (is : x.transfer ≡ Read ends) (start end : ℕ) (area : List ℕ) (d : Option Meaning) (sound : Fine d)
    (from : start ≡ if nat_lt x.m (length area) && nat_le x.i x.m then x.i else 0) (to : end ≡ if nat_lt x.m (length area) && nat_le x.i x.m then x.m + 1 else 0) where
  pub read_confined : (l : List ℕ) → l ≡ stored (length (part start (end - start) area)) 0 (gather ends (8 * length (part start (end - start) area)) d).symbols (part start (end - start) area)
      → Confined x area (take start area ++ (l ++ drop (end - start) (drop start area)))
  read_confined l e =
      let left = ap (λ t. (effect_of t x.i x.m area d).area) is ∙ read_slice ends x.i x.m start end area d from to in
      rw e (subst (Confined x area) left (confined x area d sound))
