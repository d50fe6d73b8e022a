-- A test over the numbers below some number.
use Rattle.std.proofs.Common.{◌≡◌, ℕ, zero, suc, ◌+◌, ◌-◌, ◌*◌, ◌/◌, ◌<◌, ◌≤◌, min, max, Bool, true, false, ◌&&◌, ◌||◌, leb, List, [], ◌∷◌, length, get_or, Decides, sym, refl, ap, ◌∙◌, inl, inr, add-one, zero-add, arith}
use Rattle.std.proofs.lemmas.Bool.Decides.{same_from_decides, Decides-below_or}
use Rattle.std.proofs.lemmas.Bool.{cases_eq, cases_lt, or_left, or_right, or_from, and_parts, and_from, leb-true, le-leb, both_ways, false_from_ne_true}
use mathlib.Core.Path.{fun_ext}
use Rattle.std.specs.List.{list_any, range_with_len}
use Rattle.buffers.specs.Buffers.{any_below}

pub any_found : (n : ℕ) (test : ℕ → Bool) (i : ℕ) → i < n → test i ≡ true → any_below n test ≡ true
unfolding any_below
any_found zero test i h e = absurd (omega arith)
any_found (suc n) test i h e =
    elim (cases_eq i n) [
      | inl same ↦ or_left (test n) (any_below n test) (ap test (sym same) ∙ e)
      | inr other ↦ or_right (test n) (any_below n test) (any_found n test i (omega arith) e)
    ]

-- the test of the lowest number in front
any_first : (n : ℕ) (test : ℕ → Bool) → (test 0 || any_below n (λ k. test (suc k))) ≡ any_below (suc n) test
unfolding any_below
any_first zero test = refl
any_first (suc n) test = exchanged (test 0) (test (suc n)) (any_below n (λ k. test (suc k))) ∙ ap (λ b. test (suc n) || b) (any_first n test)
  where
    exchanged : (a b c : Bool) → (a || (b || c)) ≡ (b || (a || c))
    exchanged true true c = refl
    exchanged true false c = refl
    exchanged false b c = refl

-- a test that holds of an element of a list
pub any_in : {X : Type 0} (test : X → Bool) (xs : List X) (d : X) → list_any test xs ≡ any_below (length xs) (λ k. test (get_or xs k d))
unfolding any_below
any_in test [] d = refl
any_in test (x ∷ xs) d = ap (λ b. test x || b) (any_in test xs d) ∙ any_first (length xs) (λ k. test (get_or (x ∷ xs) k d))

-- a test that holds of a number of a range
any_from : (test : ℕ → Bool) (a n : ℕ) → list_any test (range_with_len a n) ≡ any_below n (λ k. test (a + k))
unfolding any_below
any_from test a zero = refl
any_from test a (suc n) =
    ap (λ b. test a || b) (any_from test (a + 1) n ∙ ap (any_below n) (fun_ext (λ k. let e : a + 1 + k ≡ a + suc k = omega arith in ap test e)))
    ∙ ap (λ i. test i || any_below n (λ k. test (a + suc k))) (let e : a ≡ a + 0 = omega arith in e)
    ∙ any_first n (λ k. test (a + k))

pub any_in_range : (test : ℕ → Bool) (n : ℕ) → list_any test (range_with_len 0 n) ≡ any_below n test
any_in_range test n = any_from test 0 n ∙ ap (any_below n) (fun_ext (λ k. ap test (zero-add k)))

pub any_more : (test : ℕ → Bool) (i : ℕ) → any_below i test ≡ false → test i ≡ false → any_below (i + 1) test ≡ false
unfolding any_below
any_more test i h e = ap (λ n. any_below n test) (add-one i) ∙ or_from (test i) (any_below i test) e h

pub any_none : (test : ℕ → Bool) → any_below 0 test ≡ false
unfolding any_below
any_none test = refl

pub any_never : (n : ℕ) → any_below n (λ k. false) ≡ false
unfolding any_below
any_never zero = refl
any_never (suc n) = any_never n

pub any_and : (n : ℕ) (h : Bool) (test : ℕ → Bool) → (h && any_below n test) ≡ any_below n (λ k. h && test k)
any_and n true test = refl
any_and n false test = sym (any_never n)

-- a test that holds of some number below n
pub any_decides : (n : ℕ) (test : ℕ → Bool) → Decides (any_below n test) ((k : ℕ) × (k < n) × (test k ≡ true))
unfolding any_below
any_decides n test = Decides-below_or test (λ k. test k ≡ true) (λ i. any_below i test) (λ k. (λ e. e, λ e. e)) refl (λ _. refl) n

pub any_swap : (m n : ℕ) (test : ℕ → ℕ → Bool) → any_below m (λ k. any_below n (test k)) ≡ any_below n (λ j. any_below m (λ k. test k j))
any_swap m n test = same_from_decides _ _ one (any_decides n (λ j. any_below m (λ k. test k j)))
  where
    one : Decides (any_below m (λ k. any_below n (test k))) ((j : ℕ) × (j < n) × (any_below m (λ k. test k j) ≡ true))
    one = (
      λ e. let a = (any_decides m (λ k. any_below n (test k))).0 e in
          let b = (any_decides n (test a.0)).0 a.2 in
          (b.0, b.1, any_found m (λ k. test k b.0) a.0 a.1 b.2),
      λ h. let a = (any_decides m (λ k. test k h.0)).0 h.2 in
          any_found m (λ k. any_below n (test k)) a.0 a.1 (any_found n (test a.0) h.0 h.1 a.2),
    )

-- groups that meet have a word in common
module _ (f l i m : ℕ) where
  abbrev test : ℕ → Bool
  test j = leb (f / 32) ((i + j) / 32) && leb ((i + j) / 32) (l / 32)

  word_is : (j : ℕ) → f / 32 ≤ (i + j) / 32 → (i + j) / 32 ≤ l / 32 → test j ≡ true
  word_is j x y = and_from (leb (f / 32) ((i + j) / 32)) (leb ((i + j) / 32) (l / 32)) (le-leb (f / 32) ((i + j) / 32) x) (le-leb ((i + j) / 32) (l / 32) y)

  word_of : i ≤ m → max (f / 32) (i / 32) ≤ min (l / 32) (m / 32) → any_below (m + 1 - i) test ≡ true
  word_of h e = elim (cases_lt (i / 32) (f / 32)) [
    | inl below ↦ any_found (m + 1 - i) test (32 * (f / 32) - i) (omega arith) (word_is (32 * (f / 32) - i) (omega arith) (omega arith))
    | inr above ↦ any_found (m + 1 - i) test 0 (omega arith) (word_is 0 (omega arith) (omega arith))
  ]

  pub groups_meet : (r : Bool) → Decides r ((i ≤ m) × (max (f / 32) (i / 32) ≤ min (l / 32) (m / 32))) → r ≡ any_below (m + 1 - i) test
  groups_meet r d = same_from_decides r (any_below (m + 1 - i) test) d (
    (λ e. let a = (any_decides (m + 1 - i) test).0 e in
        let b = and_parts (leb (f / 32) ((i + a.0) / 32)) (leb ((i + a.0) / 32) (l / 32)) a.2 in
        let x = leb-true _ _ b.0 in
        let y = leb-true _ _ b.1 in
        let z = a.1 in
        (omega arith, omega arith)),
    λ h. word_of h.0 h.1,
  )

  -- the two ways of the code
  pub meet_by : (a b : ℕ) → i ≤ m → a ≡ max (f / 32) (i / 32) → b ≡ min (l / 32) (m / 32) → leb a b ≡ any_below (m + 1 - i) test
  meet_by a b h ea eb = groups_meet (leb a b) (
    (λ e. let x = leb-true a b e in (h, omega arith)),
    λ k. let y = k.1 in le-leb a b (omega arith),
  )

  pub meet_not : m < i → leb i m ≡ any_below (m + 1 - i) test
  meet_not h = groups_meet (leb i m) (
    (λ e. let x = leb-true i m e in absurd (omega arith)),
    λ k. le-leb i m k.0,
  )

-- a test that holds of no number
pub any_not : (n : ℕ) (test : ℕ → Bool) → ((k : ℕ) → test k ≡ false) → any_below n test ≡ false
unfolding any_below
any_not zero test none = refl
any_not (suc n) test none = or_from (test n) (any_below n test) (none n) (any_not n test none)

pub any_none_at : (n : ℕ) (test : ℕ → Bool) → any_below n test ≡ false → (k : ℕ) → k < n → test k ≡ false
any_none_at n test e k h = false_from_ne_true (test k) (λ t. both_ways (any_below n test) e (any_found n test k h t))
