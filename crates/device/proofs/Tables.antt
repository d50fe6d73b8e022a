-- How often a symbol stands in a table, and what it says of a table that each stands there once.
use Rattle.std.proofs.Common.{◌≡◌, ℕ, zero, suc, ◌+◌, ◌<◌, ◌≤◌, Bool, true, false, not, cond, eqb, ltb, List, [], ◌∷◌, length, take, drop, get_or, Some, None, count_by, position, sym, refl, ap, ◌∙◌, ⊎_elim, arith}
use Rattle.std.specs.List.{position_or_len, list_any}
use Rattle.std.proofs.lemmas.List.{get_or_past}
use Rattle.std.proofs.lemmas.List.Quantifiers.{position-Some}
use Rattle.std.proofs.lemmas.List.Sums.{sum_by-cons, count_by-le-length}
use Rattle.std.proofs.lemmas.Bool.{ltb-true, eqb-true, cases_Bool, cases_lt, cases_eq, and_from, and_left, and_right}
use Rattle.std.proofs.lemmas.Bool.Decides.{nat_tests}
use Rattle.std.proofs.lemmas.Grind.{common_steps}
use Rattle.device.specs.Layers.{occurs, each_below}
use Rattle.device.specs.Meaning.{Below}

-- an entry more
counted : (p : ℕ → Bool) (x : ℕ) (xs : List ℕ) → count_by p (x ∷ xs) ≡ cond (p x) 1 0 + count_by p xs
counted p x xs = sum_by-cons (λ y. cond (p y) 1 0) x xs

-- what stands nowhere is counted no time
none_pass : (p : ℕ → Bool) (xs : List ℕ) → length xs ≤ position_or_len p xs → count_by p xs ≡ 0
none_pass p [] h = refl
none_pass p (x ∷ xs) h = let c = counted p x xs in let ih = none_pass p xs in grind (arith, nat_tests)

pub position_none : (p : ℕ → Bool) (xs : List ℕ) → position p xs ≡ None → count_by p xs ≡ 0
position_none p xs e = none_pass p xs (grind (arith, nat_tests))

-- some entry passes exactly where the count is not 0
any_counted : (p : ℕ → Bool) (xs : List ℕ) → list_any p xs ≡ not (eqb (count_by p xs) 0)
any_counted p [] = grind (arith, nat_tests)
any_counted p (x ∷ xs) = let c = counted p x xs in let ih = any_counted p xs in ⊎_elim
    (λ (t : p x ≡ true). rw (c, t) (grind (arith, nat_tests)))
    (λ (f : p x ≡ false). rw (c, f) (grind (arith, nat_tests)))
    (cases_Bool (p x))

-- some entry behind the first that passes passes too exactly where the count is not 1
any_past : (p : ℕ → Bool) (xs : List ℕ) → position_or_len p xs < length xs → list_any p (drop (position_or_len p xs + 1) xs) ≡ not (eqb (count_by p xs) 1)
any_past p [] h = absurd (omega arith)
any_past p (x ∷ xs) h = let c = counted p x xs in let a = any_counted p xs in let ih = any_past p xs in ⊎_elim
    (λ (t : p x ≡ true). rw (c, t) (grind (arith, nat_tests)))
    (λ (f : p x ≡ false). rw (c, f) (grind (arith, nat_tests)))
    (cases_Bool (p x))

pub any_behind : (p : ℕ → Bool) (xs : List ℕ) (i k : ℕ) → position p xs ≡ Some i → length xs ≤ i + 1 + k → list_any p (take k (drop (i + 1) xs)) ≡ not (eqb (count_by p xs) 1)
any_behind p xs i k e long = let past = any_past p xs in grind (arith, common_steps)

-- at its first place a symbol stands
pub position_at : (s : ℕ) (xs : List ℕ) (i : ℕ) → position (λ x. eqb x s) xs ≡ Some i → (i < length xs) × (get_or xs i 0 ≡ s)
position_at s xs i e = let at = position-Some (λ x. eqb x s) xs i 0 e in (at.0, eqb-true _ _ at.1)

-- the test over each number below n, from its values
pub each_true : (n : ℕ) (test : ℕ → Bool) → ((k : ℕ) → k < n → test k ≡ true) → each_below n test ≡ true
unfolding each_below
each_true zero test each = refl
each_true (suc n) test each = and_from (test n) (each_below n test) (each n (omega arith)) (each_true n test (λ k h. each k (omega arith)))

pub each_false : (n : ℕ) (test : ℕ → Bool) (k : ℕ) → k < n → test k ≡ false → each_below n test ≡ false
unfolding each_below
each_false zero test k h e = absurd (omega arith)
each_false (suc n) test k h e =
    ⊎_elim
    (λ (p : k ≡ n). and_left (test n) (each_below n test) (ap test (sym p) ∙ e))
    (λ d. and_right (test n) (each_below n test) (each_false n test k (omega arith) e))
    (cases_eq k n)

-- the entries below n + 1 are those below n and those that are n
below_more : (n : ℕ) (xs : List ℕ) → count_by (λ x. ltb x (suc n)) xs ≡ occurs n xs + count_by (λ x. ltb x n) xs
below_more n [] = refl
below_more n (x ∷ xs) =
    let ih = below_more n xs in
    let a = counted (λ y. ltb y (suc n)) x xs in
    let b = counted (λ y. eqb y n) x xs in
    let c = counted (λ y. ltb y n) x xs in
    grind (arith, nat_tests)

-- where each number below n is an entry once, n entries are below n
count_once : (n : ℕ) (xs : List ℕ) → ((s : ℕ) → s < n → occurs s xs ≡ 1) → count_by (λ x. ltb x n) xs ≡ n
count_once zero [] once = refl
count_once zero (x ∷ xs) once = let c = counted (λ y. ltb y 0) x xs in let ih = count_once zero xs (λ s h. absurd (omega arith)) in grind (arith, nat_tests)
count_once (suc n) xs once = let ih = count_once n xs (λ s h. once s (omega arith)) in let o = once n (omega arith) in let m = below_more n xs in omega arith

-- where all are counted, each passes
all_counted : (p : ℕ → Bool) (xs : List ℕ) → count_by p xs ≡ length xs → (k : ℕ) → k < length xs → p (get_or xs k 0) ≡ true
all_counted p [] e k h = absurd (omega arith)
all_counted p (x ∷ xs) e zero h = let c = counted p x xs in let m = count_by-le-length p xs in grind arith
all_counted p (x ∷ xs) e (suc k) h =
    let c = counted p x xs in
    let m = count_by-le-length p xs in
    let rest : count_by p xs ≡ length xs = grind arith in
    all_counted p xs rest k (omega arith)

-- where n entries hold each number below n once, they are all below n
pub once_below : (n : ℕ) (xs : List ℕ) → 0 < n → length xs ≡ n → ((s : ℕ) → s < n → occurs s xs ≡ 1) → Below n xs
once_below n xs p long once k = ⊎_elim
    (λ (h : k < length xs). ltb-true _ _ (all_counted (λ x. ltb x n) xs (count_once n xs once ∙ sym long) k h))
    (λ (h : length xs ≤ k). rw (get_or_past xs k 0 h) p)
    (cases_lt k (length xs))
