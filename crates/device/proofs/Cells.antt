-- What an edit of a list of cells keeps.
use Rattle.std.proofs.Common.{ℕ, zero, suc, ◌<◌, List, [], ◌∷◌, ◌++◌, set, replicate, arith}
use Rattle.device.specs.Meaning.{Below}

pub below_push : (n : ℕ) (xs : List ℕ) (s : ℕ) → Below n xs → s < n → Below n (xs ++ (s ∷ []))
below_push n [] s h l zero = l
below_push n [] s h l (suc k) = omega arith
below_push n (x ∷ xs) s h l zero = h 0
below_push n (x ∷ xs) s h l (suc k) = below_push n xs s (λ j. h (suc j)) l k

pub below_set : (n : ℕ) (xs : List ℕ) (i s : ℕ) → Below n xs → s < n → Below n (set xs i s)
below_set n [] i s h l k = h k
below_set n (x ∷ xs) zero s h l zero = l
below_set n (x ∷ xs) zero s h l (suc k) = h (suc k)
below_set n (x ∷ xs) (suc i) s h l zero = h 0
below_set n (x ∷ xs) (suc i) s h l (suc k) = below_set n xs i s (λ j. h (suc j)) l k

pub below_replicate : (n m s : ℕ) → s < n → Below n (replicate m s)
below_replicate n zero s l k = omega arith
below_replicate n (suc m) s l zero = l
below_replicate n (suc m) s l (suc k) = below_replicate n m s l k
