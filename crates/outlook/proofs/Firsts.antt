-- The first broken bound of a list that has a front and a back; and a list of which none is broken.
use Rattle.std.proofs.Common.{◌≡◌, Bool, true, false, List, [], ◌∷◌, ◌++◌, Some, None, refl}
use Rattle.outlook.specs.declared.bound.Bound.{Bound}
use Rattle.outlook.specs.Bounds.{first}

pub first_front : (xs ys : List (Bound × Bool)) (b : Bound) → first xs ≡ Some b → first (xs ++ ys) ≡ Some b
first_front [] ys b e = cc
first_front ((c, true) ∷ xs) ys b e = e
first_front ((c, false) ∷ xs) ys b e = first_front xs ys b e

pub first_back : (xs ys : List (Bound × Bool)) → first xs ≡ None → first (xs ++ ys) ≡ first ys
first_back [] ys e = refl
first_back ((c, true) ∷ xs) ys e = cc
first_back ((c, false) ∷ xs) ys e = first_back xs ys e

pub first_none : (b : Bound) (t : Bool) (xs : List (Bound × Bool)) → first ((b, t) ∷ xs) ≡ None → (t ≡ false) × (first xs ≡ None)
first_none b true xs e = cc
first_none b false xs e = (refl, e)
