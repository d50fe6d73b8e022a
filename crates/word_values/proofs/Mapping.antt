-- An array of numbers, each made a signed one.
use Rattle.std.proofs.Common.{◌≡◌, ℕ, ◌<◌, List, map, length, ℤ, pos, sym, ◌∙◌, arith}
use denote.Param.Members.{Mut}
use Rattle.std.specs.Fn.{Called}
use Rattle.std.specs.Array.{IsMapOf}
use Rattle.std.proofs.lemmas.List.{same_lists, get_or-map, length-map}

pub signed_each : {F : Type 0} {g : Mut F (ℕ × Unit {0}) ℤ} {f : F} (xs : List ℕ) (ys : List ℤ) (n : ℕ) → length xs ≡ n → IsMapOf g f xs ys n → ((p q : F) (x : ℕ) (y : ℤ) → Called g p (x, tt) y q → y ≡ pos x) → ys ≡ map pos xs
signed_each xs ys n long m each =
    same_lists ys (map pos xs) (m.long ∙ sym long ∙ sym (length-map xs pos)) (λ k e lt.
    let below : k < length xs = omega (arith, m.long) in
    let call = m.at k 0 e (omega (arith, m.long)) in
    each call.0 call.1 _ _ call.2 ∙ sym (get_or-map pos xs k 0 e below))
