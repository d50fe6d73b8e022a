-- A pile stays tidy under a push and a pop.
use Rattle.std.proofs.Common.{◌≡◌, ℕ, suc, ◌+◌, ◌-◌, ◌<◌, ◌≤◌, List, ◌∷◌, length, set, drop, replicate, sym, ap, ◌∙◌, arith}
use Rattle.std.proofs.lemmas.List.{drop-set, drop-set-lt, drop-drop, drop-replicate}

pub tidy_push : {T : Type 0} (blank : T) (cells : List T) (n : ℕ) (x : T) → drop n cells ≡ replicate (16 - n) blank → drop (n + 1) (set cells n x) ≡ replicate (16 - (n + 1)) blank
tidy_push blank cells n x tidy =
    drop-set-lt (n + 1) cells n x (omega arith)
    ∙ sym (drop-drop 1 n cells)
    ∙ ap (drop 1) tidy
    ∙ drop-replicate 1 (16 - n) blank
    ∙ ap (λ m. replicate m blank) (omega arith)

pub tidy_pop : {T : Type 0} (blank : T) (cells : List T) (n : ℕ) → 0 < n → n ≤ 16 → length cells ≡ 16 → drop n cells ≡ replicate (16 - n) blank → drop (n - 1) (set cells (n - 1) blank) ≡ replicate (16 - (n - 1)) blank
tidy_pop blank cells n there fits whole tidy =
    let rest : drop (n - 1 + 1) cells ≡ drop n cells = ap (λ m. drop m cells) (omega (arith, there)) in
    let one_more : blank ∷ replicate (16 - n) blank ≡ replicate (16 - (n - 1)) blank = ap (λ m. replicate m blank) {x = suc (16 - n)} (omega (arith, there, fits)) in
    drop-set cells (n - 1) blank (omega (arith, there, fits, whole))
    ∙ ap (λ xs. blank ∷ xs) (rest ∙ tidy)
    ∙ one_more
