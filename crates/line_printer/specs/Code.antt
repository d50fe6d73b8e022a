-- The line-printer code: the character that a symbol prints, by its Unicode number, if it prints one.
use Rattle.std.specs.Prelude.{ℕ, ◌+◌, cond, ◌&&◌, List, [], ◌∷◌, Some, None, Option, ◌==◌, nat_le}

-- symbols that print neither a digit nor a letter, each with its character: space, new line, new page, % ' : = ( ) £ * , /
-- º ; + - .
abbrev pub signs : List (ℕ × ℕ)
signs =
    (0, 32) ∷ (2, 10) ∷ (3, 12) ∷ (6, 37) ∷ (7, 39) ∷ (8, 58) ∷ (9, 61) ∷ (10, 40) ∷ (11, 41) ∷ (12, 163) ∷ (13, 42)
    ∷ (14, 44) ∷ (15, 47) ∷ (27, 186) ∷ (28, 59) ∷ (29, 43) ∷ (30, 45) ∷ (31, 46) ∷ []

abbrev pub sign_in : List (ℕ × ℕ) → ℕ → Option ℕ
sign_in [] s = None
sign_in (p ∷ ps) s = cond (s == p.0) (Some p.1) (sign_in ps s)

-- 16 to 25 print the digits 0 to 9, whose numbers begin at 48; 33 to 58 print the letters A to Z, which begin at 65
abbrev pub printed : ℕ → Option ℕ
printed s =
    cond (nat_le 16 s && nat_le s 25) (Some (s + 32)) (cond (nat_le 33 s && nat_le s 58) (Some (s + 32)) (sign_in signs s))
