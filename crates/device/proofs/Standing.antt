-- One number of a bank: what a call there makes of it, and that nothing else changes.
use Rattle.std.proofs.Common.{◌≡◌, ℕ, ◌<◌, ◌≤◌, length, set, None, Option, sym, refl, ap, ◌∙◌, ⊎_elim}
use Rattle.std.proofs.lemmas.List.{get_or-set_same, set-set, set-get_or, get_or_past, set_past}
use Rattle.std.proofs.lemmas.Bool.{cases_lt}
use Rattle.device.specs.Meaning.{Meaning}
use Rattle.device.specs.Bank.{Devices, standing, after_of, bank_after}

-- what a call leaves at its number
pub standing_after : (f : Meaning → Meaning) (b : Devices) (n : ℕ) {b' : Devices} → b' ≡ bank_after f b n → standing b' n ≡ after_of f (standing b n)
standing_after f b n e = ap (λ d. standing d n) e ∙ ⊎_elim
    (λ (h : n < length b). get_or-set_same b n (after_of f (standing b n)) None h)
    (λ (h : length b ≤ n). ap (λ d. standing d n) (set_past b n (after_of f (standing b n)) h) ∙ get_or_past b n None h ∙ sym (ap (after_of f) (get_or_past b n None h)))
    (cases_lt n (length b))

-- two banks that differ at most at number n
abbrev pub Beside : ℕ → Devices → Devices → Type 0
Beside n b₀ b = (x : Option Meaning) → set b n x ≡ set b₀ n x

pub beside_none : (n : ℕ) (b : Devices) → Beside n b b
beside_none n b x = refl

pub beside_more : (f : Meaning → Meaning) (n : ℕ) (b₀ b : Devices) {b' : Devices} → b' ≡ bank_after f b n → Beside n b₀ b → Beside n b₀ b'
beside_more f n b₀ b e h x = ap (λ d. set d n x) e ∙ set-set b n (after_of f (standing b n)) x ∙ h x

-- the bank then, by what stands at the number
pub beside_all : (n : ℕ) (b₀ b : Devices) (d : Option Meaning) → Beside n b₀ b → standing b n ≡ d → b ≡ set b₀ n d
beside_all n b₀ b d h e = sym (set-get_or b n None) ∙ ap (set b n) e ∙ h d

-- a whole movement at the number, after a part of one
pub beside_set : (n : ℕ) (b₀ b : Devices) (d : Option Meaning) {b' : Devices} → b' ≡ set b n d → Beside n b₀ b → Beside n b₀ b'
beside_set n b₀ b d e h x = ap (λ (y : Devices). set y n x) e ∙ set-set b n d x ∙ h x

-- what it leaves at the number, where nothing comes of nothing
pub standing_set : (n : ℕ) (b : Devices) (d : Option Meaning) {b' : Devices} → (standing b n ≡ None → d ≡ None) → b' ≡ set b n d → standing b' n ≡ d
standing_set n b d none e = ap (λ (y : Devices). standing y n) e ∙ ⊎_elim
    (λ (h : n < length b). get_or-set_same b n d None h)
    (λ (h : length b ≤ n). ap (λ (y : Devices). standing y n) (set_past b n d h) ∙ get_or_past b n None h ∙ sym (none (get_or_past b n None h)))
    (cases_lt n (length b))
