-- A movement of symbols on buffer n of a bank, part by part.
use Rattle.std.proofs.Common.{◌≡◌, ℕ, ◌+◌, length, set, Option, sym, ap, ◌∙◌, subst, arith}
use Rattle.device.specs.Meaning.{Meaning}
use Rattle.device.specs.Bank.{Devices, standing}
use Rattle.device.proofs.Standing.{Beside, beside_set, beside_all}
use Rattle.transfer.specs.Symbols.{Stop, Run, Sent}
use Rattle.transfer.specs.Symbols.Stop.{all}

-- what a run moved
abbrev pub count : Run → Sent
count r = record { moved = length r.symbols; stop = r.stop; device = r.device }

module _ (n : ℕ) (b₀ : Devices) (whole : Sent) where
  -- so many symbols were moved, and `rest` is left
  pub record SoFar (symbols : ℕ) (rest : Sent) (b : Devices) : Type 0 where
    pub moved : whole.moved ≡ symbols + rest.moved
    pub stop : whole.stop ≡ rest.stop
    pub device : whole.device ≡ rest.device
    pub others : Beside n b₀ b

  -- it ended
  pub record Done (symbols : ℕ) (end : Stop) (b : Devices) : Type 0 where
    pub moved : symbols ≡ whole.moved
    pub stop : end ≡ whole.stop
    pub after : b ≡ set b₀ n whole.device

  module _ {symbols : ℕ} {rest : Sent} {b : Devices} (s : SoFar symbols rest b) where
    -- m symbols more were moved, which left d on the buffer
    module _ (m : ℕ) (d : Option Meaning) {symbols' : ℕ} {b' : Devices} (em : symbols' ≡ symbols + m) (eb : b' ≡ set b n d) where
      pub more : (x : Sent) → rest ≡ record { moved = m + x.moved; stop = x.stop; device = x.device } → SoFar symbols' x b'
      more x e =
          let now = subst (λ y. SoFar symbols y b) e s in
          record { moved = omega (arith, now.moved); stop = now.stop; device = now.device; others = beside_set n b₀ b d eb now.others }

      pub last : (end : Stop) → rest ≡ record { moved = m; stop = end; device = d } → Done symbols' end b'
      last end e =
          let now = subst (λ y. SoFar symbols y b) e s in
          record { moved = em ∙ sym now.moved; stop = sym now.stop; after = eb ∙ now.others d ∙ ap (set b₀ n) (sym now.device) }

    -- nothing was left
    pub done : {symbols' : ℕ} → symbols' ≡ symbols → rest ≡ record { moved = 0; stop = all; device = standing b n } → Done symbols' all b
    done em e =
        let now = subst (λ y. SoFar symbols y b) e s in
        record { moved = omega (arith, now.moved); stop = sym now.stop; after = beside_all n b₀ b whole.device now.others (sym now.device) }
