-- One more symbol of some that are written.
use Rattle.std.proofs.Common.{◌≡◌, ℕ, ◌+◌, ◌<◌, ◌≤◌, List, [], ◌∷◌, length, get_or, drop, Some, None, Ok, Err, Option, Result, sym, refl, ap, ◌∙◌, subst, arith}
use Prim.Native.String.{String}
use Rattle.std.proofs.lemmas.List.{at_drop_more, at_drop_all}
use Rattle.device.specs.Meaning.{Meaning, write_answer, write_after}
use Rattle.device.specs.Bank.{answer_of, after_of}
use Rattle.tape_copy.specs.Copying.{Written, written, write_on}

-- n symbols were taken; what is left gives the whole
pub record Going (whole rest : Written) (n : ℕ) : Type 0 where
  pub count : n + rest.count ≡ whole.count
  pub refusal : rest.refusal ≡ whole.refusal
  pub device : rest.device ≡ whole.device

pub started : (w : Written) → Going w w 0
started w = record { count = omega arith; refusal = refl; device = refl }

module _ (whole : Written) (symbols : List ℕ) (i s : ℕ) (d : Option Meaning) (h : i < length symbols) (es : s ≡ get_or symbols i 0) where
  abbrev after : Option Meaning
  after = after_of (λ m. write_after m s) d

  -- the next symbol, by what its write answers
  next : {r : Result (Unit {0}) String} → r ≡ answer_of write_answer d → written (drop i symbols) d ≡ write_on r after (written (drop (i + 1) symbols) after)
  unfolding written
  next {r} e =
      at_drop_more (λ ss. written ss d) symbols i 0 h
      ∙ ap (λ x. written (x ∷ drop (i + 1) symbols) d) (sym es)
      ∙ ap (λ x. write_on x after (written (drop (i + 1) symbols) after)) (sym e)

  module _ (g : Going whole (written (drop i symbols) d) i) {d' : Option Meaning} (ed : d' ≡ after) where
    pub more : Ok tt ≡ answer_of write_answer d → Going whole (written (drop (i + 1) symbols) d') (i + 1)
    more e =
        let now : Going whole (write_on (Ok tt) after (written (drop (i + 1) symbols) after)) i = subst (λ w. Going whole w i) (next e) g in
        subst (λ x. Going whole (written (drop (i + 1) symbols) x) (i + 1)) (sym ed) (record { count = omega (arith, now.count); refusal = now.refusal; device = now.device })

    pub stopped : (e : String) → Err e ≡ answer_of write_answer d → (i ≡ whole.count) × (Some e ≡ whole.refusal) × (d' ≡ whole.device)
    stopped e q =
        let now : Going whole (write_on (Err e) after (written (drop (i + 1) symbols) after)) i = subst (λ w. Going whole w i) (next q) g in
        (omega (arith, now.count), now.refusal, ed ∙ now.device)

pub finished : (whole : Written) (symbols : List ℕ) (i : ℕ) (d : Option Meaning) → length symbols ≤ i → Going whole (written (drop i symbols) d) i → (i ≡ whole.count) × (None ≡ whole.refusal) × (d ≡ whole.device)
unfolding written
finished whole symbols i d h g =
    let now : Going whole (written [] d) i = subst (λ w. Going whole w i) (at_drop_all (λ ss. written ss d) symbols i h) g in
    (omega (arith, now.count), now.refusal, now.device)
