-- A bank with a device plugged on a number: its calls at that number and at any other. Assumes nothing.
use Rattle.std.specs.Prelude.{◌≡◌, ℕ, ◌<◌, ◌≤◌, ◌≢◌, length, get_or, Some, None, Result, slice_index_or, slice_set}
use Rattle.std.proofs.Common.{sym, ap, ◌∙◌, ⊎_elim, arith, length-set}
use Prim.Native.String.{String}
use Rattle.std.proofs.lemmas.List.{get_or-set_same, get_or-set_other, set-set, set_comm}
use Rattle.std.proofs.lemmas.Bool.{cases_eq}
use Rattle.device.specs.Meaning.{Meaning, Sound}
use Rattle.device.specs.Bank.{Devices, Whole, answer_of, after_of, bank_answer, bank_after, plugged}

module _ (b : Devices) (n : ℕ) (m : Meaning) where
  pub at_plugged : n < length b → slice_index_or (plugged b n m) n None ≡ Some m
  at_plugged h = get_or-set_same b n (Some m) None h

  pub at_other : (k : ℕ) → k ≢ n → slice_index_or (plugged b n m) k None ≡ slice_index_or b k None
  at_other k d = get_or-set_other b n k (Some m) None d

  -- a call at the number on which the device is plugged
  module _ (k : ℕ) (same : k ≡ n) (w : Whole b) (few : n ≤ 15) where
    found_here : get_or (plugged b n m) k None ≡ Some m
    found_here = let h : n < length b = omega (arith, w.sixteen) in rw same (at_plugged h)

    pub answer_here : {A : Type 0} (f : Meaning → Result A String) {r : Result A String} → r ≡ f m → r ≡ bank_answer f (plugged b n m) k
    answer_here f e = e ∙ sym (ap (answer_of f) found_here)

    pub after_here : (f : Meaning → Meaning) {m' : Meaning} → m' ≡ f m → plugged b n m' ≡ bank_after f (plugged b n m) k
    after_here f e =
        ap (plugged b n) e
        ∙ sym
        (ap (λ o. slice_set (plugged b n m) k (after_of f o)) found_here
        ∙ (ap (λ i. slice_set (plugged b n m) i (Some (f m))) same ∙ set-set b n (Some m) (Some (f m))))

  -- a call at another number
  module _ (k : ℕ) (other : k ≢ n) where
    pub answer_other : {A : Type 0} (f : Meaning → Result A String) {r : Result A String} → r ≡ bank_answer f b k → r ≡ bank_answer f (plugged b n m) k
    answer_other f e = e ∙ sym (ap (answer_of f) (at_other k other))

    pub after_other : (f : Meaning → Meaning) {b' : Devices} → b' ≡ bank_after f b k → plugged b' n m ≡ bank_after f (plugged b n m) k
    after_other f e =
        ap (λ d. plugged d n m) e
        ∙ sym
        (ap (λ o. slice_set (plugged b n m) k (after_of f o)) (at_other k other)
        ∙ set_comm b n k (Some m) (after_of f (slice_index_or b k None)) (λ q. other (sym q)))

  pub plugged_whole : Whole b → n ≤ 15 → Sound m → Whole (plugged b n m)
  plugged_whole w h s = record {
    sixteen = length-set b n (Some m) ∙ w.sixteen;
    each_sound = λ k. let e : n < length b = omega (arith, w.sixteen) in
        ⊎_elim
        (λ (p : k ≡ n). rw (p, at_plugged e) s)
        (λ (d : k ≢ n). rw (at_other k d) (w.each_sound k))
        (cases_eq k n);
  }
