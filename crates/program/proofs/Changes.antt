-- The buffers of a slot after one of them changed.
use Rattle.std.proofs.Common.{◌≡◌, ℕ, ◌<◌, true, List, length, get_or, set, Some, Option, refl, arith}
use mathlib.Core.Path.{fun_ext}
use Rattle.std.proofs.lemmas.Bool.Decides.{nat_tests}
use Rattle.std.proofs.lemmas.Grind.{common_steps}
use Rattle.device.specs.Meaning.{Meaning}
use Rattle.buffers.specs.declared.buffer.Work.{Work}
use Rattle.buffers.specs.declared.buffer.Buffer.{Buffer}
use Rattle.buffers.specs.Buffers.{holds, with_work}
use Rattle.outlook.specs.Own.{lines_of}
use Rattle.program.specs.Kept.{Kept, update}

-- a list, read by number, with another element
pub set_update : {X : Type 0} (xs : List X) (at : ℕ) (x d : X) → at < length xs → (k : ℕ) → get_or (set xs at x) k d ≡ update (λ i. get_or xs i d) at x k
set_update xs at x d h k = grind (arith, nat_tests, common_steps)

-- put back as it was
pub unchanged : {X : Type 0} (f : ℕ → X) (at : ℕ) (k : ℕ) → f k ≡ update f at (f at) k
unchanged f at k = grind (arith, nat_tests)

pub nothing_changed : (slot : ℕ) (buffers : ℕ → Buffer) (bank : ℕ → Option Meaning) → Kept slot buffers buffers bank bank
nothing_changed slot buffers bank = record { owners = λ k. refl; others = λ k h. refl; devices = λ k h. refl }

-- a slot's buffer n with other work, and another device there
module _ (slot n : ℕ) (buffers buffers' : ℕ → Buffer) (bank bank' : ℕ → Option Meaning) (w : Work) (d : Option Meaning)
    (held : holds slot (buffers n) ≡ true)
    (changed : (k : ℕ) → buffers' k ≡ update buffers n (with_work w (buffers n)) k)
    (moved : (k : ℕ) → bank' k ≡ update bank n d k) where
  pub lines_changed : lines_of slot buffers' bank' ≡ update (lines_of slot buffers bank) n (Some (record { device = d; work = w }))
  lines_changed = fun_ext (λ k. grind (arith, nat_tests, changed k, moved k))

  pub one_changed : Kept slot buffers buffers' bank bank'
  one_changed = record {
    owners = λ k. grind (arith, nat_tests, changed k);
    others = λ k h. grind (arith, nat_tests, changed k, held, h);
    devices = λ k h. grind (arith, nat_tests, moved k, held, h);
  }
