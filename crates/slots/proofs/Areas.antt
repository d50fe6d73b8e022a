-- The area of a program, as a part of the store.
use Rattle.std.proofs.Common.{◌≡◌, ℕ, ◌+◌, List, ◌++◌, length, take, drop, sym, ap, ◌∙◌, drop-drop}
use borrow.Rule.Slice.PartMut.{put_mid}
use Rattle.host.specs.World.{put_part}

-- a part of the store that was written
pub part_written : (base k : ℕ) (words store : List ℕ) → length words ≡ k → put_mid base k store words ≡ put_part base words store
unfolding put_part
part_written base k words store e =
    ap (λ xs. take base store ++ (words ++ xs)) (drop-drop k base store ∙ ap (λ n. drop (base + n) store) (sym e))
