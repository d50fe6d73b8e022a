-- Whether some bytes from a place on leave an area: the last of them does, or the one at place 65,535 does.
use Rattle.std.proofs.Common.{◌≡◌, ℕ, ◌+◌, ◌-◌, ◌*◌, ◌^◌, ◌<◌, ◌≤◌, min, Bool, true, false, ltb, leb, sym, ap, ◌∙◌, inl, inr, arith}
use Rattle.std.proofs.lemmas.Bool.Decides.{same_from_decides}
use Rattle.std.proofs.lemmas.Bool.{cases_lt, leb-true, le-leb, lt-leb, ltb-true, lt-ltb}
use Rattle.buffers.specs.Buffers.{any_below}
use Rattle.buffers.proofs.Found.{any_decides, any_found, any_not, any_none}
use Rattle.outlook.specs.Places.{place_after}

module _ (place len size : ℕ) (small : place < 2 ^ 16) where
  abbrev test : ℕ → Bool
  test k = leb (6 * size) (place_after place k)

  -- no place is outside an area of so many words
  pub never : 10922 < size → false ≡ any_below len test
  never h = sym (any_not len test (λ k. lt-leb (6 * size) (place_after place k) (omega arith)))

  -- the last byte, or the one at place 65,535
  last_one : 0 < len → 6 * size < min (place + len) 65536 → any_below len test ≡ true
  last_one some e = elim (cases_lt 65536 (place + len)) [
    | inl wraps ↦ any_found len test (65535 - place) (omega arith) (le-leb (6 * size) (place_after place (65535 - place)) (omega arith))
    | inr fits ↦ any_found len test (len - 1) (omega arith) (le-leb (6 * size) (place_after place (len - 1)) (omega arith))
  ]

  pub by_end : (end : ℕ) → 0 < len → size ≤ 10922 → end ≡ min (place + len) 65536 → ltb (6 * size) end ≡ any_below len test
  by_end end some few ee = same_from_decides (ltb (6 * size) end) (any_below len test) (
    (λ e. let x = ltb-true (6 * size) end e in omega arith),
    λ h. lt-ltb (6 * size) end (omega arith),
  ) (
    (λ e. let a = (any_decides len test).0 e in let x = leb-true _ _ a.2 in let y = a.1 in omega arith),
    λ h. last_one some h,
  )

  pub none : len ≡ 0 → false ≡ any_below len test
  none e = sym (ap (λ n. any_below n test) e ∙ any_none test)
