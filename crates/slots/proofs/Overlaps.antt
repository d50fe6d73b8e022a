-- Whether an area overlaps that of a program.
use Rattle.std.proofs.Common.{◌≡◌, ℕ, Bool, false, List, [], ◌∷◌, ◌||◌, ◌&&◌, ◌+◌, ltb, length, get_or, Some, None, Option, refl, ap, ◌∙◌}
use Rattle.std.specs.Iterator.Adapters.{option_iter_item, option_iter_done, option_iter_steps}
use Rattle.std.specs.List.{list_any, flat_map}
use Rattle.std.specs.Option.{option_map, option_to_list}
use Rattle.std.proofs.lemmas.Bool.{MatchBool-at_false, MatchBool-at_true}
use Rattle.std.proofs.lemmas.Iterator.{YieldsList}
use Rattle.buffers.specs.Buffers.{any_below}
use Rattle.host.specs.Calls.{meets, overlaps}
use Rattle.slots.specs.Held.{program_of}
use Rattle.slots.specs.declared.slots.Program.{Program}
use Rattle.buffers.proofs.Found.{any_in}

-- what an iterator over a `&Option` gives: what is there, once
pub option_yields : {A : Type 0} {s : _} (o : Option A) → option_iter_item s ≡ o → option_iter_done s ≡ false → YieldsList option_iter_steps (λ y. y.now) s (option_to_list o)
option_yields {A} {s} None e begun = record { runs = λ x j h. let z : ◌≡◌ {A = Option A} (Some x.now) None = MatchBool-at_false _ _ begun h.1 ∙ e in cc }
option_yields {A} {s} (Some v) e begun = record {
  runs = (
    λ j h. let z : ◌≡◌ {A = Option A} None (Some v) = MatchBool-at_false _ _ begun h.1 ∙ e in cc,
    λ x j h. (
      (let z : ◌≡◌ {A = Option A} (Some x.now) (Some v) = MatchBool-at_false _ _ begun h.1 ∙ e in cc),
      λ y k g. let z = MatchBool-at_true _ _ h.0 g.1 in cc,
    ),
  );
}

-- whether an area meets that of a program
abbrev pub meets_program : ℕ → ℕ → Program → Bool
meets_program base size g = ltb base (g.area.base + g.area.size) && ltb g.area.base (base + size)

meets_some : (base size : ℕ) (t : List (Option Program)) → list_any (meets_program base size) (flat_map option_to_list t) ≡ list_any (λ o. meets base size (option_map program_of o)) t
meets_some base size [] = refl
meets_some base size (None ∷ t) = meets_some base size t
meets_some base size (Some g ∷ t) = ap (λ b. meets_program base size g || b) (meets_some base size t)

pub overlaps_is : (base size : ℕ) (t : List (Option Program)) → length t ≡ 4 → list_any (meets_program base size) (flat_map option_to_list t) ≡ overlaps (λ k. option_map program_of (get_or t k None)) base size
overlaps_is base size t four =
    meets_some base size t ∙ any_in (λ o. meets base size (option_map program_of o)) t None
    ∙ ap (λ n. any_below n (λ k. meets base size (option_map program_of (get_or t k None)))) four
