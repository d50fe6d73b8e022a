-- From what the code does to the host's calls.
use Rattle.std.proofs.Common.{◌≡◌, ℕ, ◌+◌, ◌<◌, ◌≤◌, List, replicate, map, length, get_or, take, drop, set, Some, None, Ok, Err, Result, IsErrAnd, ap, ap₂, ◌∙◌, inl, inr, arith, length-drop, length-take}
use borrow.Rule.Slice.PartMut.{put_mid}
use Rattle.std.proofs.Math.ListN.{get_or-map}
use Rattle.std.proofs.lemmas.Bool.{cases_lt}
use Rattle.std.proofs.lemmas.List.{get_or-replicate, get_or_past}
use Rattle.device.specs.Bank.{Devices, standing}
use Rattle.buffers.specs.declared.buffer.Buffer.{Buffer}
use Rattle.buffers.specs.Buffers.{free, records, released}
use Rattle.program.specs.Kept.{update}
use Rattle.program.proofs.Changes.{set_update}
use Rattle.host.specs.World.{World, put_part}
use Rattle.host.specs.Numbers.{Answer, answered, number_of}
use Rattle.host.specs.Numbers.Answer.{granted, refused}
use Rattle.host.specs.Calls.{Call, refusal, grant, by_check, perform, made, image_words, fresh, loaded, with_buffer, dismissed}
use Rattle.host.specs.declared.refusal.Refusal.{Refusal}
use Rattle.slots.specs.Held.{program_at, world_of}
use Rattle.slots.specs.declared.slots.Slots.{Slots}
use Rattle.slots.proofs.Areas.{part_written}

-- a call that its checks turn down, and one that they let through

pub refused_call : (c : Call) (w : World) (r : Result (Unit {0}) Refusal) (e : Refusal) → IsErrAnd r (λ x. x ≡ e) → Some (number_of e) ≡ refusal c w → ◌≡◌ {A = World × Answer} (w, answered r) (perform c w)
refused_call c w (Ok u) e none h = absurd none
refused_call c w (Err x) e same h = ap (λ y. (w, refused (number_of y))) same ∙ ap (by_check c w) h

pub granted_call : (c : Call) (w v x : World) → v ≡ x → ◌≡◌ {A = World × Answer} (x, granted) (grant c w) → None ≡ refusal c w → ◌≡◌ {A = World × Answer} (v, granted) (perform c w)
granted_call c w v x e g h = ap (λ (y : World). (y, granted)) e ∙ g ∙ ap (by_check c w) h

-- a table of free buffers
all_free : (n k : ℕ) (table : List Buffer) → length table ≡ n → table ≡ replicate n free → get_or table k free ≡ free
all_free n k table l e =
    elim (cases_lt k n) [
      | inl below ↦ ap (λ t. get_or t k free) e ∙ get_or-replicate n k free free below
      | inr past ↦ get_or_past table k free (omega arith)
    ]

pub made_shown :
    (store : List ℕ) (slots : Slots) (table : List Buffer) (d : Devices)
    → ((k : ℕ) → program_at slots k ≡ None)
    → length table ≡ 16
    → table ≡ replicate 16 free
    → world_of store slots table d ≡ made store (standing d)
made_shown store slots table d es l et = λ i. record {
  store = store;
  slots = λ k. es k i;
  buffers = λ k. all_free 16 k table l et i;
  bank = standing d;
}

-- one buffer changed
pub buffer_shown :
    (store : List ℕ) (slots : Slots) (table table' : List Buffer) (d : Devices) (n : ℕ) (b : Buffer)
    → n < length table
    → table' ≡ set table n b
    → world_of store slots table' d ≡ with_buffer n b (world_of store slots table d)
buffer_shown store slots table table' d n b h e = λ i. record {
  store = store;
  slots = program_at slots;
  buffers = λ k. (ap (λ t. get_or t k free) e ∙ set_update table n b free h k) i;
  bank = standing d;
}

pub dismissed_shown :
    (store : List ℕ) (slots slots' : Slots) (table table' : List Buffer) (d : Devices) (p : ℕ)
    → ((k : ℕ) → program_at slots' k ≡ update (program_at slots) p None k)
    → table' ≡ map (released p) table
    → world_of store slots' table' d ≡ dismissed p (world_of store slots table d)
unfolding dismissed
dismissed_shown store slots slots' table table' d p es et = λ i. record {
  store = store;
  slots = λ k. es k i;
  buffers = λ k. (ap (λ t. get_or t k free) et ∙ get_or-map (released p) table k free) i;
  bank = standing d;
}

-- an area filled in the store
pub filled :
    (from base size k : ℕ) (store area image : List ℕ)
    → from ≡ base
    → k ≡ size
    → base + size ≤ length store
    → length area ≡ length (take k (drop from store))
    → area ≡ image_words image (length (take k (drop from store)))
    → put_mid from k store area ≡ put_part base (image_words image size) store
filled from base size k store area image ef ek inside el e =
    let long : length (take k (drop from store)) ≡ k = simp (length-take, length-drop) (omega arith) in
    part_written from k area store (el ∙ long)
    ∙ ap₂ (λ n xs. put_part n xs store) ef (e ∙ ap (image_words image) (long ∙ ek))

pub loaded_shown :
    (store store' : List ℕ) (slots slots' : Slots) (table : List Buffer) (d : Devices) (p base size : ℕ) (image : List ℕ)
    → store' ≡ put_part base (image_words image size) store
    → ((k : ℕ) → program_at slots' k ≡ update (program_at slots) p (Some (fresh base size)) k)
    → world_of store' slots' table d ≡ loaded p base size image (world_of store slots table d)
unfolding loaded
loaded_shown store store' slots slots' table d p base size image e es = λ i. record {
  store = e i;
  slots = λ k. es k i;
  buffers = records table;
  bank = standing d;
}
