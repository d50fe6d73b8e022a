-- A drum keeps what is written on it.
use Rattle.std.proofs.Common.{◌≡◌, ℕ, ◌+◌, ◌*◌, ◌%◌, ◌^◌, ◌<◌, ◌≤◌, false, ◌⊎◌, List, [], ◌∷◌, ◌++◌, length, get_or, set, IfSome, Some, Option, sym, refl, ap, ◌∙◌, subst, ap₂, arith}
use Rattle.std.proofs.lemmas.List.{append-nil, get_or-set_same}
use Rattle.std.proofs.lemmas.Bool.Decides.{nat_tests}
use Rattle.device.specs.Meaning.{Meaning, Sound, moved, seek_after}
use Rattle.transfer.specs.declared.moves.Transfer.{Transfer}
use Rattle.transfer.specs.declared.moves.Transfer.TheVariants.{Read, Write, Seek}
use Rattle.transfer.specs.declared.moves.Move.{Move}
use Rattle.transfer.specs.Symbols.{gather, send, packed, unpacked, stored, spread}
use Rattle.transfer.specs.Moves.{Left, span, effect_of, effect, in_turn}
use Rattle.transfer.specs.Keeping.{Passes, Spares, Spared, Keeps, DrumKeeps, seek_of, write_of, read_of, written, read_back, follow, found}
use Rattle.transfer.proofs.Sending.{length_unpacked}
use Rattle.transfer.proofs.Effects.{in_turn_length, in_turn_append}
use Rattle.transfer.proofs.Drums.{Ready, Still, Laid, ready_at, read_ready, still_gather, seek_ready, seek_there, wrote, laid, laid_same, read_laid, small_unpacked, packed_unpacked}

-- a drum that has the same eight cells from c on
record Like (c : ℕ) (m m' : Meaning) : Type 0 where
  ready : Ready m'
  long : length m'.cells ≡ length m.cells
  same : (k : ℕ) → c ≤ k → k < c + 8 → get_or m'.cells k 0 ≡ get_or m.cells k 0

like_same : (c : ℕ) (m : Meaning) → Ready m → Like c m m
like_same c m r = record { ready = r; long = refl; same = λ k lo hi. refl }

-- a cell of the eight is none of those that are written
apart : (c head moved : ℕ) → Passes c head moved → (k : ℕ) → c ≤ k → k < c + 8 → (k < head) ⊎ (head + moved ≤ k)
apart c head moved passes k lo hi = grind (arith, passes k)

-- one move that spares them
module _ (c i n : ℕ) (area : List ℕ) (m : Meaning) (r : Ready m) where
  one_kept : (t : Transfer) → Spares c t (effect_of t i n area (Some m)).moved (Some m) → Still (Like c m) (effect_of t i n area (Some m)).device
  one_kept (Read ends) spares =
      still_gather (Like c m) (λ y q. record { ready = read_ready y q.ready; long = q.long; same = q.same }) ends (8 * span area i n) m (like_same c m r)
  one_kept (Write ends) spares =
      let w = wrote ends (spread (span area i n) i area) m r in
      record {
        then = w.then;
        is = w.is;
        meets = record { ready = w.ready; long = w.long; same = λ k lo hi. w.others k (apart c m.head _ spares k lo hi) };
      }
  one_kept Seek spares = record { then = seek_after m n; is = refl; meets = record { ready = seek_ready m n r; long = refl; same = λ k lo hi. refl } }

-- and any number of them
kept : (c : ℕ) (xs : List (Move × List ℕ)) (m : Meaning) → Ready m → Spared c xs (Some m) → Still (Like c m) (follow xs (Some m))
unfolding follow Spared
kept c [] m r spared = record { then = m; is = refl; meets = like_same c m r }
kept c (x ∷ xs) m r spared =
    let s = one_kept c x.0.i x.0.m x.1 m r x.0.transfer spared.0 in
    let t = kept c xs s.then s.meets.ready (subst (Spared c xs) s.is spared.1) in
    record {
      then = t.then;
      is = ap (follow xs) s.is ∙ t.is;
      meets = record { ready = t.meets.ready; long = t.meets.long ∙ s.meets.long; same = λ k lo hi. t.meets.same k lo hi ∙ s.meets.same k lo hi };
    }

-- one word lies at an address of the area
one_word : (area : List ℕ) (a : ℕ) → a < length area → span area a a ≡ 1
one_word area a h = grind (arith, nat_tests)

spread_one : (area : List ℕ) (a : ℕ) → spread 1 a area ≡ unpacked 8 (get_or area a 0)
unfolding spread
spread_one area a = append-nil (unpacked 8 (get_or area a 0))

stored_one : (area : List ℕ) (b w : ℕ) → stored 1 b (unpacked 8 w) area ≡ set area b (packed 8 (unpacked 8 w))
unfolding stored unpacked
stored_one area b w = refl

-- the device after a word was written from cell c on
module _ (m : Meaning) (ready : Ready m) (c : ℕ) (fits : c + 8 ≤ length m.cells) where
  sought : (effect (seek_of c) [] (Some m)).device ≡ Some (moved m c)
  sought = ap Some (seek_there m c ready (omega arith))

  there : Ready (moved m c)
  there = ready_at m c ready (omega arith)

  written_is : (area : List ℕ) (a : ℕ) → a < length area → written c a area (Some m) ≡ (send false (unpacked 8 (get_or area a 0)) (Some (moved m c))).device
  written_is area a h =
      ap (λ (d : Option Meaning). (effect (write_of a) area d).device) sought
      ∙ ap (λ n. (send false (spread n a area) (Some (moved m c))).device) (one_word area a h)
      ∙ ap (λ (ss : List ℕ). (send false ss (Some (moved m c))).device) (spread_one area a)

  -- and what is read from there
  read_back_is : (w : ℕ) → Laid m.cells c (unpacked 8 w) → (area : List ℕ) (b : ℕ) → b < length area → get_or (read_back c b area (Some m)) b 0 ≡ w % 2 ^ 48
  read_back_is w l area b h =
      let eight : length (unpacked 8 w) ≡ 8 = length_unpacked 8 w in
      let symbols : (gather false 8 (Some (moved m c))).symbols ≡ unpacked 8 w =
      ap (λ n. (gather false n (Some (moved m c))).symbols) (sym eight) ∙ read_laid (unpacked 8 w) (moved m c) there (omega arith) l in
      ap (λ (d : Option Meaning). get_or (effect (read_of b) area d).area b 0) sought
      ∙ ap (λ n. get_or (stored n b (gather false (8 * n) (Some (moved m c))).symbols area) b 0) (one_word area b h)
      ∙ ap (λ (ss : List ℕ). get_or (stored 1 b ss area) b 0) symbols
      ∙ ap (λ (y : List ℕ). get_or y b 0) (stored_one area b w)
      ∙ get_or-set_same area b (packed 8 (unpacked 8 w)) 0 h
      ∙ packed_unpacked 8 w

pub drum_keeps : DrumKeeps
drum_keeps m sound drum c fits area a ha between spared area' b hb =
    let w = get_or area a 0 in
    let ready : Ready m = record { drum = drum; within = sound.head_within } in
    let put = wrote false (unpacked 8 w) (moved m c) (there m ready c fits) in
    let eight = length_unpacked 8 w in
    let is : written c a area (Some m) ≡ Some put.then = written_is m ready c fits area a ha ∙ put.is in
    let on : Laid put.then.cells c (unpacked 8 w) = laid (unpacked 8 w) (moved m c) (there m ready c fits) (small_unpacked 8 w) (omega arith) put.then put.is in
    let k = kept c between put.then put.ready (subst (Spared c between) is spared) in
    let still : Laid k.then.cells c (unpacked 8 w) = laid_same put.then.cells k.then.cells c (unpacked 8 w) (λ j lo hi. k.meets.same j lo (omega arith)) on in
    let long : c + 8 ≤ length k.then.cells = omega (arith, k.meets.long, put.long) in
    ap (λ (d : Option Meaning). get_or (read_back c b area' d) b 0) (ap (follow between) is ∙ k.is)
    ∙ read_back_is k.then k.meets.ready c long w still area' b hb

-- the device after moves with the areas that they find
found_device : (xs : List Move) (area : List ℕ) (d : Option Meaning) → (in_turn xs area d).device ≡ follow (found xs area d) d
unfolding in_turn follow found
found_device [] area d = refl
found_device (x ∷ xs) area d = found_device xs (effect x area d).area (effect x area d).device

-- the area after moves that end with a seek and a read
read_last : (between : List Move) (c a b : ℕ) (area : List ℕ) (d : Option Meaning) →
    (in_turn (seek_of c ∷ write_of a ∷ (between ++ (seek_of c ∷ read_of b ∷ []))) area d).area
    ≡ read_back c b (in_turn between area (written c a area d)).area (in_turn between area (written c a area d)).device
unfolding in_turn
read_last between c a b area d = ap (λ (y : Left). y.area) (in_turn_append between (seek_of c ∷ read_of b ∷ []) area (written c a area d))

pub keeps : (moves : List Move) (d : Option Meaning) (area : List ℕ) → IfSome d Sound → Keeps moves d area (in_turn moves area d).area
keeps moves d area sound m em drum c fits a b ha hb between es spared =
    let d₁ = written c a area (Some m) in
    let area₁ = (in_turn between area d₁).area in
    let s : Sound m = subst (λ (x : Option Meaning). IfSome x Sound) em sound in
    ap₂ (λ (xs : List Move) (x : Option Meaning). get_or (in_turn xs area x).area b 0) es em
    ∙ ap (λ (y : List ℕ). get_or y b 0) (read_last between c a b area (Some m))
    ∙ ap (λ (x : Option Meaning). get_or (read_back c b area₁ x) b 0) (found_device between area d₁)
    ∙ drum_keeps m s drum c fits area a ha (found between area d₁) spared area₁ b (omega (arith, in_turn_length between area d₁))
