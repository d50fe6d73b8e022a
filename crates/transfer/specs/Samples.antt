-- Moves of a few words, worked out.
use Rattle.std.specs.Prelude.{◌≡◌, ℕ, true, false, List, [], ◌∷◌, replicate, Some, None, Ok, Err}
use Rattle.device.specs.Meaning.{Meaning}
use Rattle.device.specs.declared.refusal.NotWriting.TheVariants.{WrongWay}
use Rattle.transfer.specs.declared.moves.Transfer.{Transfer}
use Rattle.transfer.specs.declared.moves.Transfer.TheVariants.{Read, Write}
use Rattle.transfer.specs.declared.moves.Move.{Move}
use Rattle.transfer.specs.Moves.{effect, in_turn}
use Rattle.transfer.specs.Keeping.{seek_of, write_of, read_of}

-- a tape with its head at h, a punch whose head is behind its cells, and a drum of two words
abbrev pub tape : List ℕ → ℕ → Meaning
tape cells h = record { cells = cells; head = h; capacity = 4096; reads = true; seeks = false; writing = Err WrongWay }

abbrev pub punch : List ℕ → ℕ → Meaning
punch cells h = record { cells = cells; head = h; capacity = 4096; reads = false; seeks = false; writing = Ok tt }

abbrev pub small_drum : Meaning
small_drum = record { cells = replicate 16 0; head = 0; capacity = 16; reads = true; seeks = true; writing = Ok tt }

-- a transfer of the words 0 and 1
abbrev pub two_words : Transfer → Move
two_words t = record { transfer = t; i = 0; m = 1 }

pub record Samples : Type 0 where
  -- read up to End Message: the word is filled up with zeros, and the next one stays
  pub read_to_end : effect (two_words (Read true)) (7 ∷ 7 ∷ []) (Some (tape (33 ∷ 61 ∷ []) 0))
      ≡ record { area = 149_327_422_947_328 ∷ 7 ∷ []; device = Some (tape (33 ∷ 61 ∷ []) 2); moved = 2; refusal = None }
  -- read on, it ends with the tape: so does the word that was begun, and the next one stays
  pub tape_ends : effect (two_words (Read false)) (7 ∷ 7 ∷ []) (Some (tape (33 ∷ 61 ∷ []) 0))
      ≡ record { area = 149_327_422_947_328 ∷ 7 ∷ []; device = Some (tape (33 ∷ 61 ∷ []) 2); moved = 2; refusal = Some "no more" }
  -- End Message as the eighth symbol: no further cell is read
  pub end_eighth : effect (two_words (Read true)) (7 ∷ 7 ∷ []) (Some (tape (1 ∷ 2 ∷ 3 ∷ 4 ∷ 5 ∷ 6 ∷ 7 ∷ 61 ∷ 9 ∷ []) 0))
      ≡ record { area = 4_538_775_134_717 ∷ 7 ∷ []; device = Some (tape (1 ∷ 2 ∷ 3 ∷ 4 ∷ 5 ∷ 6 ∷ 7 ∷ 61 ∷ 9 ∷ []) 8); moved = 8; refusal = None }
  -- a damaged frame is passed and not moved
  pub damaged : effect (two_words (Read false)) (7 ∷ 7 ∷ []) (Some (tape (33 ∷ 64 ∷ 9 ∷ []) 0))
      ≡ record { area = 145_135_534_866_432 ∷ 7 ∷ []; device = Some (tape (33 ∷ 64 ∷ 9 ∷ []) 2); moved = 1; refusal = Some "damaged" }
  -- a refusal before the first symbol leaves the word
  pub none_left : effect (two_words (Read false)) (7 ∷ 7 ∷ []) (Some (tape (33 ∷ []) 1))
      ≡ record { area = 7 ∷ 7 ∷ []; device = Some (tape (33 ∷ []) 1); moved = 0; refusal = Some "no more" }
  -- written up to End Message, which is written too
  pub write_to_end : effect (two_words (Write true)) (149_327_422_947_328 ∷ 7 ∷ []) (Some (punch [] 0))
      ≡ record { area = 149_327_422_947_328 ∷ 7 ∷ []; device = Some (punch (33 ∷ 61 ∷ []) 2); moved = 2; refusal = None }
  -- an entry of the area counts modulo 2 ^ 48
  pub low_bits : effect (write_of 0) (281_474_976_710_661 ∷ []) (Some (punch [] 0))
      ≡ record { area = 281_474_976_710_661 ∷ []; device = Some (punch (0 ∷ 0 ∷ 0 ∷ 0 ∷ 0 ∷ 0 ∷ 0 ∷ 5 ∷ []) 8); moved = 8; refusal = None }
  -- a word on a drum, another beside it, and the first again
  pub kept_word : (in_turn (seek_of 8 ∷ write_of 0 ∷ seek_of 0 ∷ write_of 1 ∷ seek_of 8 ∷ read_of 2 ∷ []) (149_327_422_947_328 ∷ 7 ∷ 0 ∷ []) (Some small_drum)).area
      ≡ 149_327_422_947_328 ∷ 7 ∷ 149_327_422_947_328 ∷ []
  -- on a buffer where nothing stands
  pub nothing_there : effect (two_words (Read false)) (7 ∷ 7 ∷ []) None ≡ record { area = 7 ∷ 7 ∷ []; device = None; moved = 0; refusal = Some "nothing there" }
