-- Worked examples of one program's orders, from the definitions that the contracts use.
--
-- tried_after    what trying an order comes to after n others were tried
-- owned_after    what the program owns after n orders were tried
-- program        a program of 32 words: its first words, its Q1, and what it has on buffer 3
use Rattle.std.specs.Prelude.{◌≡◌, ℕ, zero, suc, ◌-◌, true, List, [], ◌∷◌, ◌++◌, map, length, replicate, Some, None, Option, slice_index_or}
use Rattle.units.specs.Frames.{cell_of}
use Rattle.units.specs.Units.{reader_of}
use Rattle.word.specs.Qs.{parts}
use Rattle.registers.specs.Registers.{no_regs, put_q, N1}
use Rattle.buffers.specs.declared.buffer.Work.TheVariants.{Idle, Moving}
use Rattle.outlook.specs.Own.{Own, Line, owning}
use Rattle.outlook.specs.declared.bound.Bound.TheVariants.{CellsShort, CellsOver, Address}
use Rattle.program.specs.Effects.{attempted}
use Rattle.program.specs.Kept.{update}
use Rattle.program.specs.Told.{Told}
use Rattle.program.specs.Told.Told.{done, broke, out}

unfoldable pub owned_after : ℕ → Own → Own
owned_after zero o = o
owned_after (suc n) o = owned_after n (attempted o).0

abbrev pub tried_after : ℕ → Own → Told
tried_after n o = (attempted (owned_after n o)).1

-- a buffer with a tape of these frames
abbrev pub tape : List ℕ → Option Line
tape frames = Some (record { device = Some (reader_of (map cell_of frames) 0); work = Idle })

abbrev pub program : List ℕ → ℕ → ℕ → ℕ → Option Line → Own
program words c i m line =
    owning (words ++ replicate (32 - length words) 0) (put_q 1 (parts c i m) no_regs) true (update (λ _. None) 3 line)

-- SET 2, SET 5, +, OUT
abbrev pub sum : Own
sum = program (0x600002600005 ∷ 0x071600000000 ∷ []) 0 0 0 None

-- ERASE
abbrev pub erase : Own
erase = program (0x030000000000 ∷ []) 0 0 0 None

-- seventeen ZEROs
abbrev pub zeros : Own
zeros = program (0x010101010101 ∷ 0x010101010101 ∷ 0x010101010100 ∷ []) 0 0 0 None

-- E Q0 31, E Q0 32 and E Q1 32 with M1 = 65,535, where the first word is the only one that is not zero but for word 31
abbrev pub fetch : ℕ → ℕ → Own
fetch order m = program (order ∷ (replicate 30 0 ++ (77 ∷ []))) 0 0 m None

-- RDE Q1 of words 1 to 2 from buffer 3, where the frames 33 and 189 are
abbrev pub read : Own
read = program (0x390100000000 ∷ 5 ∷ 6 ∷ []) 3 1 2 (tape (33 ∷ 189 ∷ []))

pub record Examples : Type 0 where
  pub two_and_five : tried_after 3 sum ≡ out 7
  pub erase_first : tried_after 0 erase ≡ broke CellsShort
  pub sixteen_zeros : tried_after 15 zeros ≡ done 0
  pub seventeenth : tried_after 16 zeros ≡ broke CellsOver
  pub fetch_31 : tried_after 0 (fetch 0x7000001F0000 0) ≡ done 0
  pub fetched_31 : N1 (owned_after 1 (fetch 0x7000001F0000 0)).regs ≡ 77
  pub fetch_32 : tried_after 0 (fetch 0x700000200000 0) ≡ broke Address
  pub fetch_back : tried_after 0 (fetch 0x700100200000 65535) ≡ done 0
  pub fetched_back : N1 (owned_after 1 (fetch 0x700100200000 65535)).regs ≡ 77
  pub read_done : tried_after 0 read ≡ done 2
  pub read_word : slice_index_or (owned_after 1 read).area 1 0 ≡ 149_327_422_947_328
  pub next_word : slice_index_or (owned_after 1 read).area 2 0 ≡ 6
  pub read_line : (owned_after 1 read).lines 3 ≡ Some (record { device = Some (reader_of (33 ∷ 61 ∷ []) 2); work = Moving 1 2 })
