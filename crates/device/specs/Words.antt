-- The words of each refusal of a device and the number of each refusal of input, and an answer of the code as its meaning.
--
-- words, said              a refusal of a device or a bank, by its words
-- number_of, numbered      a refusal of input, by its number
-- buffer_answer            what choosing a buffer by its number answers
-- table_answer             what taking a code table answers
use Rattle.std.specs.Prelude.{ℕ, cond, List, Ok, Err, Result, nat_le}
use Prim.Native.String.{String}
use Rattle.device.specs.Layers.{fit}
use Rattle.device.specs.declared.refusal.Refusal.{Refusal}
use Rattle.device.specs.declared.refusal.Refusal.TheVariants.{WrongWay, NoMore, Damaged, NoRing, Full, NoSuchCell, NothingThere}
use Rattle.device.specs.declared.refusal.InputRefusal.{InputRefusal}
use Rattle.device.specs.declared.refusal.InputRefusal.TheVariants.{BufferOver15, FramesOver4096, TableUnfit}

abbrev pub words : Refusal → String
words WrongWay = "wrong way"
words NoMore = "no more"
words Damaged = "damaged"
words NoRing = "no ring"
words Full = "full"
words NoSuchCell = "no such cell"
words NothingThere = "nothing there"

abbrev pub said : {A : Type 0} → Result A Refusal → Result A String
said (Ok x) = Ok x
said (Err e) = Err (words e)

abbrev pub number_of : InputRefusal → ℕ
number_of BufferOver15 = 2
number_of FramesOver4096 = 6
number_of TableUnfit = 7

-- what passed is shown by f
abbrev pub numbered : {A B : Type 0} → (A → B) → Result A InputRefusal → Result B ℕ
numbered f (Ok x) = Ok (f x)
numbered f (Err e) = Err (number_of e)

abbrev pub buffer_answer : ℕ → Result ℕ ℕ
buffer_answer n = cond (nat_le n 15) (Ok n) (Err 2)

abbrev pub table_answer : List ℕ → Result (List ℕ) ℕ
table_answer table = cond (fit table) (Ok table) (Err 7)
