-- The numbers that an answer is.
use Rattle.std.specs.Prelude.{List, [], ◌∷◌, map, ℤ, pos, Some, None, if◌then◌else◌}
use Rattle.word_values.specs.declared.answer.Answer.{Answer}
use Rattle.word_values.specs.declared.answer.Answer.TheVariants.{Word, Turned, Part, Value, Checked, Q, Symbols}

-- a word's bits, a part's number, a value with its sign, the overflow as 0 or 1; no number where a cyclic shift has no answer
abbrev pub numbers_of : Answer → List ℤ
numbers_of (Word word) = pos word.bits ∷ []
numbers_of (Turned None) = []
numbers_of (Turned (Some word)) = pos word.bits ∷ []
numbers_of (Part part) = pos part ∷ []
numbers_of (Value value) = value ∷ []
numbers_of (Checked found) = pos found.word.bits ∷ (if found.overflow then pos 1 else pos 0) ∷ []
numbers_of (Q q) = pos q.c ∷ pos q.i ∷ pos q.m ∷ []
numbers_of (Symbols symbols) = map pos symbols
