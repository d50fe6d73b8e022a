-- What a host can ask of a machine without changing it.
--
-- word_of     the word at an address of a program's area; none past the area or the store
use Rattle.std.specs.Prelude.{ℕ, ◌+◌, ◌%◌, ◌^◌, cond, ◌&&◌, List, length, Some, None, Option, nat_lt, slice_index}
use Rattle.host.specs.World.{Program}

-- an entry is taken modulo 2^48
abbrev pub word_of : List ℕ → ℕ → Option Program → Option ℕ
word_of store a None = None
word_of store a (Some g) = cond (nat_lt a g.size && nat_lt (g.base + a) (length store)) (Some (slice_index store (g.base + a) % 2 ^ 48)) None
