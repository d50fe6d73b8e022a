-- The sixteen buffers: whose each one is, what it is at, and which words of its program that locks.
--
-- free                 the record of a buffer that is nobody's and idle
-- records              the record at a number; past the last buffer it is free
-- holds                whether a buffer is allotted to a slot
-- is_busy              whether a buffer is at something
-- locks                whether a buffer's work locks a word: it locks the groups of the words that it moves
-- locked_between       whether a slot's buffers lock one of the words from the first to the last address
-- with_work, with_owner, released    a record with other work, with an owner, and made free if it is a slot's
use Rattle.std.specs.Prelude.{◌≡◌, ℕ, zero, suc, ◌+◌, ◌-◌, ◌/◌, Bool, true, false, cond, ◌&&◌, ◌||◌, List, Some, None, Option, ◌==◌, nat_le, slice_index_or}
use Rattle.buffers.specs.declared.buffer.Work.{Work}
use Rattle.buffers.specs.declared.buffer.Work.TheVariants.{Idle, Seeking, Moving}
use Rattle.buffers.specs.declared.buffer.Buffer.{Buffer}

abbrev pub free : Buffer
free = record { owner = None; work = Idle }

abbrev pub records : List Buffer → ℕ → Buffer
records table n = slice_index_or table n free

abbrev pub owner_is : ℕ → Option ℕ → Bool
owner_is slot (Some s) = s == slot
owner_is slot None = false

abbrev pub holds : ℕ → Buffer → Bool
holds slot b = owner_is slot b.owner

abbrev pub is_busy : Work → Bool
is_busy Idle = false
is_busy Seeking = true
is_busy (Moving first last) = true

abbrev pub is_moving : Work → Bool
is_moving Idle = false
is_moving Seeking = false
is_moving (Moving first last) = true

-- a group is 32 words from a multiple of 32
abbrev pub locks : Work → ℕ → Bool
locks Idle a = false
locks Seeking a = false
locks (Moving first last) a = nat_le (first / 32) (a / 32) && nat_le (a / 32) (last / 32)

-- whether a test holds of a number below n
unfoldable pub any_below : ℕ → (ℕ → Bool) → Bool
any_below zero test = false
any_below (suc n) test = test n || any_below n test

-- whether a slot's buffers lock the word a
abbrev pub locked_by : ℕ → (ℕ → Buffer) → ℕ → Bool
locked_by slot buffers a = any_below 16 (λ k. holds slot (buffers k) && locks (buffers k).work a)

abbrev pub locked_between : ℕ → (ℕ → Buffer) → ℕ → ℕ → Bool
locked_between slot buffers first last = any_below (last + 1 - first) (λ j. locked_by slot buffers (first + j))

-- whether a slot has a busy buffer
abbrev pub busy_of : ℕ → (ℕ → Buffer) → Bool
busy_of slot buffers = any_below 16 (λ k. holds slot (buffers k) && is_busy (buffers k).work)

abbrev pub with_work : Work → Buffer → Buffer
with_work w b = record { owner = b.owner; work = w }

abbrev pub with_owner : ℕ → Buffer → Buffer
with_owner slot b = record { owner = Some slot; work = b.work }

abbrev pub released : ℕ → Buffer → Buffer
released slot b = cond (holds slot b) free b

-- the work of a slot's buffer; nothing where the buffer is not the slot's
abbrev pub work_of : ℕ → Buffer → Option Work
work_of slot b = cond (holds slot b) (Some b.work) None

-- no buffer moves words
abbrev pub Quiet : List Buffer → Type 0
Quiet table = (k : ℕ) → is_moving (records table k).work ≡ false
