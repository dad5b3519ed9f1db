-- What is done to a terminal, call by call.
use Rattle.std.specs.Prelude.{◌≡◌, ℕ, Bool, true, false, List, [], ◌∷◌, ◌++◌}

pub data Call : Type 0 where
  -- these bytes were read; none where there are no more
  Read : List ℕ → Call
  -- these bytes were written
  Wrote : List ℕ → Call
  -- what was written was brought to its end
  Flushed : Call

-- ---- of calls, of which the latest is first

abbrev pub bytes_read : List Call → List ℕ
bytes_read [] = []
bytes_read (Read bytes ∷ calls) = bytes_read calls ++ bytes
bytes_read (Wrote bytes ∷ calls) = bytes_read calls
bytes_read (Flushed ∷ calls) = bytes_read calls

abbrev pub bytes_written : List Call → List ℕ
bytes_written [] = []
bytes_written (Read bytes ∷ calls) = bytes_written calls
bytes_written (Wrote bytes ∷ calls) = bytes_written calls ++ bytes
bytes_written (Flushed ∷ calls) = bytes_written calls

-- nothing was written after the last flush
abbrev pub is_flushed : List Call → Bool
is_flushed [] = true
is_flushed (Read bytes ∷ calls) = is_flushed calls
is_flushed (Wrote bytes ∷ calls) = false
is_flushed (Flushed ∷ calls) = true

abbrev pub is_none : List ℕ → Bool
is_none [] = true
is_none (b ∷ bytes) = false

-- the last read found that there are no more bytes
abbrev pub is_ended : List Call → Bool
is_ended [] = false
is_ended (Read bytes ∷ calls) = is_none bytes
is_ended (Wrote bytes ∷ calls) = is_ended calls
is_ended (Flushed ∷ calls) = is_ended calls

-- for each read, the calls before it
abbrev pub before_reads : List Call → List (List Call)
before_reads [] = []
before_reads (Read bytes ∷ calls) = calls ∷ before_reads calls
before_reads (Wrote bytes ∷ calls) = before_reads calls
before_reads (Flushed ∷ calls) = before_reads calls

-- ---- calls that only write

abbrev pub AreWrites : List Call → Type 0
AreWrites [] = Unit {0}
AreWrites (Read bytes ∷ calls) = ⊥
AreWrites (Wrote bytes ∷ calls) = AreWrites calls
AreWrites (Flushed ∷ calls) = AreWrites calls

-- they wrote this text
abbrev pub IsPut : List ℕ → List Call → Type 0
IsPut text calls = AreWrites calls × (bytes_written calls ≡ text)

-- and flushed it
abbrev pub IsSaid : List ℕ → List Call → Type 0
IsSaid text calls = IsPut text calls × (is_flushed calls ≡ true)
