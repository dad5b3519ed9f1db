-- Schedules of moves on the x86 machine, and rounds after them. Our own choice: a flush where nothing
-- waits is passed over, and a round is the turn of each CPU, in rising order, each followed by a flush.
use Rattle.std.specs.Prelude.{◌≡◌, ℕ, zero, suc, List, [], ◌∷◌, ◌++◌, ◌⊎◌, map}
use Rattle.bpf_machine.specs.Hands.{IsFree, NoneWaits}
use Rattle.bpf_machine.specs.Rounds.{HaveEnded}
use Rattle.bpf_machine.specs.Schedule.{World}
use Rattle.bpf_x86.specs.Machine.{X86, Move, TurnOf, FlushOf, Moves, drained}
use Rattle.bpf_buffering.specs.Search.{BufferedState, ShowsX86, move_of}

-- it is a flush, and nothing waits
abbrev pub IsForNothing : X86 → Move → Type 0
IsForNothing x (TurnOf c) = ⊥
IsForNothing x (FlushOf c) = x.buffers c ≡ []

-- the move is made; or passed over
abbrev pub Makes : X86 → Move → X86 → Type 0
Makes x move z = Moves x move z ⊎ (IsForNothing x move × (z ≡ x))

-- some moves, in order
abbrev pub MakesAll : X86 → List Move → X86 → Type 0
MakesAll x [] z = z ≡ x
MakesAll x (move ∷ moves) z = (y : X86) × Makes x move y × MakesAll y moves z

-- of each CPU below n its turn and a flush of its buffer
abbrev pub round_below : ℕ → List Move
round_below zero = []
round_below (suc n) = round_below n ++ TurnOf n ∷ FlushOf n ∷ []

-- A ROUND
abbrev pub MakesRound : X86 → X86 → Type 0
MakesRound x z = MakesAll x (round_below x.world.store.shape.cpus) z

-- n rounds, until each job has an outcome
abbrev pub MakesRounds : ℕ → X86 → X86 → Type 0
MakesRounds zero x z = HaveEnded x.world.jobs × (z ≡ x)
MakesRounds (suc n) x z =
    (HaveEnded x.world.jobs → ⊥) × ((y : X86) × MakesRound x y × MakesRounds n y z)

-- the moves of a schedule, and then rounds
abbrev pub RunsWithBuffers : World → List ℕ → X86 → Type 0
RunsWithBuffers w schedule z = (y : X86) × MakesAll (drained w) (map move_of schedule) y
    × ((n : ℕ) × MakesRounds n y z)

-- ---- from each machine that the first shows to one that the second shows
-- by these moves
abbrev pub MakesTo : BufferedState → List Move → BufferedState → Type 0
MakesTo old moves new =
    (x : X86) → ShowsX86 old x → (z : X86) × MakesAll x moves z × ShowsX86 new z

-- by a round
abbrev pub RoundTo : BufferedState → BufferedState → Type 0
RoundTo old new = (x : X86) → ShowsX86 old x → (z : X86) × MakesRound x z × ShowsX86 new z

-- by rounds until each job has an outcome
abbrev pub RoundsTo : BufferedState → BufferedState → Type 0
RoundsTo old new =
    (x : X86) → ShowsX86 old x → (z : X86) × ((n : ℕ) × MakesRounds n x z) × ShowsX86 new z

-- the CPU has no work, and all stays
abbrev pub IdlesAt : BufferedState → ℕ → BufferedState → Type 0
IdlesAt old c new = (x : X86) → ShowsX86 old x
    → IsFree old.machine.jobs c × NoneWaits old.machine.jobs c × ShowsX86 new x
