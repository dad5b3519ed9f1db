-- Turns that are made while packets are kept.
use Rattle.std.specs.Prelude.{◌≡◌, ℕ, List, slice_set}
use Rattle.bpf_machine.specs.declared.machine.Standing.{Standing}
use Rattle.bpf_machine.specs.declared.machine.Standing.TheVariants as standing
use Rattle.bpf_machine.specs.declared.machine.Turn.{Turn}
use Rattle.bpf_machine.specs.Machine.{MachineState, Shows}
use Rattle.bpf_machine.specs.Rounds.{below}
use Rattle.bpf_machine.specs.Schedule.{World, TakesTurn}
use Rattle.bpf_packets.specs.Packets.{Keeps, RunsKeeping, RunsRoundsKeeping}

-- what leads from the worlds that the first machine shows, and from these packets, to those of the
-- second
abbrev pub AreKept : (World → List (List ℕ) → List (List ℕ) → World → Type 0) → MachineState
    → List (List ℕ) → MachineState → List (List ℕ) → Type 0
AreKept leads old packets new later =
    (w : World) → Shows old w → (z : World) × leads w packets later z × Shows new z

-- one turn of a CPU
abbrev pub OneTurn : ℕ → Turn → World → List (List ℕ) → List (List ℕ) → World → Type 0
OneTurn c answer w old new z = TakesTurn w c answer z × Keeps w.jobs c old new

-- the turns of a schedule
abbrev pub Turns : List ℕ → World → List (List ℕ) → List (List ℕ) → World → Type 0
Turns schedule w old new z = RunsKeeping w schedule old new z

-- a round
abbrev pub ARound : World → List (List ℕ) → List (List ℕ) → World → Type 0
ARound w old new z = RunsKeeping w (below w.store.shape.cpus) old new z

-- rounds
abbrev pub SomeRounds : World → List (List ℕ) → List (List ℕ) → World → Type 0
SomeRounds w old new z = (n : ℕ) × RunsRoundsKeeping n w old new z

-- the packet of a job in hand is put in its place
abbrev pub Puts : Standing → List (List ℕ) → List (List ℕ) → Type 0
Puts (standing.InHand j state) old new = new ≡ slice_set old j state.now.memory.packet
Puts (standing.Waiting j) old new = new ≡ old
Puts standing.Idle old new = new ≡ old
