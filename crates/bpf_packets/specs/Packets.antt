-- What jobs leave in their packets, in the turns of a schedule. Our own choice.
use Rattle.std.specs.Prelude.{◌≡◌, ◌⊎◌, ◌++◌, ℕ, zero, suc, ◌&&◌, ◌==◌, Bool, true, false, not, if◌then◌else◌, List, [], ◌∷◌, length}
use Rattle.std.specs.Prelude.{Option, Some, codes, map, slice_index_or, slice_set}
use Rattle.std.specs.Fmt.{decimal}
use Rattle.hex.specs.Hex.{encode_lower}
use Rattle.bpf_cpu.specs.declared.cpu.Cpu.{Cpu}
use Rattle.bpf_cpu.specs.declared.outcome.Outcome.{Outcome}
use Rattle.bpf_cpu.specs.declared.outcome.Outcome.TheVariants as outcome
use Rattle.bpf_cpu.specs.Task.{Stage, Task, Waiting, InHand, Ended, outcome_at}
use Rattle.bpf_machine.specs.declared.machine.Turn.{Turn}
use Rattle.bpf_machine.specs.Hands.{IsAt, IsFree}
use Rattle.bpf_machine.specs.Rounds.{below, HaveEnded}
use Rattle.bpf_machine.specs.Schedule.{World, TakesTurn}

-- the packet that a job is given, if it waits
abbrev pub given_packet : Stage → List ℕ
given_packet (Waiting input) = input.packet
given_packet (InHand state left) = []
given_packet (Ended outcome) = []

-- the packets that jobs are given, by job
abbrev pub given_packets : List Task → List (List ℕ)
given_packets jobs = map (λ task. given_packet task.stage) jobs

-- before a turn of a CPU the packet of the job that it has in hand is that of its state; those of
-- other jobs stay what they are, and that of a job that waits is what it is given
abbrev pub Keeps : List Task → ℕ → List (List ℕ) → List (List ℕ) → Type 0
Keeps jobs c old new =
    ((j : ℕ) × (task : Task) × (state : Cpu) × (left : ℕ) × IsAt jobs c j task (InHand state left)
    × (new ≡ slice_set old j state.memory.packet))
    ⊎ (IsFree jobs c × (new ≡ old))

-- the run of a schedule: each turn, and the packets as they are before it
abbrev pub RunsKeeping : World → List ℕ → List (List ℕ) → List (List ℕ) → World → Type 0
RunsKeeping w [] old new z = (z ≡ w) × (new ≡ old)
RunsKeeping w (c ∷ cs) old new z =
    (answer : Turn) × (m : World) × (mid : List (List ℕ))
    × TakesTurn w c answer m × Keeps w.jobs c old mid × RunsKeeping m cs mid new z

-- this many rounds
abbrev pub RunsRoundsKeeping : ℕ → World → List (List ℕ) → List (List ℕ) → World → Type 0
RunsRoundsKeeping zero w old new z = (z ≡ w) × (new ≡ old)
RunsRoundsKeeping (suc n) w old new z =
    (m : World) × (mid : List (List ℕ)) × RunsRoundsKeeping n w old mid m
    × RunsKeeping m (below m.store.shape.cpus) mid new z

-- THE TURNS OF A SCHEDULE, and after them rounds until no CPU has work: of each job that has ended
-- the packet is that before its last turn. An `exit` that ends a job changes no memory.
abbrev pub RunsByKeeping : World → List ℕ → List (List ℕ) → World → Type 0
RunsByKeeping w schedule packets z =
    (y : World) × (mid : List (List ℕ)) × (n : ℕ)
    × RunsKeeping w schedule (given_packets w.jobs) mid y
    × RunsRoundsKeeping n y mid packets z × HaveEnded z.jobs

-- ---- lines
-- a packet in lower case hex
abbrev pub packet_line : ℕ → List ℕ → List ℕ
packet_line j packet = codes "packet " ++ decimal j ++ codes " " ++ encode_lower packet ++ codes "\n"

-- the job ended by `exit`
abbrev pub has_exited : Option Outcome → Bool
has_exited (Some (outcome.Exit r0)) = true
has_exited _ = false

-- the line of a job that ended by `exit` and has a packet, which is some bytes
abbrev pub line_of : ℕ → Option Outcome → List ℕ → List ℕ
line_of j end packet =
    if has_exited end && not (length packet == 0) then packet_line j packet else []

-- of the first n jobs
abbrev pub packet_lines : ℕ → List Task → List (List ℕ) → List ℕ
packet_lines zero jobs packets = []
packet_lines (suc n) jobs packets =
    packet_lines n jobs packets ++ line_of n (outcome_at jobs n) (slice_index_or packets n [])
