-- What follows from the definitions of what is the same but for places of CPUs and of jobs.
use Rattle.std.specs.Prelude.{◌≡◌, ℕ, List, map}
use Rattle.bpf_shared.specs.declared.events.Event.{Event}
use Rattle.bpf_shared.specs.Choice.{PlainlyAllowed}
use Rattle.bpf_shared.specs.Shape.{Shape}
use Rattle.bpf_shared.specs.Sound.{IsSoundStore}
use Rattle.bpf_shared.specs.Store.{Plain}
use Rattle.bpf_loader.specs.Loaded.{Loaded}
use Rattle.bpf_cpu.specs.declared.cpu.Cpu.{Cpu}
use Rattle.bpf_cpu.specs.declared.outcome.Progress.{Progress}
use Rattle.bpf_cpu.specs.Step.{Step}
use Rattle.bpf_cpu.specs.Task.{outcome_at}
use Rattle.bpf_machine.specs.declared.machine.Turn.{Turn}
use Rattle.bpf_machine.specs.Rounds.{HaveEnded}
use Rattle.bpf_machine.specs.Schedule.{RunsSchedule, TakesTurn, World}
use Rattle.bpf_equal.specs.Peers.{Peer}
use Rattle.bpf_equal.specs.Permutations.{Permutation, StaysBelow}
use Rattle.bpf_equal.specs.States.{AsksNoMarks, HasNoOwnValues, Marks, marked}
use Rattle.bpf_equal.specs.Stores.{store_permuted}
use Rattle.bpf_equal.specs.Worlds.{ArePermuted, AreSymmetries, IsPermuted, turn_permuted}

-- a program that asks for no marks makes the same steps with others, where no array has values by CPU
abbrev pub StepsAreMarked : Type 0
StepsAreMarked =
    (shape : Shape) (program : Loaded) (marks : Marks) (old new : Cpu) (events : List Event)
    (progress : Progress) → AsksNoMarks program → HasNoOwnValues shape
    → Step shape program old events progress new
    → Step shape program (marked marks old) events progress (marked marks new)

-- what a store allows a CPU, the permuted store allows the CPU that it goes to
abbrev pub EventsArePermuted : Type 0
EventsArePermuted =
    (cpus : Permutation) (s t : Plain) (c : ℕ) (e : Event) → StaysBelow s.shape.cpus cpus
    → PlainlyAllowed s c e t
    → PlainlyAllowed (store_permuted cpus s) (cpus.to c) e (store_permuted cpus t)

-- a turn leads to what the turn of the CPU that it goes to leads to
abbrev pub TurnsArePermuted : Type 0
TurnsArePermuted =
    (cpus jobs : Permutation) (w v z : World) (c : ℕ) (answer : Turn) → IsPermuted cpus jobs w v
    → TakesTurn w c answer z
    → (y : World) × TakesTurn v (cpus.to c) (turn_permuted jobs answer) y
    × IsPermuted cpus jobs z y

-- so does a schedule
abbrev pub SchedulesArePermuted : Type 0
SchedulesArePermuted =
    (cpus jobs : Permutation) (w v z : World) (schedule : List ℕ) → IsPermuted cpus jobs w v
    → RunsSchedule w schedule z
    → (y : World) × RunsSchedule v (map cpus.to schedule) y × IsPermuted cpus jobs z y

-- whatever the peers, to be permuted is reflexive, symmetric and transitive
abbrev pub PermutedIsAnEquivalence : Type 0
PermutedIsAnEquivalence =
    (peers : List Peer) (a b c : World) → ArePermuted peers a a
    × (ArePermuted peers a b → ArePermuted peers b a)
    × (ArePermuted peers a b → ArePermuted peers b c → ArePermuted peers a c)

-- a permuted store is sound
abbrev pub SoundStoresStaySound : Type 0
SoundStoresStaySound =
    (cpus : Permutation) (s : Plain) → IsSoundStore s → IsSoundStore (store_permuted cpus s)

-- a job ends as its partner does
abbrev pub PartnersEndAlike : Type 0
PartnersEndAlike =
    (cpus jobs : Permutation) (w v : World) (j : ℕ) → IsPermuted cpus jobs w v
    → outcome_at v.jobs (jobs.to j) ≡ outcome_at w.jobs j

-- where each job has ended, one world alone is this one but for the permutations
abbrev pub PermutedEndsAreOne : Type 0
PermutedEndsAreOne =
    (cpus jobs : Permutation) (w u v : World) → HaveEnded w.jobs → IsPermuted cpus jobs w u
    → IsPermuted cpus jobs w v → u ≡ v

-- so moves that leave the first world as it is lead from each end of its schedules to another
abbrev pub MovesReachEnds : Type 0
MovesReachEnds =
    (peers : List Peer) (first z y : World) (schedule : List ℕ) → AreSymmetries peers first
    → RunsSchedule first schedule z → HaveEnded z.jobs → ArePermuted peers z y
    → (other : List ℕ) × RunsSchedule first other y
