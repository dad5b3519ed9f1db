-- Worlds that are the same but for places of CPUs and of jobs.
use Rattle.std.specs.Prelude.{◌≡◌, ℕ, zero, suc, ◌<◌, ◌⊎◌, List, Option, Some, None, slice_get}
use Rattle.bpf_shared.specs.Shape.{Shape}
use Rattle.bpf_loader.specs.Loaded.{Loaded}
use Rattle.bpf_cpu.specs.Task.{Stage, Task, Waiting, InHand}
use Rattle.bpf_machine.specs.declared.machine.Turn.{Turn}
use Rattle.bpf_machine.specs.declared.machine.Turn.TheVariants as turn
use Rattle.bpf_machine.specs.Schedule.{World}
use Rattle.bpf_equal.specs.Peers.{AreOneGroup, Peer}
use Rattle.bpf_equal.specs.Permutations.{Exchanges, Permutation, StaysBelow}
use Rattle.bpf_equal.specs.States.{AreOneInput, AreOneState, AsksNoMarks, HasNoOwnValues}
use Rattle.bpf_equal.specs.Stores.{store_permuted}

-- a program of this number can't tell its CPU and its job from others
abbrev pub IsBlind : Shape → List Loaded → ℕ → Type 0
IsBlind h programs n = HasNoOwnValues h
    × ((program : Loaded) → slice_get programs n ≡ Some program → AsksNoMarks program)

-- the stages are the same but for marks
abbrev pub AreOneStage : Stage → Stage → Type 0
AreOneStage (InHand old left) (InHand new rest) = AreOneState old new × (rest ≡ left)
AreOneStage (Waiting old) (Waiting new) = AreOneInput old new
AreOneStage old new = new ≡ old

-- the CPU of a job keeps its number, and the job is as far; or its program is blind, and it is as
-- far but for marks
abbrev pub IsAsFar : Shape → List Loaded → Task → Task → Type 0
IsAsFar h programs old new =
    ((new.cpu ≡ old.cpu) × (new.stage ≡ old.stage))
    ⊎ (IsBlind h programs old.program × AreOneStage old.stage new.stage)

-- a job, and what it is where the CPUs change places so
pub record IsPartner (h : Shape) (programs : List Loaded) (cpus : Permutation) (old new : Task)
    : Type 0 where
  pub cpu : new.cpu ≡ cpus.to old.cpu
  pub program : new.program ≡ old.program
  pub budget : new.budget ≡ old.budget
  pub stage : IsAsFar h programs old new

-- both are there, or neither
abbrev pub ArePartners : Shape → List Loaded → Permutation → Option Task → Option Task → Type 0
ArePartners h programs cpus None None = Unit {0}
ArePartners h programs cpus None (Some new) = ⊥
ArePartners h programs cpus (Some old) None = ⊥
ArePartners h programs cpus (Some old) (Some new) = IsPartner h programs cpus old new

-- of two jobs of one CPU, the one before the other is so in its new place
abbrev pub KeepsOrder : List Task → Permutation → Type 0
KeepsOrder tasks jobs =
    (j k : ℕ) (one other : Task) → slice_get tasks j ≡ Some one → slice_get tasks k ≡ Some other
    → one.cpu ≡ other.cpu → j < k → jobs.to j < jobs.to k

-- v is w where the CPUs change places so, and the jobs so
pub record IsPermuted (cpus jobs : Permutation) (w v : World) : Type 0 where
  pub store : v.store ≡ store_permuted cpus w.store
  pub programs : v.programs ≡ w.programs
  pub each : (j : ℕ) → ArePartners w.store.shape w.programs cpus (slice_get w.jobs j)
      (slice_get v.jobs (jobs.to j))
  pub order : KeepsOrder w.jobs jobs
  pub lists : v.lists ≡ (λ c. w.lists (cpus.from c))
  pub stays : StaysBelow w.store.shape.cpus cpus

-- ---- the moves that a search makes
-- permutations of CPUs and of jobs that go together: two equal jobs change places, and so do their CPUs
abbrev pub IsMove : List Peer → Permutation → Permutation → Type 0
IsMove peers cpus jobs = (j : ℕ) × (k : ℕ) × (one : Peer) × (other : Peer)
    × AreOneGroup peers j k one other
    × Exchanges cpus one.cpu other.cpu × Exchanges jobs j k

-- each of these moves leaves the world as it is
abbrev pub AreSymmetries : List Peer → World → Type 0
AreSymmetries peers w =
    (cpus jobs : Permutation) → IsMove peers cpus jobs → IsPermuted cpus jobs w w

-- one of these moves leads from the one world to the other, or back
abbrev pub AreNeighbours : List Peer → World → World → Type 0
AreNeighbours peers w v = (cpus : Permutation) × (jobs : Permutation) × IsMove peers cpus jobs
    × (IsPermuted cpus jobs w v ⊎ IsPermuted cpus jobs v w)

-- this many do, one after the other
abbrev pub ArePermutedIn : List Peer → ℕ → World → World → Type 0
ArePermutedIn peers zero w v = v ≡ w
ArePermutedIn peers (suc n) w v =
    (mid : World) × AreNeighbours peers w mid × ArePermutedIn peers n mid v

-- some
abbrev pub ArePermuted : List Peer → World → World → Type 0
ArePermuted peers w v = (n : ℕ) × ArePermutedIn peers n w v

-- the answer of a turn, with the job's number there
abbrev pub turn_permuted : Permutation → Turn → Turn
turn_permuted jobs turn.Ran = turn.Ran
turn_permuted jobs (turn.Ended j end) = turn.Ended (jobs.to j) end
turn_permuted jobs turn.Idle = turn.Idle
