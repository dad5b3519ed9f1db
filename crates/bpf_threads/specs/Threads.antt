-- Where a run by worker threads may have more outcomes than turns have.
use Rattle.std.specs.Prelude.{◌≡◌, ◌⊎◌, ℕ, ◌+◌, ◌≤◌, false, All, List, Some, slice_get}
use Rattle.bpf_shared.specs.declared.shapes.MapShape.{MapShape}
use Rattle.bpf_shared.specs.Shape.{Shape, IsMap, elements}
use Rattle.bpf_pairs.specs.Pairs.{Pair, pairs_in}
use Rattle.bpf_loader.specs.Loaded.{Loaded}
use Rattle.bpf_cpu.specs.Task.{Task}
use Rattle.bpf_threads.specs.declared.counting.Kind.TheVariants.{Updates, Removals}
use Rattle.bpf_threads.specs.declared.threads.Threads.{Threads}
use Rattle.bpf_threads.specs.Counting.{HaveAtMost}
use Rattle.bpf_threads.specs.Outside.{AllReadOutside}

-- one CPU has all jobs
abbrev pub AreOnOneCpu : List Task → Type 0
AreOnOneCpu jobs = (c : ℕ) × All (λ job. job.cpu ≡ c) jobs

-- the jobs make no more updates of the map than it has elements, beside those that its first pairs take
abbrev pub HasRoomForUpdates : List Loaded → List Task → ℕ → MapShape → ℕ → Type 0
HasRoomForUpdates programs jobs m h pairs =
    (n : ℕ) × HaveAtMost (record { map = m; kind = Updates }) programs jobs n
    × (n + pairs ≤ elements h)

-- its spare elements are as many as the values that the jobs can take out of it, and one more for
-- each CPU
abbrev pub HasRoomForRemovals : List Loaded → List Task → ℕ → MapShape → ℕ → Type 0
HasRoomForRemovals programs jobs m h cpus =
    (n : ℕ) × HaveAtMost (record { map = m; kind = Removals }) programs jobs n
    × (n + cpus ≤ h.spare)

abbrev pub IsRoomy : List Loaded → List Task → ℕ → ℕ → MapShape → ℕ → Type 0
IsRoomy programs jobs cpus m h pairs =
    HasRoomForUpdates programs jobs m h pairs ⊎ HasRoomForRemovals programs jobs m h cpus

-- one of the two is so of each map, whose pairs it has at first
abbrev pub AreRoomy : Shape → List Pair → List Loaded → List Task → Type 0
AreRoomy shape pairs programs jobs = (m : ℕ) (h : MapShape) → IsMap shape.maps m h
    → IsRoomy programs jobs shape.cpus m h (pairs_in m pairs)

-- no call of the job reads its key or its value from a value of a map or an array, nor stores more than
-- once into an array
abbrev pub IsReadWhole : Shape → List Loaded → Task → Type 0
IsReadWhole shape programs job =
    (program : Loaded) × (slice_get programs job.program ≡ Some program)
    × AllReadOutside shape program

-- where no line says that threads may reach more: one CPU has all jobs, or each map is roomy; and one
-- CPU has them, or keys and values are read whole, and stored whole in arrays
pub record IsTrueOf (shape : Shape) (pairs : List Pair) (programs : List Loaded) (jobs : List Task)
    (t : Threads) : Type 0
  where
    pub elements : t.elements ≡ false → AreOnOneCpu jobs ⊎ AreRoomy shape pairs programs jobs
    pub parts : t.parts ≡ false → AreOnOneCpu jobs ⊎ All (IsReadWhole shape programs) jobs
