-- Charts by program, and a number that may have been found.
use Rattle.std.specs.Prelude.{◌≡◌, ℕ, suc, ◌≤◌, true, List, Option, Some, None, drop, map, slice_get}
use Rattle.bpf_shared.specs.Shape.{Shape}
use Rattle.bpf_loader.specs.Loaded.{Loaded}
use Rattle.bpf_cpu.specs.declared.job.Job.{Job}
use Rattle.bpf_cpu.specs.Task.{waiting}
use Rattle.bpf_threads.specs.declared.chart.Drawn.{Drawn}
use Rattle.bpf_threads.specs.declared.spot.Spot.{Spot}
use Rattle.bpf_threads.specs.declared.counting.Counted.{Counted}
use Rattle.bpf_threads.specs.Chart.{IsChart, IsFirstSpot, IsCharted}
use Rattle.bpf_threads.specs.Counting.{AddUp, HasAtMost}
use Rattle.bpf_threads.specs.Outside.{AllReadOutside}

-- the spot of this number is one, if there is one
abbrev pub IsSpotFrom : Loaded → List Spot → ℕ → Type 0
IsSpotFrom program spots i = (p : Spot) → slice_get spots i ≡ Some p → IsCharted program spots p

-- runs begin at the first of them
abbrev pub Begin : List Spot → Type 0
Begin spots = (p : Spot) × (slice_get spots 0 ≡ Some p) × IsFirstSpot p

-- what was drawn of a program is a chart of it, where it says so
abbrev pub IsChartOf : Loaded → Drawn → Type 0
IsChartOf program chart = chart.whole ≡ true → IsChart program chart.spots.items

-- so it is of each program
abbrev pub AreCharts : List Loaded → List Drawn → Type 0
AreCharts programs charts = (k : ℕ) (program : Loaded) (chart : Drawn)
    → slice_get programs k ≡ Some program → slice_get charts k ≡ Some chart
    → IsChartOf program chart

abbrev pub IsWithin : Option ℕ → ℕ → Type 0
IsWithin None limit = ⊥
IsWithin (Some n) limit = n ≤ limit

-- a bound that was found is one of the program of this number
abbrev pub IsBoundAt : Counted → List Loaded → ℕ → Option ℕ → Type 0
IsBoundAt q programs k o = (most : ℕ) (program : Loaded) → slice_get programs k ≡ Some program
    → o ≡ Some most → HasAtMost q program most

-- the program of this number is there, and reads keys and values whole
abbrev pub ReadsWholeAt : Shape → List Loaded → ℕ → Type 0
ReadsWholeAt shape programs k =
    (program : Loaded) × (slice_get programs k ≡ Some program) × AllReadOutside shape program

-- with the job of this number, those after it, which sum to the sum, sum to n
abbrev pub IsAdded : List (Option ℕ) → List Job → ℕ → ℕ → ℕ → Type 0
IsAdded bounds jobs place sum n = AddUp bounds (map waiting (drop (suc place) jobs)) sum
    → AddUp bounds (map waiting (drop place jobs)) n
