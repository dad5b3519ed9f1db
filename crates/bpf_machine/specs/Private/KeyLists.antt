-- What CPUs list the keys of all maps in.
use Rattle.std.specs.Prelude.{◌≡◌, ℕ, ◌≤◌, Bool, true, false, List, Option, Some, None, length, map, slice_get, if◌then◌else◌}
use Rattle.bpf_shared.specs.declared.shapes.MapShape.{MapShape}
use Rattle.bpf_shared.specs.KeyOrder.{Listed}
use Rattle.bpf_cpu.specs.declared.job.Job.{Job}
use Rattle.bpf_cpu.specs.Task.{Task}
use Rattle.bpf_machine.specs.declared.machine.lane.Listed as job
use Rattle.bpf_machine.specs.declared.machine.listing.KeyLists.{KeyLists}
use Rattle.bpf_machine.specs.Listings.{Listing, Due, Made}

-- what a CPU's show
abbrev pub shown_lists : KeyLists → Listing
shown_lists l = if l.made then Made (map (λ list. list.keys) l.maps.items) else Due

-- where they are asked for
abbrev pub listings : Bool → List KeyLists → Option (List Listing)
listings false all = None
listings true all = Some (map shown_lists all)

-- a list for each map of these shapes
pub record AreListsOf (shapes : List MapShape) (lists : List Listed) : Type 0 where
  pub shapes_are : map (λ list. list.shape) lists ≡ shapes
  pub few : length lists ≤ 16

-- the CPU has one for each map
abbrev pub HasLists : List MapShape → List KeyLists → ℕ → Type 0
HasLists shapes all c =
    (l : KeyLists) × (slice_get all c ≡ Some l) × AreListsOf shapes l.maps.items

-- none is made
abbrev pub AreFirst : List KeyLists → Type 0
AreFirst all = (c : ℕ) (l : KeyLists) → slice_get all c ≡ Some l → l.made ≡ false

-- the CPU of each job has them
abbrev pub HaveLists : List MapShape → List Job → List KeyLists → Type 0
HaveLists shapes jobs all =
    (j : ℕ) (x : Job) → slice_get jobs j ≡ Some x → HasLists shapes all x.cpu

-- the same where lists are asked for
abbrev pub AreAsked : List MapShape → List Job → Bool → List KeyLists → Type 0
AreAsked shapes jobs false all = Unit {0}
AreAsked shapes jobs true all = HaveLists shapes jobs all

-- the same of jobs as a machine lists them
abbrev pub FitLists : List MapShape → List job.Listed → Bool → List KeyLists → Type 0
FitLists shapes jobs false all = Unit {0}
FitLists shapes jobs true all =
    (j : ℕ) (x : job.Listed) → slice_get jobs j ≡ Some x → HasLists shapes all x.cpu

-- the CPU has a job
abbrev pub HasJob : List Task → ℕ → Type 0
HasJob jobs cpu = (j : ℕ) × (task : Task) × (slice_get jobs j ≡ Some task) × (task.cpu ≡ cpu)
