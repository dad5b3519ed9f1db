-- Answers while they are found.
use Rattle.std.specs.Prelude.{◌≡◌, ℕ, ◌<◌, ◌≤◌, ◌⊎◌, Bool, List, Some, length, slice_get}
use Rattle.std.specs.declared.cmp.Ordering.TheVariants.{Less}
use Rattle.std.specs.Ordering.{nat_cmp}
use Rattle.std.specs.Cmp.Lexicographic.{slice_cmp}
use Rattle.bpf_names.specs.Names.{Names}
use Rattle.bpf_machine.specs.Schedule.{World}
use Rattle.bpf_machine.specs.Rounds.{HaveEnded}
use Rattle.bpf_machine.specs.Laws.{IsFresh}
use Rattle.bpf_machine.specs.Machine.{MachineState, Shows}
use Rattle.bpf_explore.specs.Outcomes.{Found, EndsBy}
use Rattle.bpf_explore.specs.Laws.{IsAnswered}

-- the first kept machine shows the world
abbrev pub IsFirst : List MachineState → World → Type 0
IsFirst kept w = (m : MachineState) × (slice_get kept 0 ≡ Some m) × Shows m w

-- before its first turn
abbrev pub StartsFresh : List MachineState → Type 0
StartsFresh kept = (w : World) × IsFresh w × IsFirst kept w

-- in the order of their texts' bytes, none twice
abbrev pub AreSorted : List Found → Type 0
AreSorted answers = (i j : ℕ) (found later : Found) → i < j → slice_get answers i ≡ Some found
    → slice_get answers j ≡ Some later → slice_cmp nat_cmp found.text later.text ≡ Less

-- each is an outcome by its own schedule
abbrev pub AllEnd : World → Names → Bool → List Found → Type 0
AllEnd w names maps answers = (i : ℕ) (found : Found) → slice_get answers i ≡ Some found
    → EndsBy w names maps found

-- none is lost
abbrev pub KeepsAll : List Found → List Found → Type 0
KeepsAll old new = (i : ℕ) (found : Found) → slice_get old i ≡ Some found
    → (j : ℕ) × (slice_get new j ≡ Some found)

-- each is this one, or one of those that were there
abbrev pub AreOneMore : List Found → Found → List Found → Type 0
AreOneMore old one new = (i : ℕ) (found : Found) → slice_get new i ≡ Some found
    → (found ≡ one) ⊎ ((j : ℕ) × (slice_get old j ≡ Some found))

-- here a text is to be: those before are less, and those after greater
pub record IsPlaceOf (answers : List Found) (text : List ℕ) (i : ℕ) : Type 0 where
  pub within : i ≤ length answers
  pub before : (k : ℕ) (found : Found) → k < i → slice_get answers k ≡ Some found
      → slice_cmp nat_cmp found.text text ≡ Less
  pub behind : (k : ℕ) (found : Found) → i ≤ k → slice_get answers k ≡ Some found
      → slice_cmp nat_cmp text found.text ≡ Less

-- what is printed of the i-th kept machine, if it has no work, is one of them
abbrev pub IsAnsweredAt : List MachineState → Names → Bool → List Found → ℕ → Type 0
IsAnsweredAt kept names maps answers i = (m : MachineState) → slice_get kept i ≡ Some m
    → HaveEnded m.jobs → IsAnswered names maps answers m

-- what is printed of the kept machines below a number
pub record Gathered (kept : List MachineState) (names : Names) (maps : Bool) (place : ℕ)
    (answers : List Found) : Type 0 where
  pub sorted : AreSorted answers
  pub ends : (w : World) → IsFirst kept w → AllEnd w names maps answers
  pub answered : (i : ℕ) → i < place → IsAnsweredAt kept names maps answers i
