-- Turns that are made ahead of a search, on machines of their own.
use Rattle.std.specs.Prelude.{◌≡◌, ℕ, ◌+◌, ◌≤◌, Bool, true, false, All, List, ◌∷◌, Option, Some, length, replicate, slice_get}
use Rattle.bpf_base.specs.Bytes.{part}
use Rattle.bpf_machine.specs.Schedule.{World, RunsSchedule}
use Rattle.bpf_machine.specs.Machine.{MachineState, Shows}
use Rattle.bpf_machine.specs.Cover.{TurnsTo, TurnsAhead}
use Rattle.bpf_machine.specs.Patient.{IsRefilled}
use Rattle.bpf_explore.specs.declared.scouts.Note.{Note}
use Rattle.bpf_explore.specs.declared.scouts.Scout.{Scout}
use Rattle.bpf_explore.specs.Album.{Stock, FitsStock, IsNumbered}

-- a CPU's turn, and then n turns of its own that no store sees
pub record LeadsAhead (old : MachineState) (c n : ℕ) (new : MachineState) : Type 0 where
  pub turns : TurnsTo old c new
  pub ahead : TurnsAhead old c n new
  pub runs : (w : World) → Shows old w
      → (z : World) × RunsSchedule w (c ∷ replicate n c) z × Shows new z

-- in a patient search the CPU's job in hand gets its whole budget back
abbrev pub IsRefilledIn : Bool → MachineState → ℕ → MachineState → Type 0
IsRefilledIn false old c new = new ≡ old
IsRefilledIn true old c new = IsRefilled old c new

-- so the CPU's turn from the kept machine of this place leads to the machine
pub record HasTurned (patient : Bool) (kept : List MachineState) (place c n : ℕ)
    (new : MachineState) : Type 0 where
  pub old : MachineState
  pub mid : MachineState
  pub at : slice_get kept place ≡ Some old
  pub leads : LeadsAhead old c n mid
  pub refilled : IsRefilledIn patient mid c new

-- it leads to a machine whose store and jobs are there, under these numbers
abbrev pub IsTurnAhead : Bool → List MachineState → Stock → ℕ → ℕ → ℕ → List ℕ → Type 0
IsTurnAhead patient kept stock place c n numbers =
    (new : MachineState) × HasTurned patient kept place c n new × IsNumbered stock new numbers

-- ---- notes
-- what is noted of a turn is right
pub record IsNote (patient : Bool) (kept : List MachineState) (stock : Stock) (tuples : List ℕ)
    (note : Note) : Type 0 where
  pub inside : note.first + stock.width ≤ length tuples
  pub turn : IsTurnAhead patient kept stock note.place note.cpu note.ahead
      (part tuples note.first stock.width)

abbrev pub AreNotes : Bool → List MachineState → Stock → List ℕ → List (Option Note) → Type 0
AreNotes patient kept stock tuples notes = (i : ℕ) (note : Note)
    → slice_get notes i ≡ Some (Some note) → IsNote patient kept stock tuples note

-- the scout's machine is of the kind that is kept, and its notes are right
pub record IsScout (kept : List MachineState) (stock : Stock) (scout : Scout) : Type 0 where
  pub fits : FitsStock stock scout.machine
  pub width : scout.width ≡ stock.width
  pub notes : AreNotes scout.patient kept stock scout.tuples.items scout.notes.items

-- it is one of the same kind of search
abbrev pub StaysScout : List MachineState → Stock → Scout → Scout → Type 0
StaysScout kept stock old new = IsScout kept stock new × (new.patient ≡ old.patient)

-- scouts of a patient search, or of one that isn't
abbrev pub AreScouts : Bool → List MachineState → Stock → List Scout → Type 0
AreScouts patient kept stock scouts =
    All (λ scout. IsScout kept stock scout × (scout.patient ≡ patient)) scouts
