-- What a table and a CPU's right to step are made of.
use Rattle.std.specs.Prelude.{◌≡◌, ℕ, []}
use Rattle.atomic_table.specs.Table.{Step, Me}
use Rattle.hop_words.specs.declared.known.Known.{Known}
use Rattle.hop_words.specs.declared.known.View.{View}
use Rattle.hop_words.specs.declared.table.HopTable.TheInside.{Inside as InTable}
use Rattle.hop_words.specs.declared.lane.Lane.TheInside.{Inside as InStepper}
use Rattle.hop_layout.specs.Layout.{size}
use Rattle.hop_words.specs.Private.Step.{solo, TellsLane, first_lane}
use Rattle.hop_words.specs.Inside.{Shown, Standing, nobody}

abbrev pub shown : InTable → Shown
shown t = record { id = t.table.shared.table_id; about = t.table.shared.key }

-- the table has the words of the layout, and the index is its own
abbrev pub HasLayout : InTable → Type 0
HasLayout t = (t.table.shared.table_id.words ≡ size t.table.shared.key.shape)
    × (t.table.shared.table_id.slots ≡ 0) × (t.index ≡ t.table.shared.key)

abbrev pub stepper_lane : InStepper → Known
stepper_lane s = first_lane nobody s.seat.me.0.lanes

abbrev pub standing : InStepper → Standing
standing s = record { table = s.seat.table_id; known = stepper_lane s }

-- the seat has this one CPU, and no slot
abbrev pub IsOne : InStepper → Type 0
IsOne s = (s.seat.me ≡ (solo (stepper_lane s), [])) × ((stepper_lane s).cpu ≡ s.cpu)

abbrev pub tells : (ℕ → Known → Type 0) → Step (Unit {0}) → Me (Unit {0}) View → ℕ
    → Me (Unit {0}) View → Type 0
tells told st m n m' = TellsLane (first_lane nobody m.0.lanes).cpu told n m'
