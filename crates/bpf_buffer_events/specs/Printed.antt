-- What is printed of jobs on CPUs with store buffers together with all that happens. Our own choice.
use Rattle.std.specs.Prelude.{◌≡◌, ℕ, Bool, List, [], ◌∷◌, ◌++◌, codes}
use Rattle.std.specs.Fmt.{decimal}
use Rattle.bpf_names.specs.Names.{Names}
use Rattle.bpf_machine.specs.Laws.{IsFresh}
use Rattle.bpf_machine.specs.Schedule.{World, unrolled}
use Rattle.bpf_x86.specs.Machine.{X86}
use Rattle.bpf_jobs.specs.Printed.{Tells}
use Rattle.bpf_events.specs.Lines.{event_text, happening_line}
use Rattle.bpf_flushes.specs.Printed.{IsReportWithBuffers}
use Rattle.bpf_buffer_events.specs.Happenings.{Item, Called, Flushed, RunsWithEvents}

-- THE LINE OF A CALL, as that of any other history; and of a store that reaches memory
abbrev pub item_line : List (List ℕ) → Item → List ℕ
item_line names (Called h) = happening_line names h
item_line names (Flushed c e) =
    codes "cpu " ++ decimal c ++ codes " flush " ++ event_text names e ++ codes "\n"

abbrev pub item_lines : List (List ℕ) → List Item → List ℕ
item_lines names [] = []
item_lines names (item ∷ rest) = item_line names item ++ item_lines names rest

-- THE MOVES OF A SCHEDULE, each with how often it is made, AND ROUNDS AFTER THEM, lead to a last machine:
-- all that happens in them is printed, and after it what is printed of this machine
abbrev pub IsHistoryWithBuffers : World → List (ℕ × ℕ) → Names → Bool → List ℕ → Bool → Type 0
IsHistoryWithBuffers w runs names maps text stopped =
    (z : X86) × (log : List Item) × (told : List ℕ) × RunsWithEvents w (unrolled runs) log z
    × Tells z.world.store z.world.jobs names maps told stopped
    × (text ≡ item_lines names.maps log ++ told)

-- what is printed after the history is the report of the run
abbrev pub HistoriesAreOfReportsWithBuffers : Type 0
HistoriesAreOfReportsWithBuffers =
    (w : World) (runs : List (ℕ × ℕ)) (names : Names) (maps : Bool) (text : List ℕ)
    (stopped : Bool) → IsHistoryWithBuffers w runs names maps text stopped
    → (lines : List ℕ) × (told : List ℕ) × IsReportWithBuffers w runs names maps told stopped
    × (text ≡ lines ++ told)

-- of jobs that all wait one such history is printed
abbrev pub HistoriesWithBuffersAreDetermined : Type 0
HistoriesWithBuffersAreDetermined =
    (w : World) (runs : List (ℕ × ℕ)) (names : Names) (maps : Bool) (text other : List ℕ)
    (stopped halted : Bool) → IsFresh w → IsHistoryWithBuffers w runs names maps text stopped
    → IsHistoryWithBuffers w runs names maps other halted → (text ≡ other) × (stopped ≡ halted)
