-- What is printed of jobs together with what they leave in their packets. Our own choice.
use Rattle.std.specs.Prelude.{◌≡◌, ◌++◌, ℕ, Bool, List, length}
use Rattle.bpf_names.specs.Names.{Names}
use Rattle.bpf_machine.specs.Laws.{IsFresh}
use Rattle.bpf_machine.specs.Schedule.{World, unrolled}
use Rattle.bpf_jobs.specs.Printed.{lines_of_lists, TellsWith}
use Rattle.bpf_packets.specs.Packets.{RunsByKeeping, packet_lines}

-- the turns of a schedule, and rounds after them, lead to a last machine: what is printed of it,
-- and after that a line for each job that has a packet and ended by `exit`
abbrev pub IsReportWithPackets : World → List (ℕ × ℕ) → Names → Bool → List ℕ → Bool → Type 0
IsReportWithPackets w runs names maps text stopped =
    (z : World) × (packets : List (List ℕ)) × (told : List ℕ)
    × RunsByKeeping w (unrolled runs) packets z
    × TellsWith (lines_of_lists z names.maps) z.store z.jobs names maps told stopped
    × (text ≡ told ++ packet_lines (length z.jobs) z.jobs packets)

-- of jobs that all wait one such report is printed
abbrev pub ReportsWithPacketsAreDetermined : Type 0
ReportsWithPacketsAreDetermined =
    (w : World) (runs : List (ℕ × ℕ)) (names : Names) (maps : Bool) (text other : List ℕ)
    (stopped halted : Bool) → IsFresh w → IsReportWithPackets w runs names maps text stopped
    → IsReportWithPackets w runs names maps other halted → (text ≡ other) × (stopped ≡ halted)
