-- What is printed of what a CPU sees: memory after its own waiting stores.
use Rattle.std.specs.Prelude.{◌≡◌, ℕ, List, Option, map, string_bytes}
use Rattle.bpf_names.specs.Names.{Names}
use Rattle.bpf_shared.specs.Store.{Plain}
use Rattle.bpf_x86.specs.Buffers.{Sees}
use Rattle.bpf_x86.specs.Machine.{X86, buffered}
use Rattle.bpf_buffering.specs.Search.{BufferedState, ShowsX86}
use Rattle.bpf_debug.specs.Held.{IsHeldText}
use Rattle.bpf_debug.specs.Read.{IsMemoryText}
use Rattle.bpf_debug.specs.Recall.{Past}
use Rattle.bpf_debug.specs.Show.{AreShownLines, IsShownText}
use Rattle.bpf_debug.specs.declared.show.Shown.{Shown}
use Rattle.bpf_cpu.specs.declared.cpu.Cpu.{Cpu}
use Rattle.bpf_cpu.specs.Task.{InHand, Task}
use Rattle.bpf_machine.specs.Hands.{IsAt}

-- bytes
abbrev pub IsSeenMemory : X86 → ℕ → Option ℕ → ℕ → List ℕ → Type 0
IsSeenMemory x c at n text =
    (s : Plain) × Sees (buffered x) c s × IsMemoryText s x.world.jobs c at n text

-- the values that its run holds
abbrev pub IsSeenHeld : List (List ℕ) → X86 → ℕ → List ℕ → Type 0
IsSeenHeld names x c text =
    (s : Plain) × Sees (buffered x) c s × IsHeldText names s x.world.jobs c text

-- the registers that its last turn changed
abbrev pub IsSeenShown : Names → X86 → ℕ → Option Past → List ℕ → Type 0
IsSeenShown names x c past text =
    (s : Plain) × Sees (buffered x) c s
    × IsShownText c names past (record x.world { store = s }) text

-- of each machine that the state shows
abbrev pub TellsSeenMemory : BufferedState → ℕ → Option ℕ → ℕ → List ℕ → Type 0
TellsSeenMemory m c at n text = (x : X86) → ShowsX86 m x → IsSeenMemory x c at n text

abbrev pub TellsSeenHeld : List (List ℕ) → BufferedState → ℕ → List ℕ → Type 0
TellsSeenHeld names m c text = (x : X86) → ShowsX86 m x → IsSeenHeld names x c text

-- the registers of a CPU that has a job in hand, with a line each
abbrev pub TellsSeenLines : Names → BufferedState → ℕ → Shown → Type 0
TellsSeenLines names m c shown =
    (x : X86) → ShowsX86 m x → (s : Plain) × (j : ℕ) × (task : Task) × (state : Cpu) × (left : ℕ)
    × Sees (buffered x) c s × IsAt x.world.jobs c j task (InHand state left)
    × (shown.registers ≡ state.registers)
    × AreShownLines names s state.held 0 state.registers (map string_bytes shown.lines.items)
