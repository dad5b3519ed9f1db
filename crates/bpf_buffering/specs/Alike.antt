-- Machines with store buffers that differ only in registers that are written before they are read.
use Rattle.std.specs.Prelude.{ℕ, List}
use Rattle.bpf_cpu.specs.Task.{Task}
use Rattle.bpf_alike.specs.Worlds.{AllAlike}
use Rattle.bpf_machine.specs.Headways.{with_jobs}
use Rattle.bpf_x86.specs.Machine.{X86}
use Rattle.bpf_buffering.specs.Album.{IsShownAt}
use Rattle.bpf_buffering.specs.Search.{BufferedState, ShowsX86, IsShownX86}

-- the machine with these jobs
abbrev pub with_x86_jobs : X86 → List Task → X86
with_x86_jobs x jobs = record { world = with_jobs x.world jobs; buffers = x.buffers }

-- this is so of a machine, but for dead registers
abbrev pub ButForDeadX86 : (X86 → Type 0) → X86 → Type 0
ButForDeadX86 P x =
    (jobs : List Task) × AllAlike x.world.programs x.world.jobs jobs × P (with_x86_jobs x jobs)

-- a kept machine shows this one, but for dead registers
abbrev pub IsShownAlikeX86 : List BufferedState → X86 → Type 0
IsShownAlikeX86 kept x = ButForDeadX86 (IsShownX86 kept) x

-- the i-th does
abbrev pub IsShownAlikeAtX86 : List BufferedState → ℕ → X86 → Type 0
IsShownAlikeAtX86 kept i x = ButForDeadX86 (IsShownAt kept i) x

-- all that the machine shows, a kept one shows so
abbrev pub IsKeptAlikeX86 : List BufferedState → BufferedState → Type 0
IsKeptAlikeX86 kept m = (x : X86) → ShowsX86 m x → IsShownAlikeX86 kept x

-- the i-th does
abbrev pub IsKeptAlikeAtX86 : List BufferedState → ℕ → BufferedState → Type 0
IsKeptAlikeAtX86 kept i m = (x : X86) → ShowsX86 m x → IsShownAlikeAtX86 kept i x
