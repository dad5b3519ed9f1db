-- States of a machine that a search keeps.
use Rattle.std.specs.Prelude.{◌≡◌, ℕ, List, Some, slice_get}
use Rattle.bpf_machine.specs.Rounds.{HaveEnded}
use Rattle.bpf_x86.specs.Machine.{X86}
use Rattle.bpf_buffering.specs.Search.{BufferedState, ShowsX86}

-- a machine to work with, and the kept ones
pub record AlbumState : Type 0 where
  pub machine : BufferedState
  pub kept : List BufferedState

-- the i-th kept one shows this machine
abbrev pub IsShownAt : List BufferedState → ℕ → X86 → Type 0
IsShownAt kept i x = (m : BufferedState) × (slice_get kept i ≡ Some m) × ShowsX86 m x

-- each job of the i-th has an outcome
abbrev pub HaveEndedAt : List BufferedState → ℕ → Type 0
HaveEndedAt kept i = (m : BufferedState) → slice_get kept i ≡ Some m → HaveEnded m.machine.jobs
