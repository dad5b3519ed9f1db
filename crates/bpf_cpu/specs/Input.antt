-- What a job may be given, and what it is given of which no more is said than the bytes of its
-- context: no packet.
use Rattle.std.specs.Prelude.{ℕ, ◌≤◌, List, [], length}
use Rattle.bpf_mem.specs.Limits.{max_context, max_packet}
use Rattle.bpf_helpers.specs.declared.given.Given.{Given}
use Rattle.bpf_cpu.specs.declared.input.Input.{Input}

abbrev pub nothing_given : Given
nothing_given = record { job = 0; time = 0; seed = 0 }

abbrev pub of_bytes : List ℕ → Input
of_bytes bytes = record { context = bytes; packet = []; given = nothing_given }

-- nor that
abbrev pub no_input : Input
no_input = of_bytes []

-- its context and its packet have at most 4,096 and 16,384 bytes
abbrev pub IsShort : Input → Type 0
IsShort input = (length input.context ≤ max_context) × (length input.packet ≤ max_packet)
