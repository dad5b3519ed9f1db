-- What is noted of a turn of the x86 machine before it is made.
use Rattle.std.specs.Prelude.{◌≡◌, ℕ, List, [], ◌++◌, Option, Some, None, nat_lt}
use Rattle.bpf_shared.specs.declared.events.Event.{Event}
use Rattle.bpf_shared.specs.Shape.{Shape}
use Rattle.bpf_plain.specs.PlainStore.{Contents, has_cpu, shape_of}
use Rattle.bpf_plain.specs.Alike.{IsSameShape}
use Rattle.bpf_machine.specs.declared.machine.Turn.{Turn}
use Rattle.bpf_machine.specs.Happenings.{happening, end_events}
use Rattle.bpf_x86.specs.Machine.{X86}
use Rattle.bpf_buffering.specs.Search.{BufferedState, ShowsX86}
use Rattle.bpf_buffer_events.specs.declared.watching.Watcher.{Watcher}
use Rattle.bpf_buffer_events.specs.Happenings.{Item, Happens, items}

-- a store of this shape
abbrev pub HasShape : Shape → Contents → Type 0
HasShape h p = ((c : ℕ) → has_cpu p c ≡ nat_lt c h.cpus) × (shape_of p ≡ h)

-- its stores have the shape of the machine's
abbrev pub AreWatched : BufferedState → Watcher → Type 0
AreWatched m w =
    IsSameShape m.machine.store w.recorder.store × IsSameShape m.machine.store w.seen

-- what happens in a turn with this result, where these events were noted of a job at a pc, and before
-- it these stores waited
abbrev pub noted : ℕ → Option (ℕ × ℕ) → List Event → List Event → Turn → List Item
noted c None waiting events answer = []
noted c (Some at) waiting events answer =
    items c (happening c at.0 at.1) waiting (events ++ end_events answer)

-- whatever the CPU's next turn leads to, this happens in it
abbrev pub IsWatched : BufferedState → ℕ → Option (ℕ × ℕ) → List Event → Type 0
IsWatched m c at events = (x : X86) → ShowsX86 m x → (answer : Turn)
    → Happens x c answer (noted c at (x.buffers c) events answer)
