-- Moves that are made and printed.
use Rattle.std.specs.Prelude.{◌≡◌, ℕ, List, ◌++◌, string_bytes}
use Rattle.bpf_x86.specs.Machine.{X86, Move}
use Rattle.bpf_buffering.specs.Search.{ShowsX86}
use Rattle.bpf_flushes.specs.Moves.{round_below}
use Rattle.bpf_buffer_events.specs.Happenings.{Item, MakesAllWith, MakesRoundsWith}
use Rattle.bpf_buffer_events.specs.Printed.{item_lines}
use Rattle.bpf_buffer_events.specs.declared.telling.Scene.{Scene}

-- what leads from the machines that the first shows to those of the second, and happens meanwhile, is
-- printed after the first text
abbrev pub ArePrinted : (X86 → List Item → X86 → Type 0) → List (List ℕ) → Scene → Scene → Type 0
ArePrinted leads names old new = (x : X86) → ShowsX86 old.machine x → (z : X86)
    × (log : List Item) × leads x log z × ShowsX86 new.machine z
    × (string_bytes new.text ≡ string_bytes old.text ++ item_lines names log)

-- some moves
abbrev pub By : List Move → X86 → List Item → X86 → Type 0
By moves x log z = MakesAllWith x moves log z

-- a round
abbrev pub OneRound : X86 → List Item → X86 → Type 0
OneRound x log z = MakesAllWith x (round_below x.world.store.shape.cpus) log z

-- rounds until each job has an outcome
abbrev pub LastRounds : X86 → List Item → X86 → Type 0
LastRounds x log z = (n : ℕ) × MakesRoundsWith n x log z
