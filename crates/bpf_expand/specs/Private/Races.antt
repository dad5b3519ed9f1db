-- What is printed of a machine's races.
use Rattle.std.specs.Prelude.{◌≡◌, ℕ, Bool, false, true, List, [], length}
use Rattle.bpf_names.specs.Names.{Names}
use Rattle.bpf_plain.specs.PlainStore.{shape_of}
use Rattle.bpf_cpu.specs.Setup.{named_in}
use Rattle.bpf_machine.specs.Machine.{MachineState}
use Rattle.bpf_races.specs.Races.{RaceFound, AreRacesIn}
use Rattle.bpf_races.specs.Lines.{here_lines}

-- a line each, if they are to be printed
abbrev pub TellsRaces : (races : Bool) → MachineState → Names → List ℕ → Type 0
TellsRaces false m names text = text ≡ []
TellsRaces true m names text = (found : List RaceFound) × AreRacesIn m [] found
    × (text ≡ here_lines (named_in (shape_of m.store)) names (length found) found)
