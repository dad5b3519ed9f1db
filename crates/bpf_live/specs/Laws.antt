-- What follows from the definition of states that are alike.
use Rattle.std.specs.Prelude.{List}
use Rattle.bpf_shared.specs.declared.events.Event.{Event}
use Rattle.bpf_shared.specs.Shape.{Shape}
use Rattle.bpf_loader.specs.Loaded.{Loaded}
use Rattle.bpf_cpu.specs.declared.cpu.Cpu.{Cpu}
use Rattle.bpf_cpu.specs.declared.outcome.Progress.{Progress}
use Rattle.bpf_cpu.specs.declared.outcome.Progress.TheVariants.{On}
use Rattle.bpf_cpu.specs.Step.{Step}
use Rattle.bpf_live.specs.Alike.{AreAlike}
use Rattle.bpf_live.specs.Live.{IsLiveTable, Table}

-- states that are alike make the same steps: for each of one, the other has one with the same events
-- and the same answer, and it leaves a state that is alike again
abbrev pub StepsAreAlike : Type 0
StepsAreAlike =
    (shape : Shape) (program : Loaded) (table : Table) (old other new : Cpu) (events : List Event)
    (progress : Progress) → IsLiveTable program.instructions table
    → AreAlike program table old other → Step shape program old events progress new
    → (next : Cpu) × Step shape program other events progress next
    × AreAlike program table new next

-- to be alike is reflexive, symmetric and transitive
abbrev pub AlikeIsAnEquivalence : Type 0
AlikeIsAnEquivalence =
    (program : Loaded) (table : Table) (a b c : Cpu) → AreAlike program table a a
    × (AreAlike program table a b → AreAlike program table b a)
    × (AreAlike program table a b → AreAlike program table b c → AreAlike program table a c)

-- where a step may lead to this state whatever the store, the other's lead to one that is alike
-- whatever the store: the same one for each of them
abbrev pub OneStateIsAlike : Type 0
OneStateIsAlike =
    (program : Loaded) (table : Table) (old other new : Cpu) (shape : Shape) (events : List Event)
    → IsLiveTable program.instructions table → AreAlike program table old other
    → Step shape program old events On new
    → (next : Cpu) × AreAlike program table new next
    × ((h : Shape) (es : List Event) → Step h program old es On new
    → Step h program other es On next)
