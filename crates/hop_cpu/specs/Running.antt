-- A whole job on a CPU of the concurrent store.
use Rattle.std.specs.Prelude.{◌≡◌, ℕ, List, ◌++◌}
use Rattle.bpf_shared.specs.declared.events.Entry.{Entry}
use Rattle.bpf_shared.specs.History.{IsLegal, events_of}
use Rattle.bpf_loader.specs.Loaded.{Loaded}
use Rattle.bpf_cpu.specs.declared.cpu.Cpu.{Cpu}
use Rattle.bpf_cpu.specs.declared.outcome.Outcome.{Outcome}
use Rattle.bpf_cpu.specs.Step.{Explains}
use Rattle.hop_map.specs.Noting.{CallsNote}
use Rattle.hop_cpu.specs.Serving.{Serving, IsPortWorn}

-- the CPU has seen these events more, and all that it has seen is one legal history; its own among
-- them explain how the job ended, and at each it noted no more than it may
pub record RanJob (x y : Serving) (program : Loaded) (budget : ℕ) (first : Cpu) (end : Outcome)
    : Type 0 where
  pub table : y.table ≡ x.table
  pub cpu : y.port.known.cpu ≡ x.port.known.cpu
  pub log : List Entry
  pub seen : y.port.known.seen ≡ x.port.known.seen ++ log
  pub legal : IsLegal x.table.about.shape y.port.known.seen
  pub explains : Explains (IsPortWorn x first.number) x.table.about.shape program budget first
      (events_of first.number log) end
  pub noted : CallsNote x.table.about (events_of x.port.known.cpu log) x.port.known y.port.known
