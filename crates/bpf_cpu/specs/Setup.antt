-- What a machine is made of, and what it asks of that.
use Rattle.std.specs.Prelude.{◌≡◌, ◌<◌, All, length, map, vec_len}
use Rattle.bpf_shared.specs.Shape.{Shape}
use Rattle.bpf_pairs.specs.Pairs.{ArePairs, pair_of}
use Rattle.bpf_loader.specs.declared.named.Named.{Named}
use Rattle.bpf_cpu.specs.Input.{IsShort}
use Rattle.bpf_cpu.specs.declared.setup.Setup.{Setup}

-- what programs may name where a store has this shape
abbrev pub named_in : Shape → Named
named_in h = record { maps = length h.maps; arrays = length h.arrays }

-- each job has one of the CPUs, one of the programs, and no more bytes than it may be given; each program
-- was loaded for as many maps and arrays as there are; and the maps can have these pairs at first
pub record IsRunnable (s : Setup) : Type 0 where
  pub cpus : All (λ job. job.cpu < s.shape.cpus) s.jobs.items
  pub programs : All (λ job. job.program < vec_len s.programs) s.jobs.items
  pub inputs : All (λ job. IsShort job.input) s.jobs.items
  pub named : All (λ program. program.named ≡ named_in s.shape) s.programs.items
  pub pairs : ArePairs s.shape.maps (map pair_of s.pairs.items)
