-- What a run file says: CPUs, maps, arrays, variables, pairs, programs and jobs (our own choice).
use Rattle.std.specs.Prelude.{ℕ, List, map}
use Rattle.bpf_shared.specs.declared.shapes.ArrayShape.{ArrayShape}
use Rattle.bpf_shared.specs.declared.shapes.MapShape.{MapShape}
use Rattle.bpf_shared.specs.Shape.{Shape}
use Rattle.bpf_names.specs.Names.{Names, names_of}
use Rattle.bpf_pairs.specs.Pairs.{Pair, pair_of}
use Rattle.bpf_loader.specs.declared.named.Named.{Named}
use Rattle.bpf_loader.specs.Loaded.{Loaded}
use Rattle.bpf_cpu.specs.Setup.{named_in}
use Rattle.bpf_cpu.specs.Task.{Task, waiting}
use Rattle.bpf_file.specs.declared.file.RunFile.{RunFile}

-- how many CPUs there are; the seed of the maps' hashes; the names of maps, arrays and
-- variables; the shapes of maps and arrays; by array the bytes that it has at first,
-- from its first value on, which zeros follow; the pairs that maps have at first, in the order in
-- which they are put in; the programs by their numbers; and the jobs, which all wait
pub record File : Type 0 where
  pub cpus : ℕ
  pub seed : ℕ
  pub names : Names
  pub maps : List MapShape
  pub arrays : List ArrayShape
  pub contents : List (List ℕ)
  pub pairs : List Pair
  pub programs : List Loaded
  pub jobs : List Task

-- what a reader's answer says
abbrev pub file_of : RunFile → File
file_of f = record {
  cpus = f.setup.shape.cpus;
  seed = f.seed;
  names = names_of f.names;
  maps = f.setup.shape.maps;
  arrays = f.setup.shape.arrays;
  contents = f.setup.shape.contents;
  pairs = map pair_of f.setup.pairs.items;
  programs = f.setup.programs.items;
  jobs = map waiting f.setup.jobs.items;
}

-- the shape of its store
abbrev pub shape_of : File → Shape
shape_of f = record {
  cpus = f.cpus;
  maps = f.maps;
  arrays = f.arrays;
  contents = f.contents;
}

-- what its programs may name
abbrev pub named_by : File → Named
named_by f = named_in (shape_of f)
