use Rattle.std.proofs.Common.{◌≡◌, map, string_bytes}
use Rattle.bpf_run.specs.Spreading.{AreRead}
use Rattle.bpf_run.proofs.spreading.read_files.Given as goal

abbrev pub invariant-loop-name : goal.invariant-loop-name
invariant-loop-name g l = record {
  files : g.R.Source.file l.source ≡ g.R.Source.file l.initial.source;
  read : AreRead (g.R.Source.file l.initial.source) (map string_bytes l.names) l.name-index (map (λ v. v.items) l.read.states.items);
}
