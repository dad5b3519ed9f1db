use Rattle.std.proofs.Common.{◌≡◌}
use Rattle.bpf_machine.specs.Schedule.{unrolled}
use Rattle.bpf_explore.proofs.DiveLaws.{RunsTo}
use Rattle.bpf_explore.proofs.diving.dive.Given as goal

abbrev pub invariant-loop : goal.invariant-loop
invariant-loop l = record {
  runs : RunsTo l.fn.album.machine (unrolled l.by.items) l.album.machine;
  same : l.album.kept ≡ l.fn.album.kept;
  cpus : l.album.cpus ≡ l.fn.album.cpus;
  stock : l.album.stock ≡ l.fn.album.stock;
}
