use Rattle.std.proofs.Common.{◌≡◌}
use Rattle.bpf_explore.proofs.KeepLaws.{KeptSoFar}
use Rattle.bpf_explore.proofs.album.find_jobs.Given as goal

abbrev pub invariant-loop-job : goal.invariant-loop-job
invariant-loop-job l = record {
  far : KeptSoFar l.parts l.fn.room.numbers.items l.machine.jobs l.job l.parts l.room.numbers.items;
  before : l.room.before.items ≡ l.fn.room.before.items;
  cpu : l.room.cpu ≡ l.fn.room.cpu;
}
