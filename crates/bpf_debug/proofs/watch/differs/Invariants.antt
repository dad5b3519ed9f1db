use Rattle.std.proofs.Common.{length}
use Rattle.bpf_debug.specs.Watch.{copies_of, watched}
use Rattle.bpf_debug.proofs.WatchLaws.{Agree}
use Rattle.bpf_debug.proofs.watch.differs.Given as goal

abbrev pub invariant-loop-cpu : goal.invariant-loop-cpu
invariant-loop-cpu l = Agree l.store (watched l.watch) l.before l.cpu
