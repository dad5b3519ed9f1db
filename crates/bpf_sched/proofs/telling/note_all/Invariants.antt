use Rattle.std.proofs.Common.{◌≡◌, ◌<◌, ℕ, length, map, get_or}
use Rattle.bpf_cpu.specs.Task.{waiting}
use Rattle.bpf_sched.specs.declared.worker.Worker.{Worker}
use Rattle.bpf_sched.specs.Explained.{ends_of}
use Rattle.bpf_sched.specs.Working.{outcome_of}
use Rattle.bpf_sched.proofs.telling.note_all.Given as goal

abbrev pub invariant-loop-cpu : goal.invariant-loop-cpu
invariant-loop-cpu l = record {
  room : length l.ends ≡ length l.fn.ends;
  noted : (c : ℕ) (d : Worker) → c < l.cpu → ends_of c (map waiting l.jobs) l.ends ≡ map outcome_of (get_or l.workers c d).workload.jobs.items;
}
