use Rattle.std.proofs.Common.{map, subst, sym}
use Rattle.bpf_cpu.specs.Task.{waiting}
use Rattle.bpf_threads.specs.Counting.{AreBounds}
use Rattle.bpf_threads.proofs.Adding.{at_most}
use Rattle.bpf_threads.proofs.threads.most_of.Goals as goal

pub returns : goal.returns
returns c =
    let programs = c.args.programs.now in
    let are = subst (AreBounds c.args.counted programs) (sym c.deref.ensures.value) c.in_ok-bounds.ensures in
    at_most c.args.counted programs c.deref.result.now (map waiting c.args.jobs.now) are c.add_up.result c.add_up.ensures
