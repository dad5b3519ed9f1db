use Rattle.std.proofs.Common.{map, sym, subst}
use Rattle.bpf_shared.specs.Shape.{Shape}
use Rattle.bpf_cpu.specs.Task.{waiting}
use Rattle.bpf_pairs.specs.Pairs.{pair_of}
use Rattle.bpf_explore.specs.Stores.{IsOfShape}
use Rattle.bpf_explore.proofs.ExploreLaws.{first_shape}
use Rattle.bpf_buffer_expand.proofs.filter.first_machine.Goals as goal

pub returns-clause-shape : goal.returns-clause-shape
returns-clause-shape c =
    let m = c.in_ok-machine.machine in
    subst (λ (h : Shape). IsOfShape h m.machine.store) (sym c.in_ok-shape.ensures) (first_shape c.args.setup.shape m.machine
    (map pair_of c.args.setup.pairs.items) c.args.setup.programs.items (map waiting c.args.setup.jobs.items) c.in_ok-machine.ensures.world)
