use Rattle.std.proofs.Common.{◌≡◌, map, sym, subst}
use Rattle.bpf_shared.specs.Shape.{Shape}
use Rattle.bpf_cpu.specs.Task.{waiting}
use Rattle.bpf_explore.specs.Stores.{IsOfShape}
use Rattle.bpf_explore.proofs.ExploreLaws.{first_shape, first_lists_none}
use Rattle.bpf_pairs.specs.Pairs.{pair_of}
use Rattle.bpf_explore.proofs.opening.first_machine.Goals as goal

pub returns-clause-shape : goal.returns-clause-shape
returns-clause-shape c =
    let same : c.in_ok-shape.shape ≡ c.args.setup.shape = c.in_ok-shape.ensures in
    let m = c.in_ok-machine.machine in
    subst (λ (h : Shape). IsOfShape h m.store) (sym same) (first_shape c.args.setup.shape m (map pair_of c.args.setup.pairs.items)
    c.args.setup.programs.items (map waiting c.args.setup.jobs.items) c.in_ok-machine.ensures)

pub returns-clause-lists : goal.returns-clause-lists
returns-clause-lists c =
    first_lists_none c.args.setup.shape c.in_ok-machine.machine (map pair_of c.args.setup.pairs.items) c.args.setup.programs.items
    (map waiting c.args.setup.jobs.items) c.in_ok-machine.ensures
