use Rattle.std.proofs.Common.{map, subst, sym}
use Rattle.bpf_pairs.specs.Pairs.{pair_of}
use Rattle.bpf_pairs.proofs.Filling.{filled_shape}
use Rattle.bpf_plain.specs.Alike.{IsSameShape}
use Rattle.bpf_plain.specs.PlainStore.{Contents}
use Rattle.bpf_jobs.specs.Printed.{first_of}
use Rattle.bpf_buffer_events.proofs.Histories.{same_shape}
use Rattle.bpf_buffer_events.proofs.history.begin.Goals as goal

pub returns-clause-shape : goal.returns-clause-shape
returns-clause-shape c =
    let h = c.args.setup.shape in
    let m = c.in_ok-machine.machine in
    let filled = filled_shape h (map pair_of c.args.setup.pairs.items) in
    let shows = c.in_ok-machine.ensures.world in (
      subst (λ (p : Contents). IsSameShape m.machine.store p) (sym c.new-recorder.ensures)
          (same_shape h m.machine (first_of c.args.setup) c.in_ok-noted.noted shows filled c.in_ok-noted.ensures),
      same_shape h m.machine (first_of c.args.setup) c.in_ok-seen.seen shows filled c.in_ok-seen.ensures,
    )
