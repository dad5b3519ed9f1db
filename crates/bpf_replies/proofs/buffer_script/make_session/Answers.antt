use Rattle.std.proofs.Common.{◌∙◌, map, subst, sym}
use Rattle.bpf_pairs.specs.Pairs.{pair_of}
use Rattle.bpf_pairs.proofs.Filling.{filled_shape}
use Rattle.bpf_x86.specs.Machine.{drained}
use Rattle.bpf_buffering.specs.Search.{BufferedState, ShowsX86}
use Rattle.bpf_jobs.specs.Printed.{first_of}
use Rattle.bpf_replies.proofs.BufferReplies.{same_shape}
use Rattle.bpf_replies.proofs.buffer_script.make_session.Goals as goal

pub new-requires : goal.new-requires
new-requires c =
    let h = c.args.setup.shape in
    let m = c.in_ok-machine.machine in
    let filled = filled_shape h (map pair_of c.args.setup.pairs.items) in
    same_shape h m.machine (first_of c.args.setup) c.in_ok-seen.seen c.in_ok-machine.ensures.world filled c.in_ok-seen.ensures

pub returns-clause-machine : goal.returns-clause-machine
returns-clause-machine c =
    subst (λ (m : BufferedState). ShowsX86 m (drained (first_of c.args.setup))) (sym c.in_ok-session.ensures.machine) c.in_ok-machine.ensures

pub returns-clause-first : goal.returns-clause-first
returns-clause-first c = c.in_ok-session.ensures.first ∙ sym c.in_ok-session.ensures.machine
