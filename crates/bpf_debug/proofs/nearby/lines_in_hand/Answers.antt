use Rattle.bpf_debug.proofs.NearbyLaws.{starts_here}
use Rattle.bpf_debug.proofs.nearby.lines_in_hand.Goals as goal

pub program_lines-requires : goal.program_lines-requires
program_lines-requires c =
    let v = c.in_ok-program.ensures in
    starts_here c.args.machine.now c.args.cpu c.args.job c.requires.0 v.0 c.args.state.now c.requires.1 c.in_ok-program.program.now
    c.stands.ensures c.requires.2 v.1 v.2
