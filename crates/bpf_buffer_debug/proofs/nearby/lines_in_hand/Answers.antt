use Rattle.std.proofs.Common.{inl, String, Global}
use Rattle.std.specs.Prelude.{string_bytes}
use Rattle.std.proofs.lemmas.Result.{IfOk-weaker}
use Rattle.bpf_buffering.specs.Jobs.{task_of}
use Rattle.bpf_debug.specs.Nearby.{IsNearbyText, TellsLines, count_shown, first_shown}
use Rattle.bpf_buffer_debug.proofs.SeeLaws.{program_here, starts_here}
use Rattle.bpf_buffer_debug.proofs.nearby.lines_in_hand.Goals as goal

pub program_lines-requires : goal.program_lines-requires
program_lines-requires c =
    let m = c.args.machine.now.machine in
    let other = task_of c.in_ok-listed.listed in
    let program = c.index-programs-listed.result in
    let here = program_here m c.args.cpu c.args.job c.requires.0 other c.args.state.now c.requires.1 c.programs.result.now program
    c.stands.ensures.stands c.requires.2 c.in_ok-listed.ensures c.programs.ensures c.index-programs-listed.is in
    starts_here m c.args.cpu c.args.job c.requires.0 other c.args.state.now c.requires.1 program c.stands.ensures.stands c.requires.2
    c.in_ok-listed.ensures here.1

pub returns : goal.returns
returns c =
    let m = c.args.machine.now.machine in
    let other = task_of c.in_ok-listed.listed in
    let program = c.index-programs-listed.result in
    let state = c.args.state.now in
    let here = program_here m c.args.cpu c.args.job c.requires.0 other state c.requires.1 c.programs.result.now program
    c.stands.ensures.stands c.requires.2 c.in_ok-listed.ensures c.programs.ensures c.index-programs-listed.is in
    IfOk-weaker c.program_lines.result (λ (t : String Global). TellsLines program state.pc (first_shown state.pc) (count_shown state.pc) (string_bytes t))
    (λ (t : String Global). IsNearbyText m.programs m.jobs c.args.cpu (string_bytes t))
    (λ t tells. inl (c.args.job, c.requires.0, state, c.requires.1, program, c.requires.2, here.0, tells)) c.program_lines.ensures
