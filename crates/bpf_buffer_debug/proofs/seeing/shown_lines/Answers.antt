use Rattle.bpf_names.specs.Names.{names_of}
use Rattle.bpf_buffer_debug.proofs.SeeLaws.{seen_lines}
use Rattle.bpf_buffer_debug.proofs.seeing.shown_lines.Goals as goal

pub returns-in_ok-shown-in-InHand-clause-lines : goal.returns-in_ok-shown-in-InHand-clause-lines
returns-in_ok-shown-in-InHand-clause-lines c =
    let told = c.in_ok-shown-in-InHand.ensures in
    seen_lines (names_of c.args.names.now) c.args.machine.now c.args.cpu c.in-InHand.field-0 c.in-InHand.state.now c.see.new.seen c.in_ok-shown-in-InHand.shown
    c.see.ensures.sees c.in-InHand.ensures told.registers told.lines
