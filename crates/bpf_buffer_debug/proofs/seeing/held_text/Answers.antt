use Rattle.std.proofs.Common.{map, length, String, Global}
use Rattle.std.specs.Prelude.{string_bytes}
use Rattle.std.proofs.lemmas.Result.{IfOk-weaker}
use Rattle.bpf_debug.specs.Answer.{IsOff}
use Rattle.bpf_debug.specs.Held.{ShowsHeld}
use Rattle.bpf_buffer_debug.specs.Seeing.{TellsSeenHeld}
use Rattle.bpf_buffer_debug.proofs.SeeLaws.{no_held, seen_held}
use Rattle.bpf_buffer_debug.proofs.seeing.held_text.Goals as goal

pub returns-in-InHand-clause-told : goal.returns-in-InHand-clause-told
returns-in-InHand-clause-told c =
    let names = map string_bytes c.args.names.now in
    let seen = c.see.new.seen in
    let state = c.in-InHand.state.now in
    IfOk-weaker c.held_lines.result (λ (t : String Global). ShowsHeld names seen state (length state.held) (string_bytes t))
    (λ (t : String Global). TellsSeenHeld names c.args.machine.now c.args.cpu (string_bytes t))
    (λ t tells. seen_held names c.args.machine.now c.args.cpu c.in-InHand.field-0 state seen (string_bytes t) c.see.ensures.sees
    c.in-InHand.ensures tells) c.held_lines.ensures

pub returns-in-Waiting-clause-told : goal.returns-in-Waiting-clause-told
returns-in-Waiting-clause-told c =
    let names = map string_bytes c.args.names.now in
    IfOk-weaker c.off_line.result (λ (t : String Global). IsOff c.args.machine.now.machine.jobs c.args.cpu (string_bytes t))
    (λ (t : String Global). TellsSeenHeld names c.args.machine.now c.args.cpu (string_bytes t))
    (λ t is. no_held names c.args.machine.now c.args.cpu c.see.new.seen (string_bytes t) c.see.ensures.sees is) c.off_line.ensures

pub returns-in-Idle-clause-told : goal.returns-in-Idle-clause-told
returns-in-Idle-clause-told c =
    let names = map string_bytes c.args.names.now in
    IfOk-weaker c.off_line-in-Idle.result (λ (t : String Global). IsOff c.args.machine.now.machine.jobs c.args.cpu (string_bytes t))
    (λ (t : String Global). TellsSeenHeld names c.args.machine.now c.args.cpu (string_bytes t))
    (λ t is. no_held names c.args.machine.now c.args.cpu c.see.new.seen (string_bytes t) c.see.ensures.sees is)
    c.off_line-in-Idle.ensures
