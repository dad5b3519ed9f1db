use Rattle.std.proofs.Common.{String, Global}
use Rattle.std.specs.Prelude.{string_bytes}
use Rattle.std.proofs.lemmas.Result.{IfOk-weaker}
use Rattle.bpf_debug.specs.Answer.{IsOff}
use Rattle.bpf_debug.specs.Read.{TellsBytes}
use Rattle.bpf_buffer_debug.specs.Seeing.{TellsSeenMemory}
use Rattle.bpf_buffer_debug.proofs.SeeLaws.{no_bytes, seen_bytes}
use Rattle.bpf_buffer_debug.proofs.seeing.memory_line.Goals as goal

pub returns-in-InHand-clause-told : goal.returns-in-InHand-clause-told
returns-in-InHand-clause-told c =
    let seen = c.see.new.seen in
    let state = c.in-InHand.state.now in
    IfOk-weaker c.bytes_line.result (λ (t : String Global). TellsBytes seen state c.args.address c.args.count (string_bytes t))
    (λ (t : String Global). TellsSeenMemory c.args.machine.now c.args.cpu c.args.address c.args.count (string_bytes t))
    (λ t tells. seen_bytes c.args.machine.now c.args.cpu c.in-InHand.field-0 state seen c.args.address c.args.count (string_bytes t) c.see.ensures.sees
    c.in-InHand.ensures tells) c.bytes_line.ensures

pub returns-in-Waiting-clause-told : goal.returns-in-Waiting-clause-told
returns-in-Waiting-clause-told c =
    IfOk-weaker c.off_line.result (λ (t : String Global). IsOff c.args.machine.now.machine.jobs c.args.cpu (string_bytes t))
    (λ (t : String Global). TellsSeenMemory c.args.machine.now c.args.cpu c.args.address c.args.count (string_bytes t))
    (λ t is. no_bytes c.args.machine.now c.args.cpu c.see.new.seen c.args.address c.args.count (string_bytes t) c.see.ensures.sees is) c.off_line.ensures

pub returns-in-Idle-clause-told : goal.returns-in-Idle-clause-told
returns-in-Idle-clause-told c =
    IfOk-weaker c.off_line-in-Idle.result (λ (t : String Global). IsOff c.args.machine.now.machine.jobs c.args.cpu (string_bytes t))
    (λ (t : String Global). TellsSeenMemory c.args.machine.now c.args.cpu c.args.address c.args.count (string_bytes t))
    (λ t is. no_bytes c.args.machine.now c.args.cpu c.see.new.seen c.args.address c.args.count (string_bytes t) c.see.ensures.sees is)
    c.off_line-in-Idle.ensures
