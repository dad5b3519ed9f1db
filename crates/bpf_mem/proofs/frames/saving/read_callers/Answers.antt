use Rattle.std.proofs.Common.{◌<◌, ◌≤◌, length, arith}
use Rattle.bpf_mem.specs.Saved.{caller_saved, IsCaller}
use Rattle.bpf_mem.proofs.CodeLemmas.{reads_more, reads_stop, one_more}
use Rattle.bpf_mem.proofs.FrameLemmas.{caller_told, no_caller}
use Rattle.bpf_mem.proofs.Fronts.{if_none}
use Rattle.bpf_mem.proofs.frames.saving.read_callers.Goals as goal

pub returns-in_err-caller-clause-none : goal.returns-in_err-caller-clause-none
returns-in_err-caller-clause-none c =
    let room : c.args.count ≤ length c.loop-i.callers = omega (arith, c.loop-i.auto.callers) in
    if_none c.from_residual.result (reads_stop IsCaller caller_saved no_caller caller_told c.args.bytes.now c.loop-i.callers c.loop-i.i
    c.args.count c.loop-i.rest.now (omega arith) room c.loop-i.invariant.each c.loop-i.invariant.read c.in_err-caller.ensures.none)

pub loop-i-preserved : goal.loop-i-preserved
loop-i-preserved c =
    let inside : c.loop-i.i < length c.loop-i.callers = omega (arith, c.loop-i.auto.callers) in
    let caller = c.in_ok-caller.caller in
    record {
      each = one_more IsCaller caller_saved no_caller caller_told c.loop-i.callers c.loop-i.i caller inside c.loop-i.invariant.each
          c.in_ok-caller.ensures.is_caller;
      read = reads_more IsCaller caller_saved no_caller caller_told c.args.bytes.now c.loop-i.callers c.loop-i.i caller c.loop-i.rest.now
          c.in_ok-caller.behind.now inside c.loop-i.invariant.read c.in_ok-caller.ensures.some;
    }
