use Rattle.std.proofs.Common.{subst, arith}
use Rattle.std.specs.Prelude.{All}
use Rattle.std.proofs.lemmas.List.{take_all}
use Rattle.std.proofs.lemmas.List.Elements.{All-more}
use Rattle.bpf_mem.specs.Saved.{IsCaller}
use Rattle.bpf_mem.proofs.frames.saving.are_callers.Goals as goal

pub loop-caller-preserved : goal.loop-caller-preserved
loop-caller-preserved c = All-more IsCaller c.args.callers.now c.loop-caller.caller-index _ (omega arith) c.loop-caller.invariant c.is_caller.ensures

pub returns : goal.returns
returns c = (let P = All IsCaller in subst P (take_all c.loop-caller.caller-index c.args.callers.now (omega arith)) c.loop-caller.invariant)
