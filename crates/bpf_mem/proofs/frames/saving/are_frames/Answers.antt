use Rattle.std.proofs.Common.{subst, arith}
use Rattle.std.specs.Prelude.{All}
use Rattle.std.proofs.lemmas.List.{take_all}
use Rattle.std.proofs.lemmas.List.Elements.{All-more}
use Rattle.bpf_mem.specs.Saved.{IsFrame}
use Rattle.bpf_mem.proofs.frames.saving.are_frames.Goals as goal

pub loop-frame-preserved : goal.loop-frame-preserved
loop-frame-preserved c = All-more IsFrame c.args.frames.now c.loop-frame.frame-index _ (omega arith) c.loop-frame.invariant c.is_frame.ensures

pub returns : goal.returns
returns c = (let P = All IsFrame in subst P (take_all c.loop-frame.frame-index c.args.frames.now (omega arith)) c.loop-frame.invariant)
