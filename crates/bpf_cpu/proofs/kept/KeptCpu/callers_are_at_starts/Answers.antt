use Rattle.std.proofs.Common.{◌∙◌, List, ap, subst}
use Rattle.std.specs.Prelude.{◌↔◌, IsTrue, All}
use Rattle.bpf_mem.specs.Stack.{Stack}
use Rattle.bpf_mem.specs.declared.frames.Caller.{Caller}
use Rattle.bpf_loader.specs.Places.{IsStart}
use Rattle.bpf_cpu.proofs.kept.KeptCpu.callers_are_at_starts.Goals as goal

pub returns : goal.returns
returns c =
    subst (λ (cs : List Caller). IsTrue c.return_to_starts.result ↔ All (λ caller. IsStart c.args.program.now.instructions caller.return_pc) cs)
    (c.callers.ensures ∙ ap (λ (s : Stack). s.callers) c.frames.ensures) c.return_to_starts.ensures
