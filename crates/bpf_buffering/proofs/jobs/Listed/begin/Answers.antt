use Rattle.std.proofs.Common.{◌≡◌, ◌∙◌, sym, ap}
use Rattle.bpf_cpu.specs.declared.cpu.Cpu.{Cpu}
use Rattle.bpf_cpu.specs.State.{start}
use Rattle.bpf_cpu.specs.Task.{Waiting, InHand}
use Rattle.bpf_machine.specs.Kept.{kept_stage}
use Rattle.bpf_buffering.proofs.Finding.{kept_waits}
use Rattle.bpf_buffering.proofs.jobs.Listed.begin.Goals as goal

pub unreachable-requires : goal.unreachable-requires
unreachable-requires c =
    let w = kept_waits c.args.self.now.stage c.requires in
    c.in_default.not-Waiting w.0 (c.replace.ensures.value ∙ w.1)

pub returns-clause-stage : goal.returns-clause-stage
returns-clause-stage c = λ i e.
    let two : Waiting c.in-Waiting.input ≡ Waiting i = ap kept_stage (sym c.in-Waiting.is ∙ c.replace.ensures.value) ∙ e in
    let one : c.in-Waiting.input ≡ i = cc in
    ap (λ (s : Cpu). InHand s c.args.self.now.budget) (c.new-state.ensures ∙ ap (start c.args.self.now.cpu) one)
