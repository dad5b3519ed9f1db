use Rattle.std.proofs.Common.{◌∙◌, ap, subst}
use Rattle.bpf_shared.specs.Shape.{Shape}
use Rattle.bpf_loader.specs.declared.named.Named.{Named}
use Rattle.bpf_cpu.specs.declared.cpu.Cpu.{Cpu}
use Rattle.bpf_cpu.specs.State.{start}
use Rattle.bpf_cpu.specs.Step.{Explains}
use Rattle.bpf_replies.specs.Programs.{no_names, bare_shape}
use Rattle.bpf_replies.proofs.programs.run.Goals as goal

pub returns : goal.returns
returns c =
    let p = c.in_ok-program.program in
    let found = c.in_ok-program.ensures.found in
    let cpu = c.new-cpu.result in
    let explained = c.run.ensures.explained in
    let E : Shape → Named → Cpu → Type 0 = λ shape named cpu.
    Explains ⊥ shape (record { instructions = p.instructions; named = named }) c.args.options.budget cpu explained.0 c.run.result in
    let bare = subst (λ (shape : Shape). E shape p.named cpu) c.in-Ok.ensures.shape explained.2 in
    let counted = subst (λ (named : Named). E bare_shape named cpu) found.2 bare in (
      p.instructions,
      found.0,
      found.1,
      explained.0,
      subst (λ (cpu : Cpu). E bare_shape no_names cpu)
          (c.new-cpu.ensures ∙ ap (start 0) c.of_bytes.ensures) counted,
    )
