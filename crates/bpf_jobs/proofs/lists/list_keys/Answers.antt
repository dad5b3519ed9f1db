use Rattle.std.proofs.Common.{◌≡◌, map, sym, ◌∙◌, arith}
use Rattle.std.specs.Prelude.{string_bytes}
use Rattle.bpf_machine.proofs.RoundLaws.{cpus_shown}
use Rattle.bpf_jobs.proofs.ListLines.{shown_lines}
use Rattle.bpf_jobs.proofs.lists.list_keys.Goals as goal

pub returns : goal.returns
returns c = λ w shows.
    let m = c.args.machine.now in
    let all : c.loop-cpu.cpu ≡ c.cpus-cpu-end.result = omega arith in
    c.loop-cpu.invariant ∙ shown_lines m w (map string_bytes c.args.names.now) c.loop-cpu.cpu shows
    (cpus_shown m w c.cpus-cpu-end.result c.cpus-cpu-end.ensures shows ∙ sym all)
