use Rattle.std.proofs.Common.{◌∙◌, inl, inr, refl, sym, arith}
use Rattle.std.proofs.lemmas.Bool.{cases_lt, ltb-true}
use Rattle.bpf_shared.proofs.Puts.{true_or_false}
use Rattle.bpf_plain.specs.PlainStore.{is_running}
use Rattle.bpf_machine.proofs.machine.parts.fitting.none_runs_idly.Goals as goal

pub returns : goal.returns
returns c = (
  λ is cpu none. elim (cases_lt cpu c.loop-cpu.cpu) [
    | inl below ↦ c.loop-cpu.invariant cpu below none
    | inr past ↦ elim (true_or_false (is_running c.args.store.now cpu)) [
      | inl runs ↦
          let inside = ltb-true cpu c.cpus-cpu-end.result (sym (c.cpus-cpu-end.ensures cpu) ∙ c.runs_are_served.ensures cpu runs) in
          let all = c.loop-cpu-test.false in
          absurd (omega arith)
      | inr idle ↦ idle
    ]
  ],
  λ all. refl,
)
