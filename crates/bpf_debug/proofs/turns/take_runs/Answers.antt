use Rattle.std.proofs.Common.{ℕ, List, ◌++◌, ap, subst, ◌∙◌}
use Rattle.bpf_debug.specs.Answer.{IsWhere}
use Rattle.bpf_debug.proofs.turns.take_runs.Goals as goal

pub returns-clause-made : goal.returns-clause-made
returns-clause-made c =
    let place = c.put_where.ensures.text in
    let J : ℕ → Type 0 = λ cpu. IsWhere c.make_runs.new.machine.jobs cpu place.0 in (
      place.0,
      subst J c.last_cpu.ensures place.1,
      λ w shows. (
          let made = c.make_runs.ensures.made w shows in
          (made.0, made.1, made.2, made.3, place.2 ∙ ap (λ (s : List ℕ). s ++ place.0) made.4)),
    )
