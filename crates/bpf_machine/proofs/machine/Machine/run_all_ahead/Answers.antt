use Rattle.std.proofs.Common.{◌≡◌, ◌∙◌, ℕ, sym, subst, arith, slice_set}
use Rattle.std.proofs.lemmas.List.{get_or-set_same, get_or-set_other, length-set}
use Rattle.bpf_machine.specs.declared.machine.ahead.Headway.TheVariants.{Idle}
use Rattle.bpf_machine.specs.Private.Headways.{headway_at}
use Rattle.bpf_machine.proofs.AheadLaws.{AllSoFar, none_ahead, one_more_ahead, all_ahead, all_less}
use Rattle.bpf_machine.proofs.machine.Machine.run_all_ahead.Goals as goal

pub loop-cpu-init : goal.loop-cpu-init
loop-cpu-init c = record { far = none_ahead c.args.self.now c.args.headways.now c.requires.idle; long = c.told-headways }

pub loop-cpu-preserved : goal.loop-cpu-preserved
loop-cpu-preserved c =
    let at = c.loop-cpu in
    let set = slice_set at.headways at.cpu c.run_ahead.result in
    let here : headway_at set at.cpu ≡ c.run_ahead.result = get_or-set_same at.headways at.cpu c.run_ahead.result Idle
    (omega (arith, at.invariant.long, c.cpus_of_jobs-cpu-end.type_inv)) in
    record {
      far = one_more_ahead c.args.self.now at.self c.run_ahead.new.self at.cpu at.headways set c.run_ahead.result at.invariant.far here
          (λ d ne. sym (get_or-set_other at.headways at.cpu d c.run_ahead.result Idle ne)) c.run_ahead.ensures;
      long = length-set at.headways at.cpu c.run_ahead.result ∙ at.invariant.long;
    }

pub returns-clause-ahead : goal.returns-clause-ahead
returns-clause-ahead c =
    let n : c.loop-cpu.cpu ≡ c.cpus_of_jobs-cpu-end.result = omega arith in
    all_ahead c.args.self.now c.loop-cpu.self c.cpus_of_jobs-cpu-end.result c.loop-cpu.headways c.cpus_of_jobs-cpu-end.ensures.jobs
    (subst (λ (k : ℕ). AllSoFar c.args.self.now k c.loop-cpu.headways c.loop-cpu.self) n c.loop-cpu.invariant.far)

pub returns-clause-falls : goal.returns-clause-falls
returns-clause-falls c = λ shown. all_less c.args.self.now c.loop-cpu.self c.loop-cpu.cpu c.loop-cpu.headways c.loop-cpu.invariant.far shown.0 shown.1
