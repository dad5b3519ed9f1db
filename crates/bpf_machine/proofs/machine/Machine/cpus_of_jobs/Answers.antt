use Rattle.std.proofs.Common.{◌≡◌, ◌<◌, Some, ℕ, sym, subst, ◌∙◌}
use Rattle.std.specs.Prelude.{slice_get}
use Rattle.std.proofs.lemmas.Bool.{ltb-true}
use Rattle.bpf_plain.specs.PlainStore.{has_cpu, is_running, held_spans}
use Rattle.bpf_cpu.specs.Task.{Task}
use Rattle.bpf_machine.specs.Machine.{MachineState}
use Rattle.bpf_machine.proofs.WorkLaws.{served}
use Rattle.bpf_machine.proofs.machine.Machine.cpus_of_jobs.Goals as goal

pub returns-clause-jobs : goal.returns-clause-jobs
returns-clause-jobs c =
    let m = c.self.inside in
    let P : MachineState → Type 0 = λ s. (j : ℕ) (task : Task) → slice_get s.jobs j ≡ Some task → task.cpu < c.cpus.result in
    subst P c.self.view_is (λ j task listed. ltb-true _ _ (sym (c.cpus.ensures task.cpu) ∙ served (has_cpu m.store) (is_running m.store)
    (held_spans m.store) m.programs.items m.jobs.items m.lanes.items c.self.invariant.0 j task listed))
