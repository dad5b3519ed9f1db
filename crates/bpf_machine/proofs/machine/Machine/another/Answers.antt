use Rattle.std.proofs.Common.{◌≡◌, ℕ, ◌<◌, ap, length, map, subst, sym, true, ◌∙◌, vec_len}
use Rattle.std.specs.Prelude.{All, List}
use Rattle.bpf_loader.specs.Loaded.{Loaded}
use Rattle.bpf_plain.specs.PlainStore.{has_cpu}
use Rattle.bpf_cpu.specs.Input.{IsShort}
use Rattle.bpf_cpu.specs.declared.job.Job.{Job}
use Rattle.bpf_machine.specs.declared.machine.lane.Listed.{Listed}
use Rattle.bpf_machine.specs.Machine.{MachineState}
use Rattle.bpf_machine.specs.Private.Lanes.{empty_job}
use Rattle.bpf_machine.proofs.AnotherLaws.{all_served, all_loaded, all_short, no_lists}
use Rattle.bpf_machine.proofs.machine.Machine.another.Goals as goal

pub new-requires-clause-cpus : goal.new-requires-clause-cpus
new-requires-clause-cpus c =
    let m = c.self.inside in
    let made = c.in_ok-jobs.ensures ∙ ap (λ (xs : List Listed). map empty_job xs) c.deref-2.ensures.value in
    let P : List Job → Type 0 = All (λ job. has_cpu c.args.store job.cpu ≡ true) in
    subst P (sym made) (all_served (has_cpu m.store) m.programs.items m.lanes.items m.jobs.items c.self.invariant.0.each_job (has_cpu c.args.store)
    (λ k. c.requires.cpus k ∙ ap (λ (s : MachineState). has_cpu s.store k) (sym c.self.view_is)))

pub new-requires-clause-programs : goal.new-requires-clause-programs
new-requires-clause-programs c =
    let m = c.self.inside in
    let copies = c.in_ok-programs.programs in
    let made = c.in_ok-jobs.ensures ∙ ap (λ (xs : List Listed). map empty_job xs) c.deref-2.ensures.value in
    let P : List Job → Type 0 = All (λ job. job.program < length m.programs.items) in
    let same : copies.items ≡ m.programs.items = c.in_ok-programs.ensures ∙ c.deref.ensures.value in
    let count : length m.programs.items ≡ vec_len copies = ap (λ (xs : List Loaded). length xs) (sym same) ∙ sym copies.ok.0 in
    subst (λ (n : ℕ). All (λ (job : Job). job.program < n) c.in_ok-jobs.jobs.items) count
    (subst P (sym made) (all_loaded (has_cpu m.store) m.programs.items m.lanes.items m.jobs.items c.self.invariant.0.each_job))

pub new-requires-clause-inputs : goal.new-requires-clause-inputs
new-requires-clause-inputs c =
    let made = c.in_ok-jobs.ensures ∙ ap (λ (xs : List Listed). map empty_job xs) c.deref-2.ensures.value in
    subst (All (λ job. IsShort job.input)) (sym made) (all_short c.self.inside.jobs.items)

pub returns-in-Ok-clause-lists : goal.returns-in-Ok-clause-lists
returns-in-Ok-clause-lists c = no_lists c.in-Ok.machine.lists c.in-Ok.ensures.lists
