use Rattle.std.proofs.Common.{◌≡◌, ℕ, ◌<◌, true, length, vec_len, sym, ap, subst, ◌∙◌}
use Rattle.std.specs.Prelude.{All}
use Rattle.std.proofs.lemmas.List.Elements.{All-weaker}
use Rattle.bpf_plain.specs.PlainStore.{Contents, has_cpu, is_running}
use Rattle.bpf_cpu.specs.declared.job.Job.{Job}
use Rattle.bpf_buffering.specs.Waiting.{WaitingContents}
use Rattle.bpf_buffering.specs.Jobs.{tasks_of}
use Rattle.bpf_buffering.proofs.First.{all_wait, nothing_at, first_board}
use Rattle.bpf_buffering.proofs.buffering.Buffering.new.Goals as goal

pub invariant_of-result : goal.invariant_of-result
invariant_of-result c =
    let w = c.new-here.result in
    let programs = c.args.programs in
    let jobs = c.args.jobs.items in
    let is = c.new-here.ensures in
    let store : w.store ≡ c.args.store = ap (λ (x : WaitingContents). x.store) is in
    let served : All (λ (job : Job). has_cpu w.store job.cpu ≡ true) jobs = subst
    (λ (s : Contents). All (λ (job : Job). has_cpu s job.cpu ≡ true) jobs) (sym store) c.requires.cpus in
    let loaded : All (λ (job : Job). job.program < length programs.items) jobs = All-weaker (λ job. job.program < vec_len programs)
    (λ job. job.program < length programs.items) (λ job fits. subst (λ (n : ℕ). job.program < n) programs.ok.0 fits) jobs
    c.requires.programs in
    first_board jobs w programs.items c.in_ok-listed.listed.items c.in_ok-buffers.buffers.items c.cpus.result
    (ap (λ (x : WaitingContents). x.waiting) is) (λ k. ap (λ (s : Contents). is_running s k) store ∙ c.requires.idle k) served loaded
    c.in_ok-listed.ensures (λ k. ap (λ (s : Contents). has_cpu s k) store ∙ c.cpus.ensures k) c.in_ok-buffers.ensures.count c.in_ok-buffers.ensures.empty

pub returns-clause-store : goal.returns-clause-store
returns-clause-store c = ap (λ (x : WaitingContents). x.store) c.new-here.ensures

pub returns-clause-jobs : goal.returns-clause-jobs
returns-clause-jobs c = ap tasks_of c.in_ok-listed.ensures ∙ all_wait c.args.jobs.items

pub returns-clause-empty : goal.returns-clause-empty
returns-clause-empty c = nothing_at c.in_ok-buffers.buffers.items c.in_ok-buffers.ensures.empty
