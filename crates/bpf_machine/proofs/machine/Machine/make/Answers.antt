use Rattle.std.proofs.Common.{ℕ, ◌<◌, List, length, vec_len, subst}
use Rattle.std.specs.Prelude.{All, IfOk, Result, Vec}
use Rattle.std.specs.declared.alloc.AllocError.{AllocError}
use Rattle.std.specs.declared.alloc.Global.{Global}
use Rattle.bpf_machine.specs.declared.machine.listing.KeyLists.{KeyLists}
use Rattle.bpf_machine.specs.Private.KeyLists.{AreAsked}
use Rattle.std.proofs.lemmas.List.Elements.{All-weaker}
use Rattle.bpf_plain.specs.PlainStore.{has_cpu, is_running, held_spans, shapes_of}
use Rattle.bpf_cpu.specs.declared.job.Job.{Job}
use Rattle.bpf_machine.specs.declared.machine.lane.Listed.{Listed}
use Rattle.bpf_machine.specs.Private.Lanes.{IsFirstJob, lane_of}
use Rattle.bpf_machine.proofs.KeyListLaws.{first_fit}
use Rattle.bpf_machine.proofs.MadeLaws.{made_tasks, made_board}
use Rattle.bpf_machine.proofs.machine.Machine.make.Goals as goal

pub invariant_of-result : goal.invariant_of-result
invariant_of-result c =
    let store = c.args.store in
    let programs = c.args.programs in
    let jobs = c.args.jobs.items in
    let list = c.list_jobs-listed.result.items in
    let lanes = c.make_lanes-lanes.result.items in
    let cpus = c.count_cpus-cpus.result in
    let P : List Listed → Type 0 = λ xs. (d : ℕ) → d < cpus → IsFirstJob xs d 0 (lane_of lanes d).next in
    let first = subst P c.deref-in-Ok-Ok.ensures.value c.make_lanes-lanes.ensures.first in
    let Q : List Job → Type 0 = λ xs. All (λ job. job.cpu < cpus) xs in
    let below : All (λ job. job.cpu < cpus) jobs = subst Q c.deref.ensures.value c.count_cpus-cpus.ensures.above in
    let loaded : All (λ job. job.program < length programs.items) jobs = All-weaker (λ job. job.program < vec_len programs)
    (λ job. job.program < length programs.items) (λ job fits. subst (λ (n : ℕ). job.program < n) programs.ok.0 fits) jobs
    c.requires.programs in
    let have = subst (λ (r : Result (Vec KeyLists Global) AllocError). IfOk r
    (λ v. AreAsked (shapes_of store) c.deref-2.result.now c.args.keys v.items)) c.in-Ok-Ok.is-1 c.make_asked-asked.ensures.have in
    let asked = subst (λ (js : List Job). AreAsked (shapes_of store) js c.args.keys c.in-Ok-Ok.lists.items) c.deref-2.ensures.value have in (
      made_board (has_cpu store) (is_running store) (held_spans store) programs.items jobs list lanes c.list_jobs-listed.ensures cpus
          c.make_lanes-lanes.ensures.count c.make_lanes-lanes.ensures.idle first c.requires.idle below c.requires.cpus loaded c.requires.inputs,
      first_fit (shapes_of store) jobs list c.args.keys c.in-Ok-Ok.lists.items c.list_jobs-listed.ensures asked,
    )

pub returns-in-Ok-Ok-clause-jobs : goal.returns-in-Ok-Ok-clause-jobs
returns-in-Ok-Ok-clause-jobs c =
    let store = c.args.store in
    made_tasks (has_cpu store) (is_running store) (held_spans store) c.args.programs.items c.args.jobs.items c.list_jobs-listed.result.items
    c.make_lanes-lanes.result.items c.list_jobs-listed.ensures
