use Rattle.std.proofs.Common.{◌≡◌, ◌≤◌, ◌∙◌, sym, ap, length, rules, subst}
use Rattle.std.specs.Prelude.{vec_len}
use Rattle.bpf_base.proofs.Lists.{filled}
use Rattle.bpf_shared.specs.History.{IsLegal}
use Rattle.hop_layout.specs.declared.about.About.{About}
use Rattle.bpf_sched.proofs.Crews.{many}
use Rattle.bpf_sched.proofs.Finishing.{ready, run, have_ports, all_of, explained}
use Rattle.bpf_sched.proofs.crew.run_ports.Goals as goal

pub equip-requires : goal.equip-requires
equip-requires g c =
    let whole : vec_len c.args.ports ≡ length c.args.ports.items = search rules in
    whole ∙ (many c.args.table c.args.asked.now.jobs.now c.args.asked.now.programs.now c.args.ports.items c.requires.ports c.args.room.workers.items
    c.requires.assigned c.requires.programs
    ∙ (sym c.requires.assigned.size ∙ sym (ap length c.deref_mut.ensures.value)))

pub work_all-requires-clause-ready : goal.work_all-requires-clause-ready
work_all-requires-clause-ready g c κs within = ready c.args.table c.args.asked.now.jobs.now c.args.asked.now.programs.now c.args.ports.items c.requires.ports
    c.args.room.workers.items c.requires.assigned c.requires.programs c.deref_mut.result.now c.equip.new.workers
    (vec_len c.args.room.workers) c.deref_mut.ensures.value c.deref_mut.ensures.len c.equip.ensures.size c.equip.ensures.ports
    c.equip.ensures.workloads (subst (λ (a : About). length a.shape.maps ≤ 16) c.about-2.ensures c.maps-maps.ensures.in_range.count)
    c.deref_mut-2.result.now c.deref_mut-2.ensures.value

pub note_all-requires-clause-work : goal.note_all-requires-clause-work
note_all-requires-clause-work g c = run c.args.table c.args.asked.now.jobs.now c.args.asked.now.programs.now c.args.ports.items c.requires.ports
    c.args.room.workers.items c.requires.assigned c.requires.programs c.deref_mut.result.now c.equip.new.workers
    (vec_len c.args.room.workers) c.deref_mut.ensures.value c.deref_mut.ensures.len c.equip.ensures.size c.equip.ensures.ports
    c.equip.ensures.workloads c.deref_mut-2.result.now c.deref_mut-2.ensures.value c.work_all.new.workers c.work_all.ensures.size
    c.work_all.ensures.worked c.deref.result.now c.deref.ensures.value

pub dismiss-ports-requires-clause-ports : goal.dismiss-ports-requires-clause-ports
dismiss-ports-requires-clause-ports g c = have_ports c.args.table c.args.asked.now.jobs.now c.args.asked.now.programs.now c.args.ports.items c.requires.ports
    c.args.room.workers.items c.requires.assigned c.requires.programs c.deref_mut.result.now c.equip.new.workers
    (vec_len c.args.room.workers) c.deref_mut.ensures.value c.deref_mut.ensures.len c.equip.ensures.size c.equip.ensures.ports
    c.equip.ensures.workloads c.deref_mut-2.result.now c.deref_mut-2.ensures.value c.work_all.new.workers c.work_all.ensures.size
    c.work_all.ensures.worked

pub gather-closed-requires : goal.gather-closed-requires
gather-closed-requires g c = record {
  all = all_of c.args.table c.args.asked.now.jobs.now c.args.asked.now.programs.now c.args.ports.items c.requires.ports
      c.args.room.workers.items c.requires.assigned c.requires.programs c.deref_mut.result.now c.equip.new.workers
      (vec_len c.args.room.workers) c.deref_mut.ensures.value c.deref_mut.ensures.len c.equip.ensures.size c.equip.ensures.ports
      c.equip.ensures.workloads c.deref_mut-2.result.now c.deref_mut-2.ensures.value c.work_all.new.workers c.work_all.ensures.size
      c.work_all.ensures.worked c.dismiss-ports.result.0.items c.dismiss-ports.ensures.ports;
}

pub returns-clause-explained : goal.returns-clause-explained
returns-clause-explained g c =
    let size = c.note_all.ensures.room ∙ c.deref_mut-3.ensures.len in
    explained c.args.table c.args.asked.now.jobs.now c.args.asked.now.programs.now c.args.ports.items c.requires.ports c.args.room.workers.items
    c.requires.assigned c.requires.programs c.deref_mut.result.now c.equip.new.workers (vec_len c.args.room.workers)
    c.deref_mut.ensures.value c.deref_mut.ensures.len c.equip.ensures.size c.equip.ensures.ports c.equip.ensures.workloads
    c.deref_mut-2.result.now c.deref_mut-2.ensures.value c.work_all.new.workers c.work_all.ensures.size c.work_all.ensures.worked
    c.dismiss-ports.result.0.items c.dismiss-ports.ensures.ports c.dismiss-ports.result.1.items c.dismiss-ports.ensures.lists
    c.gather-closed.result.history (subst (λ (a : About). IsLegal a.shape c.gather-closed.result.history) c.gather-closed.ensures.about
    c.gather-closed.ensures.legal) c.gather-closed.ensures.parts c.note_all.new.ends _
    (filled (vec_len c.args.room.ends) c.note_all.new.ends c.args.room.ends.items size) (size ∙ c.requires.ends)
    c.deref.result.now c.deref.ensures.value c.note_all.ensures.noted c.requires.cpus

pub returns-clause-last : goal.returns-clause-last
returns-clause-last g c =
    let last = c.gather-closed.ensures.last in
    (last.0, last.1, record { legal = last.2; causes = last.3 })
