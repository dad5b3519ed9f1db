use Rattle.std.proofs.Common.{◌≡◌, Some, ap, sym, ◌∙◌, refl, subst}
use Rattle.hop_map.specs.Port.{Port, IsPortOf}
use Rattle.hop_cpu.specs.Serving.{Serving}
use Rattle.bpf_sched.proofs.Porting.{worked}
use Rattle.bpf_sched.proofs.worker.work.Goals as goal

pub returns : goal.returns
returns g c =
    let p = c.in-Some.port in
    let was : c.args.worker.now.port ≡ Some p = sym c.take.ensures.value ∙ c.in-Some.is in
    let same : Some c.requires.port ≡ Some p = sym c.requires.has ∙ was in
    let mine : p ≡ c.requires.port = cc in
    let y = c.run.new.shared in
    worked c.new-store.result y (λ x. x.store) c.args.table.now c.args.programs.now c.args.worker.now
    (record { port = Some c.into_port.result; workload = c.run.new.self }) p c.into_port.result c.run.ensures.runs.0
    was refl (ap (λ (s : Serving). s.table) c.new-store.ensures ∙ c.new.ensures.table) (ap (λ (s : Serving). s.port) c.new-store.ensures ∙ c.new.ensures.port)
    (ap (λ (r : Port). r.known.cpu) mine ∙ c.requires.cpu) (c.into_port.ensures.port ∙ ap (λ (s : Serving). s.port) c.into_store.ensures)
    (subst (λ (s : Serving). IsPortOf s.table c.into_port.result) c.into_store.ensures c.into_port.ensures.fits) c.run.ensures.runs.1 c.run.ensures.lists
