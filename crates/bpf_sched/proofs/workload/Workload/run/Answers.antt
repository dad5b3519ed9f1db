use Rattle.std.proofs.Common.{◌≡◌, ℕ, List, ◌++◌, length, map, refl, sym, ap, subst, ◌∙◌}
use Rattle.std.specs.Prelude.{vec_len}
use Rattle.std.proofs.lemmas.List.{length-map}
use Rattle.bpf_base.proofs.Lists.{filled}
use Rattle.bpf_shared.specs.declared.events.Event.{Event}
use Rattle.bpf_shared.specs.declared.shapes.MapShape.{MapShape}
use Rattle.bpf_shared.specs.Chain.{Chain}
use Rattle.bpf_shared.specs.KeyOrder.{Listed}
use Rattle.bpf_sched.specs.Explained.{keys_events}
use Rattle.bpf_sched.specs.Working.{RunsAndLists}
use Rattle.bpf_sched.proofs.workload.Workload.run.Goals as goal

pub returns-clause-runs : goal.returns-clause-runs
returns-clause-runs g c =
    let S = g.S.Shared in
    let cpu = c.args.self.now.cpu in
    let new = c.list_keys.new.lists in
    let v = c.run_jobs.new.self.lists in
    let long : length new ≡ vec_len v = sym (length-map new (λ (list : Listed). list.shape)) ∙
    (ap (length {A = MapShape}) c.list_keys.ensures.lists ∙ (length-map c.deref_mut.result.now (λ (list : Listed). list.shape) ∙
    c.deref_mut.ensures.len)) in
    let items = filled (vec_len v) new v.items long in
    let found = map (λ (list : Listed). list.keys) new in
    let ran = c.run_jobs.ensures.runs in
    let chain : Chain S.passes S.serves cpu c.run_jobs.new.shared c.list_keys.new.shared (keys_events 0 found) =
    subst (λ (k : ℕ). Chain S.passes S.serves k c.run_jobs.new.shared c.list_keys.new.shared (keys_events 0 found))
    c.run_jobs.ensures.same.0 c.list_keys.ensures.chain in
    let P : List Listed → Type 0 = λ ls. (events : List Event) × RunsAndLists (Chain S.passes S.serves cpu) (λ x. S.may_wear x cpu)
    (S.shapes c.args.shared.now) c.args.programs.now c.args.shared.now c.args.self.now.jobs.items c.run_jobs.new.self.jobs.items
    (map (λ list. list.keys) ls) events c.list_keys.new.shared in
    subst P (sym items) (ran.0 ++ keys_events 0 found, record { ran = ran.0; cut = refl; last = c.run_jobs.new.shared; runs = ran.1; way = chain })
