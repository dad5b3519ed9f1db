use Rattle.std.proofs.Common.{◌≡◌, ℕ, Bool, List, [], map, ap, sym, subst, ◌∙◌}
use Rattle.bpf_shared.specs.declared.events.Entry.{Entry}
use Rattle.bpf_cpu.specs.Task.{waiting}
use Rattle.hop_words.specs.Inside.{Shown}
use Rattle.hop_map.specs.Stores.{ArePorts}
use Rattle.bpf_sched.specs.Explained.{IsExplained}
use Rattle.bpf_sched.specs.Worked.{listed_by}
use Rattle.bpf_sched.proofs.FirstRun.{new_ports, nothing_seen}
use Rattle.hop_layout.specs.declared.about.About.{About}
use Rattle.bpf_sched.specs.Refusing.{IsFirstSchedError}
use Rattle.bpf_sched.proofs.jobs.run_jobs.Goals as goal

pub returns-in-Err-clause-refused : goal.returns-in-Err-clause-refused
returns-in-Err-clause-refused g c =
    let has : c.cpus-cpus.result ≡ c.args.store.table.about.shape.cpus = c.cpus-cpus.ensures.cpus ∙ ap (λ (a : About). a.shape.cpus) c.about.ensures in
    subst (λ (n : ℕ). IsFirstSchedError n c.args.asked.now.workers c.args.asked.now.jobs.now c.in-Err.error) has c.in-Err.ensures.refused

pub run_ports-requires-clause-ports : goal.run_ports-requires-clause-ports
run_ports-requires-clause-ports g c κs within = new_ports c.ports-table.result.0 c.ports-table.result.1.items
    (subst (λ (t : Shown). ArePorts t c.ports-table.result.1.items) (sym c.ports-table.ensures.table) c.ports-table.ensures.ports)

pub returns-clause-explained : goal.returns-clause-explained
returns-clause-explained g c =
    let r = c.run_ports.result in
    let Explained : Shown → List Entry → Bool → Type 0 = λ t first keys. IsExplained t.about.shape t.about.count first c.args.asked.now.programs.now
    (map waiting c.args.asked.now.jobs.now) keys r.outcomes.items (listed_by r.lists.items) r.closed.history in
    let ports = c.ports-table.result.1.items in
    subst (λ (t : Shown). Explained t [] c.args.asked.now.keys) c.ports-table.ensures.table
    (subst (λ (keys : Bool). Explained c.ports-table.result.0 [] keys) c.in-Ok.ensures.keys
    (subst (λ (first : List Entry). Explained c.ports-table.result.0 first c.in-Ok.room.keys)
    (nothing_seen c.args.store.table ports c.ports-table.ensures.ports) c.run_ports.ensures.explained))
