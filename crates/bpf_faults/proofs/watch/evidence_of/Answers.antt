use Rattle.std.proofs.Common.{rules, ◌≡◌, ℕ, List, [], subst}
use Rattle.std.specs.Prelude.{map}
use Rattle.bpf_cpu.specs.declared.job.Job.{Job}
use Rattle.bpf_cpu.specs.Task.{Task, waiting}
use Rattle.bpf_jobs.specs.Printed.{first_world}
use Rattle.bpf_faults.specs.declared.evidence.Sizes.{Sizes}
use Rattle.bpf_faults.specs.Evidence.{AreSizes}
use Rattle.bpf_faults.specs.Private.{AreWatched}
use Rattle.bpf_faults.proofs.Watching.{watched_first}
use Rattle.bpf_pairs.specs.Pairs.{pair_of}
use Rattle.bpf_faults.proofs.watch.evidence_of.Goals as goal

pub watch-requires-clause-watched : goal.watch-requires-clause-watched
watch-requires-clause-watched c =
    let jobs : c.deref.result.now ≡ c.args.setup.jobs.items = search rules in
    let sizes : c.in_ok-sizes.sizes.items ≡ c.deref-2.result.now = search rules in
    let P : List Job → Type 0 = λ jobs. AreSizes (map waiting jobs) c.in_ok-sizes.sizes.items in
    let Q : List Sizes → Type 0 = λ sizes. AreSizes (map waiting c.args.setup.jobs.items) sizes in
    let R : List Task → Type 0 = λ tasks. AreWatched tasks c.deref-2.result.now [] in
    subst R c.in_ok-machine.ensures.jobs (watched_first c.args.setup.jobs.items c.deref-2.result.now (subst Q sizes (subst P jobs c.in_ok-sizes.ensures)))

pub returns-clause-shown : goal.returns-clause-shown
returns-clause-shown c = c.in_ok-findings.ensures.shown (first_world c.args.setup.shape (map pair_of c.args.setup.pairs.items)
    c.args.setup.programs.items (map waiting c.args.setup.jobs.items)) c.in_ok-machine.ensures

pub returns-clause-all : goal.returns-clause-all
returns-clause-all c = c.in_ok-findings.ensures.all (first_world c.args.setup.shape (map pair_of c.args.setup.pairs.items)
    c.args.setup.programs.items (map waiting c.args.setup.jobs.items)) c.in_ok-machine.ensures
