use Rattle.std.proofs.Common.{◌≡◌, ◌≤◌, ℕ, List, Some, subst}
use Rattle.std.specs.Prelude.{slice_get}
use Rattle.bpf_cpu.specs.Task.{Task}
use Rattle.bpf_explore.specs.Album.{AlbumState, HaveBudgets}
use Rattle.bpf_explore.proofs.AlbumLaws.{shelf_of}
use Rattle.bpf_explore.proofs.EachLaws.{have_budgets}
use Rattle.bpf_explore.proofs.album.Album.least_budget.Goals as goal

pub returns : goal.returns
returns c =
    let m = c.self.inside in
    let shelf = shelf_of m.machine.programs m.stores m.parts m.states.tuples in
    let all = subst (λ (ts : List Task). (n : ℕ) (task : Task) → slice_get ts n ≡ Some task → c.least_budget.result ≤ task.budget)
    c.jobs.ensures c.least_budget.ensures in
    subst (λ (a : AlbumState). HaveBudgets a.kept c.least_budget.result) c.self.view_is (have_budgets shelf c.least_budget.result c.self.invariant.0.states all)
