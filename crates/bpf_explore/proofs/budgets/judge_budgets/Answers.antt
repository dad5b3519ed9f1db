use Rattle.std.proofs.Common.{refl}
use Rattle.bpf_explore.proofs.HungLaws.{none_runs_out}
use Rattle.bpf_explore.proofs.budgets.judge_budgets.Goals as goal

pub returns-then-is_sparing-clause-suffice : goal.returns-then-is_sparing-clause-suffice
returns-then-is_sparing-clause-suffice c is =
    let s = c.if-is_sparing.ensures refl in
    none_runs_out c.args.turns.now.peers.items c.permuted_budgets_suffice.ensures c.args.explorer.now.kept c.deref.result.now s.0 s.1
