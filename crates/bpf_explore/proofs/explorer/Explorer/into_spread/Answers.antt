use Rattle.bpf_explore.proofs.RunsLaws.{strict_runs}
use Rattle.bpf_explore.proofs.explorer.Explorer.into_spread.Goals as goal

pub new-requires-clause-runs : goal.new-requires-clause-runs
new-requires-clause-runs c = strict_runs
