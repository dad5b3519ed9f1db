use Rattle.std.proofs.Common.{◌≡◌, ◌-◌, ◌+◌, suc, ℕ, length, drop, map, subst, arith}
use Rattle.bpf_threads.specs.Counting.{AddUp}
use Rattle.bpf_cpu.specs.Task.{waiting}
use Rattle.bpf_threads.proofs.threads.add_up.Goals as goal

pub loop-behind-preserved : goal.loop-behind-preserved
loop-behind-preserved c =
    let jobs = c.args.jobs.now in
    let behind = c.loop-behind.behind in
    let i = length jobs - 1 - behind in
    let up : length jobs - behind ≡ suc i = omega arith in
    let down : i ≡ length jobs - (behind + 1) = omega arith in
    let rest = subst (λ (k : ℕ). AddUp c.args.bounds.now (map waiting (drop k jobs)) c.loop-behind.sum) up c.loop-behind.invariant in
    subst (λ (k : ℕ). AddUp c.args.bounds.now (map waiting (drop k jobs)) c.in-Some.more) down (c.in-Some.ensures rest)
