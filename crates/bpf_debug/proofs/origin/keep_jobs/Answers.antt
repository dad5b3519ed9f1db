use Rattle.std.proofs.Common.{ℕ, List, ◌∷◌, ◌++◌, [], ◌+◌, sym, subst}
use Rattle.bpf_cpu.specs.Task.{Task}
use Rattle.bpf_debug.proofs.OriginLaws.{Kept, kept_more}
use Rattle.bpf_debug.proofs.origin.keep_jobs.Goals as goal

pub loop-job-preserved : goal.loop-job-preserved
loop-job-preserved c =
    let all = c.args.machine.now.jobs in
    let jobs = c.loop-job.jobs.items in
    let numbers = c.loop-job.numbers.items in
    let job = c.loop-job.job in
    let one = c.in_ok-kept_job.field-0 in
    let J : List Task → Type 0 = λ ts. Kept all ts c.push.new.self.items (job + 1) in
    let N : List ℕ → Type 0 = λ ns. Kept all (jobs ++ one ∷ []) ns (job + 1) in
    let D : ℕ → Type 0 = λ n. Kept all (jobs ++ one ∷ []) (numbers ++ n ∷ []) (job + 1) in
    subst J (sym c.in_ok-push-2.ensures.items) (subst N (sym c.in_ok-push.ensures.items)
    (subst D (sym c.in_ok-number.ensures) (kept_more all jobs numbers job one c.loop-job.invariant c.in_ok-kept_job.ensures)))
