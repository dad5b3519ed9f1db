use Rattle.std.proofs.Common.{◌≡◌, ◌-◌, ◌+◌, suc, ℕ, length, drop, map, subst, refl, arith}
use Rattle.std.specs.Prelude.{All}
use Rattle.bpf_threads.specs.Threads.{IsReadWhole}
use Rattle.bpf_threads.proofs.Adding.{all_more}
use Rattle.bpf_cpu.specs.Task.{waiting}
use Rattle.bpf_threads.proofs.threads.are_read_whole.Goals as goal

pub loop-behind-preserved : goal.loop-behind-preserved
loop-behind-preserved c =
    let jobs = c.args.jobs.now in
    let behind = c.loop-behind.behind in
    let i = length jobs - 1 - behind in
    let P = IsReadWhole c.args.shape.now c.args.programs.now in
    let up : length jobs - behind ≡ suc i = omega arith in
    let down : i ≡ length jobs - (behind + 1) = omega arith in
    let rest = subst (λ (k : ℕ). All P (map waiting (drop k jobs))) up c.loop-behind.invariant in
    subst (λ (k : ℕ). All P (map waiting (drop k jobs))) down (all_more P jobs i c.job_at-job.result.now c.job_at-job.ensures
    (c.if-not-program_reads_whole.ensures refl) rest)

pub returns : goal.returns
returns c t =
    let jobs = c.args.jobs.now in
    let zero : length jobs - c.loop-behind.behind ≡ 0 = omega arith in
    subst (λ (k : ℕ). All (IsReadWhole c.args.shape.now c.args.programs.now) (map waiting (drop k jobs))) zero c.loop-behind.invariant
