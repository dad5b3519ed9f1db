use Rattle.std.proofs.Common.{◌≡◌, ◌<◌, List, Some, length, refl, sym, subst, arith}
use Rattle.std.specs.Prelude.{All, slice_get}
use Rattle.bpf_cpu.specs.Task.{Task}
use Rattle.bpf_machine.specs.Parts.{chosen}
use Rattle.bpf_machine.proofs.PartLaws.{chosen_count}
use Rattle.bpf_buffering.proofs.Ends.{more_ended, all_ended, one_open}
use Rattle.bpf_buffering.proofs.Pooling.{read_chosen}
use Rattle.bpf_buffering.proofs.pools.jobs.Jobs.have_ended.Goals as goal

pub returns-then-not-has_ended-clause-works : goal.returns-then-not-has_ended-clause-works
returns-then-not-has_ended-clause-works c is all =
    let m = c.self.inside in
    let ns = c.args.numbers.now in
    let j = c.loop-job.job in
    let x = c.index.result.now in
    let within = subst (λ (ts : List Task). All (λ n. n < length ts) ns) (sym c.self.view_is) c.requires in
    let at = subst (λ (ts : List Task). slice_get (chosen ts ns) j ≡ Some x) c.self.view_is
    (read_chosen m.kept.items ns j x (omega arith) within c.index.ensures) in
    one_open (chosen c.args.self.now ns) j x at (c.if-not-has_ended.ensures.going refl) all

pub loop-job-preserved : goal.loop-job-preserved
loop-job-preserved c =
    let m = c.self.inside in
    let ns = c.args.numbers.now in
    let j = c.loop-job.job in
    let x = c.index.result.now in
    let within = subst (λ (ts : List Task). All (λ n. n < length ts) ns) (sym c.self.view_is) c.requires in
    let at = subst (λ (ts : List Task). slice_get (chosen ts ns) j ≡ Some x) c.self.view_is
    (read_chosen m.kept.items ns j x (omega arith) within c.index.ensures) in
    more_ended (chosen c.args.self.now ns) j x at (c.if-not-has_ended.ensures.ended refl) c.loop-job.invariant

pub returns-clause-ended : goal.returns-clause-ended
returns-clause-ended c is =
    let count = chosen_count c.args.self.now c.args.numbers.now in
    all_ended (chosen c.args.self.now c.args.numbers.now) c.loop-job.job (omega (arith, count)) c.loop-job.invariant
