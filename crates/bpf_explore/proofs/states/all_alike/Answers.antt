use Rattle.std.proofs.Common.{refl, arith}
use Rattle.bpf_machine.specs.Parts.{chosen_at}
use Rattle.bpf_explore.proofs.StateLaws.{all_alike_below, chosen_there, next_alike}
use Rattle.bpf_explore.proofs.states.all_alike.Goals as goal

pub loop-job-preserved : goal.loop-job-preserved
loop-job-preserved c =
    let parts = c.args.parts.now in
    let numbers = c.args.numbers.now in
    let job = c.loop-job.job in
    let before = c.loop-job.invariant in
    record {
      count = before.count;
      far = λ programs right loaded. (
          let there = loaded job (chosen_at parts numbers job) (chosen_there parts numbers job (omega arith)) in
          next_alike programs parts numbers c.args.others.now job (before.far programs right loaded)
          (c.if-not-is_like_part.ensures.like refl programs there.0 right there.1));
    }

pub returns-clause-alike : goal.returns-clause-alike
returns-clause-alike c is programs right loaded = all_alike_below programs c.args.parts.now c.args.numbers.now c.args.others.now
    c.loop-job.invariant.count (λ k less. c.loop-job.invariant.far programs right loaded k (omega arith))
