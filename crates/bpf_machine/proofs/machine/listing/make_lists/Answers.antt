use Rattle.std.proofs.Common.{◌≡◌, false, ◌∷◌, [], ◌++◌, ◌<◌, length, ap, ◌∙◌, refl, arith}
use Rattle.std.proofs.lemmas.List.{length-append}
use Rattle.bpf_cpu.specs.declared.job.Job.{Job}
use Rattle.bpf_plain.specs.PlainStore.{shapes_of}
use Rattle.bpf_machine.specs.declared.machine.listing.KeyLists.{KeyLists}
use Rattle.bpf_machine.proofs.MadeLaws.{all_at}
use Rattle.bpf_machine.proofs.KeyListLaws.{one_more_first, one_more_cpu}
use Rattle.bpf_machine.proofs.machine.listing.make_lists.Goals as goal

pub loop-cpu-preserved : goal.loop-cpu-preserved
loop-cpu-preserved c =
    let all = c.loop-cpu.all.items in
    let here = c.loop-cpu.invariant in
    let one : KeyLists = record { maps = c.in_ok-maps.maps; made = false } in
    let is : c.push.new.self.items ≡ all ++ one ∷ [] = c.in_ok-push.ensures.items in
    record {
      count = omega (arith, ap (length {A = KeyLists}) is, length-append all (one ∷ []), here.count);
      first = one_more_first all c.push.new.self.items one is here.first refl;
      have = λ j x at below.
          one_more_cpu all c.push.new.self.items one is (shapes_of c.args.store.now) c.args.jobs.now
          (λ k y there less. here.have k y there (omega (arith, here.count)))
          (λ k y there same. c.in_ok-maps.ensures k y there (same ∙ here.count)) j x at (omega (arith, here.count));
    }

pub returns-clause-have : goal.returns-clause-have
returns-clause-have c = λ j x at.
    let below : x.cpu < c.args.cpus = all_at (λ (y : Job). y.cpu < c.args.cpus) c.args.jobs.now j x c.requires.above at in
    c.loop-cpu.invariant.have j x at (omega arith)
