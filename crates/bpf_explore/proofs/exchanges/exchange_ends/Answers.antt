use Rattle.std.proofs.Common.{◌<◌, ◌∙◌, ℕ, length, sym, ap, subst, arith}
use Rattle.std.specs.Prelude.{slice_get}
use Rattle.bpf_machine.specs.Parts.{chosen}
use Rattle.bpf_machine.proofs.PartLaws.{chosen_count}
use Rattle.bpf_explore.proofs.ExchangeLaws.{all_exchanged, exchanged_within, next_exchanged, part_there}
use Rattle.bpf_explore.proofs.exchanges.exchange_ends.Goals as goal

pub loop-place-preserved : goal.loop-place-preserved
loop-place-preserved c =
    let place = c.loop-place.place in
    let from = c.exchanged_place-from.result in
    let parts = c.args.parts.now in
    let numbers = c.args.numbers.now in
    let jobs = chosen parts numbers in
    let here : place < length numbers = omega arith in
    let inside : from < length numbers = subst (λ (n : ℕ). n < length numbers) (sym c.exchanged_place-from.ensures)
    (exchanged_within c.args.one c.args.other (length numbers) place c.requires.one c.requires.other here) in
    let part = part_there parts numbers place c.index-parts-numbers.result here (c.requires.within place 0 here) c.index-parts-numbers.is in
    let other = part_there parts numbers from c.index-parts-numbers-in-loop-place.result inside (c.requires.within from 0 inside)
    c.index-parts-numbers-in-loop-place.is in
    next_exchanged c.args.one c.args.other jobs place c.loop-place.jobs.items c.push.new.self.items c.index-parts-numbers.result
    c.index-parts-numbers-in-loop-place.result c.in_ok-job.job c.loop-place.invariant part
    (ap (slice_get jobs) (sym c.exchanged_place-from.ensures) ∙ other) c.in_ok-job.ensures c.in_ok-push.ensures.items

pub returns : goal.returns
returns c = all_exchanged c.args.one c.args.other (chosen c.args.parts.now c.args.numbers.now) c.loop-place.place c.loop-place.jobs.items
    (let count = chosen_count c.args.parts.now c.args.numbers.now in omega arith) c.loop-place.invariant
