use Rattle.bpf_machine.specs.Parts.{chosen}
use Rattle.bpf_explore.proofs.ExchangeLaws.{ExchangedBelow}
use Rattle.bpf_explore.proofs.exchanges.exchange_ends.Given as goal

abbrev pub invariant-loop-place : goal.invariant-loop-place
invariant-loop-place l = ExchangedBelow l.one l.other (chosen l.parts l.numbers) l.place l.jobs.items
