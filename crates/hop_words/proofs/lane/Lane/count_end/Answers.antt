use Rattle.std.proofs.Common.{ℕ, ◌+◌, ◌%◌, ◌^◌, sym, subst}
use Rattle.hop_layout.specs.declared.place.Place.TheVariants.{RunCount}
use Rattle.hop_words.specs.Private.Step.{Steps}
use Rattle.bpf_shared.specs.declared.events.Event.TheVariants.{End}
use Rattle.hop_words.specs.Kinds.{AddsEvent}
use Rattle.hop_words.proofs.Turns.{count_end}
use Rattle.hop_words.proofs.lane.Lane.count_end.Goals as goal

pub add_by-requires-clause-step : goal.add_by-requires-clause-step
add_by-requires-clause-step c = subst (λ (d : ℕ). Steps c.args.table.now.about c.args.self.now.known (RunCount d) (λ n. (n + 1) % 2 ^ 64)
    (λ ws n l. AddsEvent c.args.table.now.about c.args.self.now.known End l)) (sym c.cpu-cpu.ensures)
    (count_end c.args.table.now.about c.args.self.now.known c.requires.empty c.requires.running c.requires.room)
