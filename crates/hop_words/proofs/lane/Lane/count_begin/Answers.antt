use Rattle.std.proofs.Common.{ℕ, ◌+◌, ◌%◌, ◌^◌, sym, subst}
use Rattle.hop_layout.specs.declared.place.Place.TheVariants.{RunCount}
use Rattle.hop_words.specs.Private.Step.{Steps}
use Rattle.bpf_shared.specs.declared.events.Event.TheVariants.{Begin}
use Rattle.hop_words.specs.Kinds.{AddsEvent}
use Rattle.hop_words.proofs.Turns.{count_begin}
use Rattle.hop_words.proofs.lane.Lane.count_begin.Goals as goal

pub add_by-requires-clause-step : goal.add_by-requires-clause-step
add_by-requires-clause-step c = subst (λ (d : ℕ). Steps c.args.table.now.about c.args.self.now.known (RunCount d) (λ n. (n + 1) % 2 ^ 64)
    (λ ws n l. AddsEvent c.args.table.now.about c.args.self.now.known Begin l)) (sym c.requires.own)
    (count_begin c.args.table.now.about c.args.self.now.known c.requires.idle c.requires.room)
