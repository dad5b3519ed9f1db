use Rattle.bpf_shared.specs.declared.events.Event.TheVariants.{Begin}
use Rattle.hop_words.specs.Kinds.{AddsEvent}
use Rattle.hop_words.proofs.lane.Lane.count_begin.Given as goal

abbrev pub ghosts-add_by : goal.ghosts-add_by
ghosts-add_by a = record { told = λ n l. AddsEvent a.table.now.about a.self.now.known Begin l }
