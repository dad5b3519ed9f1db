use Rattle.bpf_shared.specs.declared.events.Event.TheVariants.{Store}
use Rattle.bpf_shared.specs.declared.events.Size.TheVariants.{Double}
use Rattle.hop_words.specs.Kinds.{AddsEvent}
use Rattle.hop_words.specs.Touching.{fixed_part_address}
use Rattle.hop_words.proofs.lane.Lane.store_fixed.Given as goal

abbrev pub ghosts-store_by : goal.ghosts-store_by
ghosts-store_by a = record { told = λ n l. AddsEvent a.table.now.about a.self.now.known (Store (fixed_part_address a._said) Double n) l }
