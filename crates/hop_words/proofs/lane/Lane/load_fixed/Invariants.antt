use Rattle.bpf_shared.specs.declared.events.Event.TheVariants.{Load}
use Rattle.hop_words.specs.Kinds.{AddsEvent}
use Rattle.hop_words.specs.Touching.{fixed_part_address, found_fixed}
use Rattle.hop_words.proofs.lane.Lane.load_fixed.Given as goal

abbrev pub ghosts-load_by : goal.ghosts-load_by
ghosts-load_by a = record {
  told = λ n l. AddsEvent a.table.now.about a.self.now.known
      (Load (fixed_part_address a._said) a._said.size (found_fixed a._said n)) l;
}
