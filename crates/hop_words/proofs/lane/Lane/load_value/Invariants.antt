use Rattle.bpf_shared.specs.declared.events.Event.TheVariants.{Load}
use Rattle.hop_words.specs.Kinds.{AddsEvent}
use Rattle.hop_words.specs.Touching.{part_address, found_part}
use Rattle.hop_words.proofs.lane.Lane.load_value.Given as goal

abbrev pub ghosts-load_by : goal.ghosts-load_by
ghosts-load_by a = record {
  told = λ n l. AddsEvent a.table.now.about a.self.now.known
      (Load (part_address a.table.now.about a._said) a._said.size (found_part a._said n)) l;
}
