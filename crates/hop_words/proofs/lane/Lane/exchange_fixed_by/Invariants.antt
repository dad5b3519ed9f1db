use Rattle.std.specs.Prelude.{◌≡◌, ◌≢◌}
use Rattle.bpf_shared.specs.declared.events.Event.TheVariants.{Atomic}
use Rattle.hop_words.specs.Kinds.{AddsEvent}
use Rattle.hop_words.specs.Touching.{fixed_part_address, found_fixed}
use Rattle.hop_words.proofs.lane.Lane.exchange_fixed_by.Given as goal

abbrev pub ghosts-exchange_by : goal.ghosts-exchange_by
ghosts-exchange_by a = record {
  told = λ n l. (n ≡ a.old → AddsEvent a.table.now.about a.self.now.known
      (Atomic (fixed_part_address a._said.0) a._said.0.size a._said.1.op a._said.1.operand a._said.1.expected (found_fixed a._said.0 a.old)) l) ×
      (n ≢ a.old → l ≡ a.self.now.known);
}
