use Rattle.bpf_base.specs.declared.atomic.Change.TheVariants.{Add, Or, And, Xor, Exchange, CompareExchange}
use Rattle.bpf_shared.specs.declared.events.Event.TheVariants.{Atomic}
use Rattle.bpf_shared.specs.declared.events.Size.TheVariants.{Double}
use Rattle.hop_words.specs.Kinds.{AddsEvent}
use Rattle.hop_words.specs.Touching.{part_address}
use Rattle.hop_words.proofs.lane.Lane.change_value.Given as goal

abbrev pub ghosts-add_by : goal.ghosts-add_by
ghosts-add_by a = record {
  told = λ n l. AddsEvent a.table.now.about a.self.now.known
      (Atomic (part_address a.table.now.about a._said.0) Double Add a._said.1 a._said.2 n) l;
}

abbrev pub ghosts-or_by : goal.ghosts-or_by
ghosts-or_by a = record {
  told = λ n l. AddsEvent a.table.now.about a.self.now.known
      (Atomic (part_address a.table.now.about a._said.0) Double Or a._said.1 a._said.2 n) l;
}

abbrev pub ghosts-and_by : goal.ghosts-and_by
ghosts-and_by a = record {
  told = λ n l. AddsEvent a.table.now.about a.self.now.known
      (Atomic (part_address a.table.now.about a._said.0) Double And a._said.1 a._said.2 n) l;
}

abbrev pub ghosts-xor_by : goal.ghosts-xor_by
ghosts-xor_by a = record {
  told = λ n l. AddsEvent a.table.now.about a.self.now.known
      (Atomic (part_address a.table.now.about a._said.0) Double Xor a._said.1 a._said.2 n) l;
}

abbrev pub ghosts-swap_by : goal.ghosts-swap_by
ghosts-swap_by a = record {
  told = λ n l. AddsEvent a.table.now.about a.self.now.known
      (Atomic (part_address a.table.now.about a._said.0) Double Exchange a._said.1 a._said.2 n) l;
}

abbrev pub ghosts-exchange_by : goal.ghosts-exchange_by
ghosts-exchange_by a = record {
  told = λ n l. AddsEvent a.table.now.about a.self.now.known
      (Atomic (part_address a.table.now.about a._said.0) Double CompareExchange a._said.1 a._said.2 n) l;
}
