use Rattle.bpf_shared.specs.declared.events.Event.TheVariants.{Update}
use Rattle.hop_words.specs.Kinds.{Answered}
use Rattle.hop_words.specs.Locking.{lock_of}
use Rattle.hop_words.proofs.lane.Lane.unlock_update.Given as goal

abbrev pub ghosts-unlock_by : goal.ghosts-unlock_by
ghosts-unlock_by a = record {
  told = λ n l. Answered a.table.now.about a.self.now.known (lock_of a.self.now.known)
      (Update a._said.0 a._said.1.now.key.now a._said.1.now.value.now a._said.1.now.flags a._said.2) l;
}
