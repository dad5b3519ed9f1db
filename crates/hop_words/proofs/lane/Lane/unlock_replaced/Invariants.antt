use Rattle.hop_words.specs.Kinds.{Replaced}
use Rattle.hop_words.specs.Owning.{tail_of}
use Rattle.hop_words.specs.Locking.{lock_of}
use Rattle.hop_words.proofs.lane.Lane.unlock_replaced.Given as goal

abbrev pub ghosts-unlock_by : goal.ghosts-unlock_by
ghosts-unlock_by a = record {
  told = λ n l. Replaced a.table.now.about a.self.now.known (lock_of a.self.now.known)
      (tail_of a.self.now.known.fresh) a._said.0.now.key.now a._said.0.now.value.now a._said.0.now.flags a._said.1 l;
}
