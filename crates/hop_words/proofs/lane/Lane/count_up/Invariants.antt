use Rattle.std.specs.Prelude.{◌≡◌, ◌≢◌}
use Rattle.hop_words.specs.Kinds.{Inserted}
use Rattle.hop_words.specs.Owning.{tail_of}
use Rattle.hop_words.specs.Locking.{lock_of, hand}
use Rattle.hop_words.proofs.lane.Lane.count_up.Given as goal

abbrev pub ghosts-exchange_by : goal.ghosts-exchange_by
ghosts-exchange_by a = record {
  told = λ n l. (n ≡ a.old → Inserted a.table.now.about a.self.now.known (lock_of a.self.now.known)
      (hand a.self.now.known) (tail_of a.self.now.known.fresh) a._said.now.key.now a._said.now.value.now a._said.now.flags l) ×
      (n ≢ a.old → l ≡ a.self.now.known);
}
