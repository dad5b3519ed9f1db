use Rattle.std.specs.Prelude.{◌≡◌, ◌≢◌}
use Rattle.hop_words.specs.Kinds.{LocksSegment}
use Rattle.hop_words.proofs.lane.Lane.lock.Given as goal

abbrev pub ghosts-exchange_noted : goal.ghosts-exchange_noted
ghosts-exchange_noted a = record {
  told = λ n l. (n ≡ a.old → LocksSegment a.table.now.about a.self.now.known a._said.0 a._said.1 a.old l) ×
      (n ≢ a.old → l ≡ a.self.now.known);
}
