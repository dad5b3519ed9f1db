use Rattle.std.specs.Prelude.{◌≡◌}
use Rattle.hop_layout.specs.Layout.{mem}
use Rattle.hop_words.specs.Locking.{lock_of}
use Rattle.hop_words.specs.Guarded.{IsGuarded}
use Rattle.hop_words.proofs.lane.Lane.read_guarded.Given as goal

abbrev pub ghosts-load_by : goal.ghosts-load_by
ghosts-load_by a = record {
  told = λ n l. (IsGuarded a.table.now.about a.self.now.known a.place → n ≡ mem a.table.now.about.shape
      (lock_of a.self.now.known).copy a.place) × (l ≡ a.self.now.known);
}
