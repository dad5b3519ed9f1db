use Rattle.std.specs.Prelude.{◌≡◌}
use Rattle.hop_layout.specs.Layout.{mem}
use Rattle.hop_words.specs.Locking.{lock_of}
use Rattle.hop_words.specs.Guarded.{IsGuarded}
use Rattle.hop_words.proofs.lane.Lane.read_guarded_at.Given as goal

abbrev pub ghosts-load_at : goal.ghosts-load_at
ghosts-load_at a = record {
  told = λ n l. (IsGuarded a.table.now.about a.self.now.known a.place → n ≡ mem a.table.now.about.shape
      (lock_of a.self.now.known).copy a.place) × (l ≡ a.self.now.known);
}
