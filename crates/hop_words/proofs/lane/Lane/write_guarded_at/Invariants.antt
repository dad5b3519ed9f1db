use Rattle.std.specs.Prelude.{◌≡◌}
use Rattle.hop_words.specs.Kinds.{writing}
use Rattle.hop_words.specs.Locking.{lock_of}
use Rattle.hop_words.proofs.lane.Lane.write_guarded_at.Given as goal

abbrev pub ghosts-store_at : goal.ghosts-store_at
ghosts-store_at a = record { told = λ n l. l ≡ writing a.table.now.about a.self.now.known (lock_of a.self.now.known) a.place a.new }
