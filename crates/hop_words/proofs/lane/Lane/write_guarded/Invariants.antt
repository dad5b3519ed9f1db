use Rattle.std.specs.Prelude.{◌≡◌}
use Rattle.hop_words.specs.Kinds.{writing}
use Rattle.hop_words.specs.Locking.{lock_of}
use Rattle.hop_words.proofs.lane.Lane.write_guarded.Given as goal

abbrev pub ghosts-store_by : goal.ghosts-store_by
ghosts-store_by a = record { told = λ n l. l ≡ writing a.table.now.about a.self.now.known (lock_of a.self.now.known) a.place a.new }
