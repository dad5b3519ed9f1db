use Rattle.std.specs.Prelude.{◌≡◌}
use Rattle.hop_words.proofs.lane.Lane.look_at_fixed.Given as goal

abbrev pub ghosts-load_by : goal.ghosts-load_by
ghosts-load_by g a = record { told = λ n l. l ≡ a.self.now.known }
