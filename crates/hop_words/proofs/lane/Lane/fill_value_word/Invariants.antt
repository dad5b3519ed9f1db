use Rattle.std.specs.Prelude.{◌≡◌}
use Rattle.hop_words.specs.Owning.{with_value_word}
use Rattle.hop_words.proofs.lane.Lane.fill_value_word.Given as goal

abbrev pub ghosts-store_by : goal.ghosts-store_by
ghosts-store_by a = record { told = λ n l. l ≡ record a.self.now.known { fresh = with_value_word a.self.now.known.fresh n } }
