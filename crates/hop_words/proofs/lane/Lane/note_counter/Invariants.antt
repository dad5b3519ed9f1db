use Rattle.std.specs.Prelude.{◌≡◌}
use Rattle.hop_words.specs.Kinds.{noting_next}
use Rattle.hop_words.proofs.lane.Lane.note_counter.Given as goal

abbrev pub ghosts-load_by : goal.ghosts-load_by
ghosts-load_by a = record { told = λ n l. l ≡ noting_next a.self.now.known a._said n }
