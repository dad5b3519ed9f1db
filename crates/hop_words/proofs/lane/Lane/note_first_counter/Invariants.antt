use Rattle.std.specs.Prelude.{◌≡◌}
use Rattle.hop_words.specs.Kinds.{ageing}
use Rattle.hop_words.proofs.lane.Lane.note_first_counter.Given as goal

abbrev pub ghosts-load_by : goal.ghosts-load_by
ghosts-load_by a = record { told = λ n l. l ≡ ageing a.self.now.known a._said n }
