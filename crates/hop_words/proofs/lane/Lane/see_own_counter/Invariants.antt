use Rattle.std.specs.Prelude.{◌≡◌}
use Rattle.hop_words.specs.Kinds.{run_count}
use Rattle.hop_words.proofs.lane.Lane.see_own_counter.Given as goal

abbrev pub ghosts-load_by : goal.ghosts-load_by
ghosts-load_by a = record { told = λ n l. (n ≡ run_count a.table.now.about a.self.now.known) × (l ≡ a.self.now.known) }
