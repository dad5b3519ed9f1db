use Rattle.std.specs.Prelude.{◌≡◌}
use Rattle.hop_words.specs.Ghost.{limbo_at}
use Rattle.hop_words.specs.Kinds.{retiring}
use Rattle.hop_words.specs.Owning.{tail_of}
use Rattle.hop_words.proofs.lane.Lane.retire_used.Given as goal

abbrev pub ghosts-store_by : goal.ghosts-store_by
ghosts-store_by a = record { told = λ n l. l ≡ retiring a.self.now.known a._said.0 a._said.1 (tail_of (limbo_at a.self.now.known.limbo a._said.0).used) }
