use Rattle.std.specs.Prelude.{◌≡◌}
use Rattle.hop_words.specs.Ghost.{limbo_at}
use Rattle.hop_words.specs.Rule.{link_to}
use Rattle.hop_words.specs.Owning.{tail_of}
use Rattle.hop_words.proofs.lane.Lane.read_old_link.Given as goal

abbrev pub ghosts-load_by : goal.ghosts-load_by
ghosts-load_by a = record { told = λ n l. (n ≡ link_to (tail_of (limbo_at a.self.now.known.limbo a._said).old)) × (l ≡ a.self.now.known) }
