use Rattle.std.specs.Prelude.{◌≡◌}
use Rattle.hop_layout.specs.declared.place.Place.TheVariants.{Stamp}
use Rattle.hop_words.specs.Sights.{look, sighted}
use Rattle.hop_words.proofs.lane.Lane.look_at_stamp.Given as goal

abbrev pub ghosts-load_noted : goal.ghosts-load_noted
ghosts-load_noted a = record { told = λ n l. l ≡ sighted a.self.now.known (look (Stamp a._said.0 a._said.1) n) }
