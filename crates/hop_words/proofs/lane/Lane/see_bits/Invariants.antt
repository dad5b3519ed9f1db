use Rattle.std.specs.Prelude.{◌≡◌}
use Rattle.hop_layout.specs.declared.place.Place.TheVariants.{FreeBits}
use Rattle.hop_words.specs.Sights.{look, sighted}
use Rattle.hop_words.proofs.lane.Lane.see_bits.Given as goal

abbrev pub ghosts-load_noted : goal.ghosts-load_noted
ghosts-load_noted a = record { told = λ n l. l ≡ sighted a.self.now.known (look (FreeBits a._said.0 a._said.1) n) }
