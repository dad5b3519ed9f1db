use Rattle.std.specs.Prelude.{◌≡◌}
use Rattle.hop_layout.specs.Home.{hash_of}
use Rattle.hop_layout.proofs.hash.home.Given as goal

abbrev pub invariant-words : goal.invariant-words
invariant-words l = l.hash ≡ hash_of l.seed l.key l.word
