use Rattle.std.specs.Prelude.{◌≡◌, ◌<◌, ℕ, true}
use Rattle.hop_layout.specs.declared.place.Place.TheVariants.{KeyWord}
use Rattle.hop_layout.specs.Layout.{mem}
use Rattle.hop_layout.specs.Words.{word_of}
use Rattle.hop_words.specs.Locking.{lock_of}
use Rattle.hop_map.specs.LockedSegment.{knows}
use Rattle.hop_map.proofs.locked.LockedWords.spells.Given as goal

abbrev pub invariant-words : goal.invariant-words
invariant-words l = record {
  same : l.self ≡ l.fn.self;
  spelled : knows l.fn.self.known l.fn.self.map l.element ≡ true → (j : ℕ) → j < l.word → mem l.fn.self.about.shape
      (lock_of l.fn.self.known).copy (KeyWord l.fn.self.map l.element j) ≡ word_of l.key j;
}
