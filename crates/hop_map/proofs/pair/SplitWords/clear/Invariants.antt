use Rattle.std.specs.Prelude.{◌≡◌, ◌<◌, ℕ, None}
use Rattle.hop_map.specs.LockedSegment.{StaysBeside, child_front}
use Rattle.hop_map.specs.Private.LockedSegment.{seen_words}
use Rattle.hop_map.proofs.pair.SplitWords.clear.Given as goal

abbrev pub invariant-buckets : goal.invariant-buckets
invariant-buckets l = record {
  words : seen_words l.self ≡ seen_words l.fn.self;
  stays : StaysBeside l.fn.self l.self;
  head : (child_front l.self).head ≡ None;
  hop : (b : ℕ) → b < l.bucket → (child_front l.self).hop b ≡ 0;
  slot : (p : ℕ) → p < l.bucket → (child_front l.self).slot p ≡ None;
}
