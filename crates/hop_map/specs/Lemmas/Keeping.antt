-- What stays besides the words stays again: the laws that the trait of the words asks for.
use Rattle.std.proofs.Common.{refl, ap, ◌∙◌}
use Rattle.hop_words.specs.declared.known.Known.{Known}
use Rattle.hop_words.specs.declared.known.Lock.{Lock}
use Rattle.hop_words.specs.Locking.{lock_of}
use Rattle.hop_map.specs.LockedSegment.{Locked, Stays}
use Rattle.hop_map.specs.LockedSegment.{StaysBeside}

pub stays_itself : (x : Locked) → Stays x x
stays_itself x = record {
  table = refl;
  about = refl;
  map = refl;
  segment = refl;
  known = refl;
  lock = refl;
  child = refl;
}

pub stays_on : (x y z : Locked) → Stays x y → Stays y z → Stays x z
stays_on x y z p q = record {
  table = q.table ∙ p.table;
  about = q.about ∙ p.about;
  map = q.map ∙ p.map;
  segment = q.segment ∙ p.segment;
  known = q.known ∙ ap (λ (l : Known). record l { locks = z.known.locks }) p.known;
  lock = q.lock ∙ ap (λ (k : Lock).
      record k { copy = (lock_of z.known).copy; dirty = (lock_of z.known).dirty }) p.lock;
  child = q.child ∙ p.child;
}

pub stays_beside_on : (x y z : Locked) → StaysBeside x y → StaysBeside y z → StaysBeside x z
stays_beside_on x y z p q = record {
  table = q.table ∙ p.table;
  about = q.about ∙ p.about;
  map = q.map ∙ p.map;
  segment = q.segment ∙ p.segment;
  known = q.known ∙ ap (λ (l : Known). record l { locks = z.known.locks }) p.known;
  lock = q.lock ∙ ap (λ (k : Lock).
      record k { copy = (lock_of z.known).copy; dirty = (lock_of z.known).dirty }) p.lock;
}

pub stays_too : (x y : Locked) → Stays x y → StaysBeside x y
stays_too x y p = record {
  table = p.table;
  about = p.about;
  map = p.map;
  segment = p.segment;
  known = p.known;
  lock = p.lock;
}
