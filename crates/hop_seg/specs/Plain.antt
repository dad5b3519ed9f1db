-- What the plain copy of a segment shows.
use Rattle.std.specs.Prelude.{◌%◌, true, [], ◌∷◌, None, slice_index, slice_index_or}
use Rattle.hop_seg.specs.declared.plain.PlainFront.{PlainFront}
use Rattle.hop_seg.specs.declared.plain.PlainSegment.{PlainSegment}
use Rattle.hop_seg.specs.Split.{Front}
use Rattle.hop_seg.specs.Words.{Words}

abbrev pub front_of : PlainFront → Front
front_of f = record {
  hop = slice_index f.hop;
  slot = λ p. slice_index_or f.slot p None;
  head = f.head;
}

abbrev pub plain_words : PlainSegment → Words
plain_words s = record {
  hop = slice_index s.front.hop;
  slot = λ p. slice_index_or s.front.slot p None;
  head = s.front.head;
  next = λ e. slice_index_or s.next e None;
  fixed = record {
    key = λ e. (e % 128) ∷ [];
    home = λ key. slice_index s.homes (slice_index key 0);
    known = λ e. true;
    limit = 256;
    segment = 0;
    depth = 0;
  };
}
