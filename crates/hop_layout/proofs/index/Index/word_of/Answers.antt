use Rattle.std.proofs.Common.{ℕ, ◌+◌, ◌*◌, ap, sym, ◌∙◌}
use Rattle.hop_layout.specs.declared.index.Bases.{Bases}
use Rattle.hop_layout.specs.Layout.{at}
use Rattle.hop_layout.proofs.Indexes.{at_runs, at_bits, at_stamp, at_hop, at_slot, at_link, at_key, at_value, at_fixed}
use Rattle.hop_layout.proofs.index.Index.word_of.Goals as goal

pub returns-in-RunCount : goal.returns-in-RunCount
returns-in-RunCount c = record {
  word = ap (λ (n : ℕ). 8 * n) c.from.ensures ∙
      (sym (at_runs c.args.self.now.shape c.in-RunCount.cpu) ∙ ap (at c.args.self.now.shape) (sym c.in-RunCount.is));
}

pub returns-in-FreeBits : goal.returns-in-FreeBits
returns-in-FreeBits c = record {
  word = ap (λ (b : Bases). b.start + 8 + c.in-FreeBits.word) c.bases-in-FreeBits.ensures.bases ∙
      (sym (at_bits c.args.self.now.shape c.in-FreeBits.map c.in-FreeBits.word) ∙ ap (at c.args.self.now.shape) (sym c.in-FreeBits.is));
}

pub returns-in-Hop : goal.returns-in-Hop
returns-in-Hop c = record {
  word = ap (λ (n : ℕ). n + 2 + 2 * c.in-Hop.bucket)
      (c.segment-in-Hop.ensures.word ∙ at_stamp c.args.self.now.shape c.in-Hop.map c.in-Hop.segment) ∙
      (sym (at_hop c.args.self.now.shape c.in-Hop.map c.in-Hop.segment c.in-Hop.bucket) ∙ ap (at c.args.self.now.shape) (sym c.in-Hop.is));
}

pub returns-in-Slot : goal.returns-in-Slot
returns-in-Slot c = record {
  word = ap (λ (n : ℕ). n + 3 + 2 * c.in-Slot.place)
      (c.segment-in-Slot.ensures.word ∙ at_stamp c.args.self.now.shape c.in-Slot.map c.in-Slot.segment) ∙
      (sym (at_slot c.args.self.now.shape c.in-Slot.map c.in-Slot.segment c.in-Slot.place) ∙ ap (at c.args.self.now.shape) (sym c.in-Slot.is));
}

pub returns-in-Link : goal.returns-in-Link
returns-in-Link c = record {
  word = ap (λ (b : Bases). b.links + c.in-Link.element) c.bases-in-Link.ensures.bases ∙
      (sym (at_link c.args.self.now.shape c.in-Link.map c.in-Link.element) ∙ ap (at c.args.self.now.shape) (sym c.in-Link.is));
}

pub returns-in-KeyWord : goal.returns-in-KeyWord
returns-in-KeyWord c = record {
  word = ap (λ (b : Bases). b.keys + c.in-KeyWord.element * b.key_words + c.in-KeyWord.word)
      c.bases-bases.ensures.bases ∙ (sym (at_key c.args.self.now.shape c.in-KeyWord.map c.in-KeyWord.element c.in-KeyWord.word) ∙ ap
      (at c.args.self.now.shape) (sym c.in-KeyWord.is));
}

pub returns-in-ValueWord : goal.returns-in-ValueWord
returns-in-ValueWord c = record {
  word = ap (λ (b : Bases). b.values + c.in-ValueWord.element * b.value_words + c.in-ValueWord.word)
      c.bases-bases-in-ValueWord.ensures.bases ∙ (sym (at_value c.args.self.now.shape c.in-ValueWord.map c.in-ValueWord.element
      c.in-ValueWord.word) ∙ ap (at c.args.self.now.shape) (sym c.in-ValueWord.is));
}

pub returns-in-FixedWord : goal.returns-in-FixedWord
returns-in-FixedWord c = record {
  word = ap (λ (n : ℕ). n + c.in-FixedWord.word) c.array.ensures.start ∙
      (sym (at_fixed c.args.self.now.shape c.in-FixedWord.array c.in-FixedWord.word) ∙ ap (at c.args.self.now.shape) (sym c.in-FixedWord.is));
}
