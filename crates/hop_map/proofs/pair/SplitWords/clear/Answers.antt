use Rattle.std.proofs.Common.{◌≡◌, ap, ◌∙◌, None}
use Rattle.hop_seg.specs.Split.{Front, front_with_hop, front_with_slot}
use Rattle.hop_map.specs.LockedSegment.{child_front}
use Rattle.hop_map.specs.Lemmas.Keeping.{stays_beside_on}
use Rattle.hop_map.proofs.Dividing.{replaced_all}
use Rattle.hop_map.proofs.pair.SplitWords.clear.Goals as goal

pub buckets-preserved : goal.buckets-preserved
buckets-preserved c =
    let i = c.buckets.invariant in
    let n = c.buckets.bucket in
    let h = c.set_child_hop.ensures in
    let s = c.set_child_slot.ensures in
    let is : child_front c.set_child_slot.new.self ≡ front_with_slot (front_with_hop (child_front c.buckets.self) n 0) n None = s.child ∙ ap
    (λ (f : Front). front_with_slot f n None) h.child in
    record {
      words = s.words ∙ (h.words ∙ i.words);
      stays = stays_beside_on c.args.self.now c.buckets.self c.set_child_slot.new.self i.stays
          (stays_beside_on c.buckets.self c.set_child_hop.new.self c.set_child_slot.new.self h.stays s.stays);
      head = ap (λ (f : Front). f.head) is ∙ i.head;
      hop = λ b l. ap (λ (f : Front). f.hop b) is ∙ replaced_all (child_front c.buckets.self).hop 0 n i.hop b l;
      slot = λ b l. ap (λ (f : Front). f.slot b) is ∙ replaced_all (child_front c.buckets.self).slot None n i.slot b l;
    }
