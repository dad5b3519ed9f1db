use Rattle.std.proofs.Common.{ℕ, ◌+◌, ap, sym, subst, ◌∙◌, arith}
use Rattle.hop_words.specs.declared.known.Known.{Known}
use Rattle.hop_layout.specs.Layout.{is_place}
use Rattle.hop_map.specs.LockedSegment.{Locked, Ready}
use Rattle.hop_map.specs.Private.LockedSegment.{IsWordAt, written}
use Rattle.hop_map.proofs.Written.{written_ready}
use Rattle.hop_map.proofs.locked.LockedWords.write_in.Goals as goal

pub invariant_of-self : goal.invariant_of-self
invariant_of-self c = let i = c.self.inside in record {
  seated = c.write_guarded_at.ensures.table ∙ c.self.invariant.seated;
  keyed = c.self.invariant.keyed;
  small = c.self.invariant.small;
  counted = c.self.invariant.counted;
  begins = c.self.invariant.begins;
  room = c.self.invariant.room;
  ready = subst (λ (l : Known). Ready i.table.now.about l i.map i.segment) (sym c.write_guarded_at.ensures.written)
      (written_ready i.table.now.about i.lane.known i.map i.segment c.args.place c.args.number c.self.invariant.ready
      (ap (λ (x : Locked). is_place x.about.shape c.args.place) c.self.view_is ∙ c.requires.there) c.requires.no_key);
}

pub returns : goal.returns
returns c = let i = c.self.inside in record {
  written = (λ j. record { table = i.table.now.id; about = i.table.now.about; known = c.write_guarded_at.ensures.written j; map = i.map; segment = i.segment })
      ∙ ap (λ (x : Locked). written x c.args.place c.args.number) c.self.view_is;
}

pub write_guarded_at-requires-clause-word : goal.write_guarded_at-requires-clause-word
write_guarded_at-requires-clause-word c =
    let r = subst (λ (x : Locked). IsWordAt x.about x.map x.segment c.args.offset c.args.place) (sym c.self.view_is) c.requires.word in
    ap (λ (n : ℕ). n + c.args.offset) c.self.invariant.begins ∙ r.1

pub overflow_add-word : goal.overflow_add-word
overflow_add-word c = let r = c.requires.word.0 in let n = c.self.invariant.room in omega arith
