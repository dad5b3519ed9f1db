use Rattle.std.proofs.Common.{◌+◌, inl, ap, sym, subst, ◌∙◌}
use Rattle.hop_words.specs.declared.known.Known.{Known}
use Rattle.hop_map.specs.Private.Listing.{taken_by, Gathers, LocksMore}
use Rattle.hop_map.proofs.Gathering.{opened, gathered, passed_over, passed_notes, passed_more}
use Rattle.hop_map.proofs.listing.list_segment.Goals as goal

pub add_segment-requires-clause-opens : goal.add_segment-requires-clause-opens
add_segment-requires-clause-opens g c =
    let t = c.if-lock_number.ensures.ends in
    opened c.args.table.now.about c.args.lane.now.known c.args.map c.args.segment t.0 c.requires.inside c.args.list.now.keys
    c.requires.gathers c.lock_number.new.lane.known t.1

pub returns-then-lock_number-clause-locks : goal.returns-then-lock_number-clause-locks
returns-then-lock_number-clause-locks g c =
    let t = c.if-lock_number.ensures.ends in
    subst (λ (x : Known). LocksMore c.args.lane.now.known x) (sym c.add_segment.ensures.known)
    (t.1.after ∙ ap (λ (x : Known). record c.args.lane.now.known { locks = x.locks; readings = x.readings; tally = x.tally }) (sym t.1.after))

pub returns-then-lock_number-clause-noted : goal.returns-then-lock_number-clause-noted
returns-then-lock_number-clause-noted g c =
    let t = c.if-lock_number.ensures.ends in
    inl (
      t.0,
      ap (λ (x : Known). x.tally) c.add_segment.ensures.known ∙ ap (λ (x : Known). x.tally) t.1.after,
      ap
          (λ (x : Known). taken_by x.locks) c.add_segment.ensures.known ∙ ap (λ (x : Known). taken_by x.locks) t.1.after,
    )

pub returns-then-lock_number-clause-gathers : goal.returns-then-lock_number-clause-gathers
returns-then-lock_number-clause-gathers g c =
    let t = c.if-lock_number.ensures.ends in
    subst (λ (x : Known). Gathers c.args.table.now.about x c.args.map (c.args.segment + 1) c.add_segment.new.list.keys) (sym c.add_segment.ensures.known)
    (gathered c.args.table.now.about c.args.lane.now.known c.args.map c.args.segment t.0 c.requires.inside c.args.list.now.keys
    c.requires.gathers c.lock_number.new.lane.known t.1 c.add_segment.new.list.keys c.add_segment.ensures.adds)

pub returns-else-lock_number-clause-locks : goal.returns-else-lock_number-clause-locks
returns-else-lock_number-clause-locks g c = passed_more c.args.table.now.about c.args.lane.now.known c.args.map c.args.segment
    c.lock_number.new.lane.known c.if-lock_number.ensures.ends

pub returns-else-lock_number-clause-noted : goal.returns-else-lock_number-clause-noted
returns-else-lock_number-clause-noted g c = passed_notes c.args.table.now.about c.args.lane.now.known c.args.map c.args.segment
    c.lock_number.new.lane.known c.if-lock_number.ensures.ends c.requires.inside.1

pub returns-else-lock_number-clause-gathers : goal.returns-else-lock_number-clause-gathers
returns-else-lock_number-clause-gathers g c = passed_over c.args.table.now.about c.args.lane.now.known c.args.map c.args.segment
    c.lock_number.new.lane.known c.if-lock_number.ensures.ends c.args.list.now.keys c.requires.gathers
