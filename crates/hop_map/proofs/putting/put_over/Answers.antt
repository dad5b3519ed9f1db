use Rattle.hop_map.proofs.Replacing.{over_sound, over_fresh, over_spelt, over_own, over_replaces, over_ends}
use Rattle.hop_map.proofs.Offering.{brings_over}
use Rattle.hop_map.proofs.putting.put_over.Goals as goal

pub replace_at-old-requires-clause-sound : goal.replace_at-old-requires-clause-sound
replace_at-old-requires-clause-sound c = over_sound c.args.words c.args.request.now.key.now c.args.request.now.value.now c.args.request.now.flags c.args.element
    c.requires.contents (brings_over c.args.words.about c.args.words.known c.args.words.map c.args.words.segment c.args.request.now.key.now
    c.args.request.now.value.now c.args.request.now.flags c.args.element c.requires.offers c.requires.over)

pub replace_at-old-requires-clause-own : goal.replace_at-old-requires-clause-own
replace_at-old-requires-clause-own c = over_own c.args.words c.args.request.now.key.now c.args.request.now.value.now
    c.args.request.now.flags c.args.element c.requires.contents
    (brings_over c.args.words.about c.args.words.known c.args.words.map c.args.words.segment c.args.request.now.key.now
    c.args.request.now.value.now c.args.request.now.flags
    c.args.element c.requires.offers c.requires.over)

pub replace_at-old-requires-clause-keyed : goal.replace_at-old-requires-clause-keyed
replace_at-old-requires-clause-keyed c = over_spelt c.args.words c.args.request.now.key.now c.args.request.now.value.now c.args.request.now.flags c.args.element
    c.requires.contents (brings_over c.args.words.about c.args.words.known c.args.words.map c.args.words.segment c.args.request.now.key.now
    c.args.request.now.value.now c.args.request.now.flags c.args.element c.requires.offers c.requires.over)

pub unlock_replaced-requires-clause-replaces : goal.unlock_replaced-requires-clause-replaces
unlock_replaced-requires-clause-replaces c = over_replaces c.args.words c.args.request.now.key.now c.args.request.now.value.now
    c.args.request.now.flags c.args.element
    c.requires.contents (brings_over c.args.words.about c.args.words.known c.args.words.map c.args.words.segment c.args.request.now.key.now
    c.args.request.now.value.now c.args.request.now.flags c.args.element c.requires.offers c.requires.over) c.replace_at-old.new.words
    c.replace_at-old.ensures.stays c.replace_at-old.result c.replace_at-old.ensures.changes

pub returns-clause-over : goal.returns-clause-over
returns-clause-over c = over_ends c.args.words c.args.request.now.key.now c.args.request.now.value.now c.args.request.now.flags
    c.args.element c.requires.contents
    (brings_over c.args.words.about c.args.words.known c.args.words.map c.args.words.segment c.args.request.now.key.now
    c.args.request.now.value.now c.args.request.now.flags
    c.args.element c.requires.offers c.requires.over) c.replace_at-old.new.words c.replace_at-old.ensures.stays c.replace_at-old.result
    c.unlock_replaced.result.known c.replace_at-old.ensures.changes.was c.unlock_replaced.ensures.replaced

pub replace_at-old-requires-clause-fresh : goal.replace_at-old-requires-clause-fresh
replace_at-old-requires-clause-fresh c = over_fresh c.args.words c.args.request.now.key.now c.args.request.now.value.now c.args.request.now.flags c.args.element
    c.requires.contents (brings_over c.args.words.about c.args.words.known c.args.words.map c.args.words.segment c.args.request.now.key.now
    c.args.request.now.value.now c.args.request.now.flags c.args.element c.requires.offers c.requires.over)
