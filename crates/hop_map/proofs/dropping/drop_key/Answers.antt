use Rattle.hop_map.proofs.Removing.{drop_sound, drop_removes, drop_written, drop_ends, drop_inside}
use Rattle.hop_map.proofs.dropping.drop_key.Goals as goal

pub remove_at-element-requires-clause-sound : goal.remove_at-element-requires-clause-sound
remove_at-element-requires-clause-sound c = drop_sound c.args.words c.args.key.now c.requires.contents c.requires.names

pub unlock_removed-requires-clause-removes : goal.unlock_removed-requires-clause-removes
unlock_removed-requires-clause-removes c = drop_removes c.args.words c.args.key.now c.requires.contents c.requires.names
    c.remove_at-element.new.words c.remove_at-element.ensures.stays c.remove_at-element.result c.remove_at-element.ensures.loses

pub unlock_removed-requires-clause-written : goal.unlock_removed-requires-clause-written
unlock_removed-requires-clause-written c = drop_written c.args.words c.args.key.now c.requires.contents c.requires.names
    c.remove_at-element.new.words c.remove_at-element.ensures.stays c.remove_at-element.result c.remove_at-element.ensures.loses

pub returns-clause-dropped : goal.returns-clause-dropped
returns-clause-dropped c = drop_ends c.args.words c.args.key.now c.requires.contents c.requires.names c.remove_at-element.new.words
    c.remove_at-element.ensures.stays c.remove_at-element.result c.unlock_removed.result.known c.unlock_removed.ensures.dropped

pub returns-clause-inside : goal.returns-clause-inside
returns-clause-inside c = drop_inside c.args.words c.args.key.now c.requires.contents c.requires.names c.remove_at-element.result
    c.remove_at-element.ensures.loses.was
