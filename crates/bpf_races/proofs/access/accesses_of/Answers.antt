use Rattle.std.proofs.Common.{List, map, sym, subst, arith}
use Rattle.bpf_events.specs.Watched.{event_of}
use Rattle.bpf_races.specs.declared.access.Access.{Access}
use Rattle.bpf_races.proofs.Accesses.{AccessesBelow, none_below, event_at, next_below, all_below}
use Rattle.bpf_races.proofs.access.accesses_of.Goals as goal

pub loop-note-init : goal.loop-note-init
loop-note-init c =
    let events = map event_of c.args.notes.now in
    subst (λ (xs : List Access). AccessesBelow events 0 xs) (sym c.new-accesses.ensures.items) (none_below events)

pub loop-note-preserved : goal.loop-note-preserved
loop-note-preserved c =
    let notes = c.args.notes.now in
    let note = c.note-item.result in
    next_below (map event_of notes) c.loop-note.note-index c.loop-note.accesses.items c.add_access.new.accesses.items (event_of note) c.loop-note.invariant
    (event_at notes c.loop-note.note-index note (omega arith) c.note-item.is) c.in_ok-add_access.ensures

pub returns : goal.returns
returns c = all_below c.args.notes.now c.loop-note.note-index c.loop-note.accesses.items (omega arith) c.loop-note.invariant
