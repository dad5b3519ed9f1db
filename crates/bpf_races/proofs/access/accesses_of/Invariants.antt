use Rattle.std.proofs.Common.{map}
use Rattle.bpf_events.specs.Watched.{event_of}
use Rattle.bpf_races.proofs.Accesses.{AccessesBelow}
use Rattle.bpf_races.proofs.access.accesses_of.Given as goal

abbrev pub invariant-loop-note : goal.invariant-loop-note
invariant-loop-note l = AccessesBelow (map event_of l.notes) l.note-index l.accesses.items
