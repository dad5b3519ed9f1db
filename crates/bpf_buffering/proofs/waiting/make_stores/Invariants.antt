use Rattle.std.proofs.Common.{◌≡◌, take}
use Rattle.bpf_plain.specs.PlainStore.{is_running, has_cpu, shape_of, held_spans}
use Rattle.bpf_buffering.proofs.Making.{Makes}
use Rattle.bpf_buffering.proofs.waiting.make_stores.Given as goal

-- the first of them are made
abbrev pub invariant-loop-stored : goal.invariant-loop-stored
invariant-loop-stored l =
    Makes l.cpu l.fn.store (take l.stored-index l.waiting) l.store
    × (shape_of l.store ≡ shape_of l.fn.store) × (held_spans l.store ≡ held_spans l.fn.store)
    × (is_running l.store ≡ is_running l.fn.store) × (has_cpu l.store ≡ has_cpu l.fn.store)
