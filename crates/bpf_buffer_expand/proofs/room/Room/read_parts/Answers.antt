use Rattle.std.proofs.Common.{◌≡◌, ◌∙◌, ◌++◌, ◌<◌, List, length, map, sym, subst, arith}
use Rattle.std.proofs.lemmas.List.{length-map}
use Rattle.bpf_plain.proofs.Options.{at_some, at_none}
use Rattle.bpf_cpu.specs.Task.{Task}
use Rattle.bpf_machine.specs.Saved.{jobs_saved, AreLater}
use Rattle.bpf_buffering.proofs.Waits.{items_of}
use Rattle.bpf_buffer_expand.specs.Private.Room.{host_with}
use Rattle.bpf_buffer_expand.proofs.Alike.{no_buffers, no_store, no_end}
use Rattle.bpf_buffer_expand.proofs.room.Room.read_parts.Goals as goal

pub returns-in_default-2-clause-none : goal.returns-in_default-2-clause-none
returns-in_default-2-clause-none c = λ programs.
    let first = c.args.self.now.first.items in
    let h = host_with c.args.shape.now programs first in
    let jobs : List Task = c.read_jobs.new.jobs in
    let later : AreLater first jobs = subst (λ (l : List Task). AreLater l jobs) c.deref.ensures.value
    (at_some _ _ _ c.in-Some.is c.in_ok-rest.ensures.later) in
    let read : c.args.bytes.now ≡ jobs_saved jobs ++ c.in-Some.rest.now = at_some _ _ _ c.in-Some.is c.in_ok-rest.ensures.some in
    let none = at_none _ _ c.in_default-2.is c.in_ok-buffers.ensures.none in
    no_buffers h jobs c.args.bytes.now c.in-Some.rest.now later read (λ others more n. none others more (n ∙ sym c.cpus.ensures.cpus))

pub returns-in_default-3-clause-none : goal.returns-in_default-3-clause-none
returns-in_default-3-clause-none c = λ programs.
    let first = c.args.self.now.first.items in
    let h = host_with c.args.shape.now programs first in
    let jobs : List Task = c.read_jobs.new.jobs in
    let later : AreLater first jobs = subst (λ (l : List Task). AreLater l jobs) c.deref.ensures.value
    (at_some _ _ _ c.in-Some.is c.in_ok-rest.ensures.later) in
    let read : c.args.bytes.now ≡ jobs_saved jobs ++ c.in-Some.rest.now = at_some _ _ _ c.in-Some.is c.in_ok-rest.ensures.some in
    let waiting = map items_of c.in-Some-2.buffers.items in
    let behind = at_some _ _ _ c.in-Some-2.is c.in_ok-buffers.ensures.some in
    let count = at_some _ _ _ c.in-Some-2.is c.in_ok-buffers.ensures.count in
    let savable = at_some _ _ _ c.in-Some-2.is c.in_ok-buffers.ensures.savable in
    no_store h jobs c.args.bytes.now c.in-Some.rest.now later read waiting c.in-Some-2.last.now
    (length-map c.in-Some-2.buffers.items items_of ∙ count ∙ c.cpus.ensures.cpus) savable behind c.args.self.now.store
    c.requires.shape (at_none _ _ c.in_default-3.is c.in_ok-count.ensures.none)

pub returns-then-count-last-clause-none : goal.returns-then-count-last-clause-none
returns-then-count-last-clause-none c = λ programs.
    let first = c.args.self.now.first.items in
    let h = host_with c.args.shape.now programs first in
    let jobs : List Task = c.read_jobs.new.jobs in
    let later : AreLater first jobs = subst (λ (l : List Task). AreLater l jobs) c.deref.ensures.value
    (at_some _ _ _ c.in-Some.is c.in_ok-rest.ensures.later) in
    let read : c.args.bytes.now ≡ jobs_saved jobs ++ c.in-Some.rest.now = at_some _ _ _ c.in-Some.is c.in_ok-rest.ensures.some in
    let waiting = map items_of c.in-Some-2.buffers.items in
    let behind = at_some _ _ _ c.in-Some-2.is c.in_ok-buffers.ensures.some in
    let count = at_some _ _ _ c.in-Some-2.is c.in_ok-buffers.ensures.count in
    let savable = at_some _ _ _ c.in-Some-2.is c.in_ok-buffers.ensures.savable in
    let stored = at_some _ _ _ c.in-Some-3.is c.in_ok-count.ensures.read in
    let short : c.in-Some-3.count < length c.in-Some-2.last.now = omega (arith, c.if-count-last.true) in
    no_end h jobs c.args.bytes.now c.in-Some.rest.now later read waiting c.in-Some-2.last.now
    (length-map c.in-Some-2.buffers.items items_of ∙ count ∙ c.cpus.ensures.cpus) savable behind
    c.args.self.now.store c.read.new.self c.in-Some-3.count c.requires.shape stored short
