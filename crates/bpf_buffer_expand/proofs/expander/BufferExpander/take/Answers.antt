use Rattle.std.proofs.Common.{◌≡◌, ◌∙◌, List, length, map, sym, ap, subst}
use Rattle.bpf_plain.proofs.Options.{at_some, at_none}
use Rattle.bpf_loader.specs.Loaded.{Loaded}
use Rattle.bpf_cpu.specs.Task.{Task}
use Rattle.bpf_explore.specs.Stores.{IsOfShape}
use Rattle.bpf_expand.proofs.Fitting.{FitInBytes}
use Rattle.bpf_expand.proofs.Taking.{later_count}
use Rattle.bpf_buffering.specs.Buffering.{state_with}
use Rattle.bpf_buffering.specs.Jobs.{tasks_of}
use Rattle.bpf_buffering.specs.Search.{BufferedState}
use Rattle.bpf_buffering.proofs.Waits.{items_of}
use Rattle.bpf_buffer_expand.specs.State.{IsNoState, IsStateOf}
use Rattle.bpf_buffer_expand.specs.Private.Room.{host_with, IsRead}
use Rattle.bpf_buffer_expand.proofs.Boarding.{is_board}
use Rattle.bpf_buffer_expand.proofs.Stating.{host_as, no_state_as, state_read}
use Rattle.bpf_buffer_expand.proofs.expander.BufferExpander.take.Goals as goal

pub returns-in_default-clause-none : goal.returns-in_default-clause-none
returns-in_default-clause-none c = λ is.
    let e = c.self.inside in
    let none = subst (λ (ps : List Loaded). IsNoState (host_with e.shape ps e.room.first.items) c.args.bytes.now) c.programs-programs.ensures
    (at_none _ _ c.in_default.is c.in_ok-parts.ensures.none) in
    subst (λ (l : List Task). IsNoState (host_as e.patient e.shape e.machine.machine.programs l) c.args.bytes.now) (sym c.read.ensures.first)
    (no_state_as e.patient e.shape e.machine.machine.programs e.room.first.items c.args.bytes.now none)

pub take-requires-clause-board : goal.take-requires-clause-board
take-requires-clause-board c =
    let e = c.self.inside in
    let programs = e.machine.machine.programs in
    let jobs = tasks_of c.in-Some.parts.jobs.items in
    let waiting = map items_of c.in-Some.parts.buffers.items in
    let store = c.read.new.self.store in
    let is = subst (λ (ps : List Loaded). IsRead e.shape ps e.room.first.items jobs waiting store c.args.bytes.now) c.programs-programs.ensures
    (at_some _ _ _ c.in-Some.is c.in_ok-parts.ensures.some) in
    is_board e.shape programs store jobs waiting is.are.shape is.stands is.fit

pub invariant_of-self-2 : goal.invariant_of-self-2
invariant_of-self-2 c =
    let e = c.self.inside in
    let programs = e.machine.machine.programs in
    let jobs = tasks_of c.in-Some.parts.jobs.items in
    let waiting = map items_of c.in-Some.parts.buffers.items in
    let store = c.read.new.self.store in
    let is = subst (λ (ps : List Loaded). IsRead e.shape ps e.room.first.items jobs waiting store c.args.bytes.now) c.programs-programs.ensures
    (at_some _ _ _ c.in-Some.is c.in_ok-parts.ensures.some) in
    let made : c.take.new.self ≡ state_with store programs jobs waiting = c.take.ensures in
    record {
      shape = subst (λ (m : BufferedState). IsOfShape e.shape m.machine.store) (sym made) is.are.shape;
      lists = ap (λ (m : BufferedState). m.machine.lists) made;
      room = c.read.ensures.room;
      count = ap (λ (m : BufferedState). length m.machine.jobs) made ∙ later_count e.room.first.items jobs is.are.later
          ∙ ap (length {A = Task}) (sym c.read.ensures.first);
    }

pub returns-clause-taken : goal.returns-clause-taken
returns-clause-taken c = λ taken.
    let e = c.self.inside in
    let programs = e.machine.machine.programs in
    let first = e.room.first.items in
    let jobs = tasks_of c.in-Some.parts.jobs.items in
    let waiting = map items_of c.in-Some.parts.buffers.items in
    let store = c.read.new.self.store in
    let bytes = c.args.bytes.now in
    let is = subst (λ (ps : List Loaded). IsRead e.shape ps first jobs waiting store bytes) c.programs-programs.ensures
    (at_some _ _ _ c.in-Some.is c.in_ok-parts.ensures.some) in
    let fit : FitInBytes jobs = subst (λ (l : List _). FitInBytes (tasks_of l)) c.deref.ensures.value c.jobs_fit_bytes.ensures in
    let made : c.take.new.self ≡ state_with store programs jobs waiting = c.take.ensures in
    let there = state_read e.patient e.shape programs first jobs waiting store bytes is fit in
    subst (λ (l : List Task). IsStateOf (host_as e.patient e.shape c.take.new.self.machine.programs l) c.take.new.self bytes) (sym c.read.ensures.first)
    (subst (λ (m : BufferedState). IsStateOf (host_as e.patient e.shape m.machine.programs first) m bytes) (sym made) there)
