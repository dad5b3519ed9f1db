use Rattle.std.proofs.Common.{◌≡◌, ◌∙◌, ℕ, List, None, Vec, Global, map, sym, ap, subst}
use Rattle.bpf_plain.proofs.Options.{at_some, at_none}
use Rattle.bpf_cpu.specs.Task.{Task}
use Rattle.bpf_machine.specs.Parts.{CanStand, chosen, made_of}
use Rattle.bpf_buffering.specs.declared.waiting.Stored.{Stored}
use Rattle.bpf_buffering.specs.Jobs.{tasks_of}
use Rattle.bpf_buffering.proofs.Waits.{items_of}
use Rattle.bpf_expand.specs.Private.Home.{CountUp}
use Rattle.bpf_expand.proofs.Lists.{chosen_all}
use Rattle.bpf_buffer_expand.specs.Private.Fits.{FitAll}
use Rattle.bpf_buffer_expand.specs.Private.Room.{IsRead}
use Rattle.bpf_buffer_expand.proofs.Alike.{is_read, later_cpus, no_fit, no_stand}
use Rattle.bpf_buffer_expand.proofs.Looking.{not_true}
use Rattle.bpf_buffer_expand.proofs.room.Room.read.Goals as goal

pub returns-in_default-clause-none : goal.returns-in_default-clause-none
returns-in_default-clause-none c = at_none _ _ c.in_default.is c.in_ok-buffers.ensures.none c.args.programs.now

pub returns-then-not-can_stand-clause-none : goal.returns-then-not-can_stand-clause-none
returns-then-not-can_stand-clause-none c =
    let room = c.read_parts.new.self in
    let jobs : List Task = room.jobs.items in
    let numbers = room.numbers.items in
    let programs = c.args.programs.now in
    let are = at_some _ _ _ c.in-Some.is c.in_ok-buffers.ensures.some in
    let all : chosen jobs numbers ≡ jobs = chosen_all jobs numbers (subst (λ (n : ℕ). CountUp numbers n) (sym c.read_parts.ensures.room.count)
    c.read_parts.ensures.room.numbered) in
    no_stand c.args.shape.now programs c.args.self.now.first.items jobs (map items_of c.in-Some.buffers.items) room.store c.args.bytes.now are
    (λ stands.
    let own = subst (λ (l : List Task). CanStand (record { store = room.store; programs = programs; jobs = l; lists = None })) (sym all) stands in
    let there = subst (λ (l : List Task). CanStand (made_of room.store programs l c.deref-2.result.now)) (sym c.deref.ensures.value)
    (subst (λ (ns : List ℕ). CanStand (made_of room.store programs jobs ns)) (sym c.deref-2.ensures.value) own) in
    not_true c.can_stand.result c.if-not-can_stand.true (c.can_stand.ensures.1 there))

pub list_jobs-requires : goal.list_jobs-requires
list_jobs-requires c =
    let room = c.read_parts.new.self in
    let are = at_some _ _ _ c.in-Some.is c.in_ok-buffers.ensures.some in
    c.deref-3.ensures.value ∙ c.read_parts.ensures.room.cpus ∙ ap (λ (l : List Task). map (λ task. task.cpu) l) c.read_parts.ensures.first
    ∙ sym (later_cpus c.args.self.now.first.items room.jobs.items are.later) ∙ ap (λ (l : List Task). map (λ task. task.cpu) l)
    (sym c.deref-4.ensures.value)

pub returns-then-not-fit_all-clause-none : goal.returns-then-not-fit_all-clause-none
returns-then-not-fit_all-clause-none c =
    let room = c.read_parts.new.self in
    let jobs : List Task = room.jobs.items in
    let waiting = map items_of c.in-Some.buffers.items in
    let are = at_some _ _ _ c.in-Some.is c.in_ok-buffers.ensures.some in
    no_fit c.args.shape.now c.args.programs.now c.args.self.now.first.items jobs waiting room.store c.args.bytes.now are
    (λ fit.
    let same = ap tasks_of c.deref-5.ensures.value ∙ c.in_ok-jobs.ensures ∙ c.deref-4.ensures.value in
    let own = subst (λ (ts : List Task). FitAll c.args.shape.now ts waiting) (sym same) fit in
    let there = subst (λ (bs : List (Vec Stored Global)). FitAll c.args.shape.now (tasks_of c.deref-5.result.now) (map items_of bs))
    (sym c.deref-6.ensures.value) own in
    not_true c.fit_all.result c.if-not-fit_all.true (c.fit_all.ensures.1 there))

pub returns-clause-some : goal.returns-clause-some
returns-clause-some c =
    let room = c.read_parts.new.self in
    let jobs : List Task = room.jobs.items in
    let numbers = room.numbers.items in
    let programs = c.args.programs.now in
    let waiting = map items_of c.in-Some.buffers.items in
    let are = at_some _ _ _ c.in-Some.is c.in_ok-buffers.ensures.some in
    let all : chosen jobs numbers ≡ jobs = chosen_all jobs numbers (subst (λ (n : ℕ). CountUp numbers n) (sym c.read_parts.ensures.room.count)
    c.read_parts.ensures.room.numbered) in
    let made = c.can_stand.ensures.0 c.if-not-can_stand.false in
    let stands = subst (λ (l : List Task). CanStand (record { store = room.store; programs = programs; jobs = l; lists = None })) all
    (subst (λ (ns : List ℕ). CanStand (made_of room.store programs jobs ns)) c.deref-2.ensures.value
    (subst (λ (l : List Task). CanStand (made_of room.store programs l c.deref-2.result.now)) c.deref.ensures.value made)) in
    let same = ap tasks_of c.deref-5.ensures.value ∙ c.in_ok-jobs.ensures ∙ c.deref-4.ensures.value in
    let fit = subst (λ (ts : List Task). FitAll c.args.shape.now ts waiting) same
    (subst (λ (bs : List (Vec Stored Global)). FitAll c.args.shape.now (tasks_of c.deref-5.result.now) (map items_of bs)) c.deref-6.ensures.value
    (c.fit_all.ensures.0 c.if-not-fit_all.false)) in
    subst (λ (ts : List Task). IsRead c.args.shape.now programs c.args.self.now.first.items ts waiting room.store c.args.bytes.now)
    (sym (c.in_ok-jobs.ensures ∙ c.deref-4.ensures.value))
    (is_read c.args.shape.now programs c.args.self.now.first.items jobs waiting room.store c.args.bytes.now are stands fit)
