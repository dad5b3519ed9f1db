use Rattle.std.proofs.Common.{◌≡◌, ◌∙◌, ℕ, List, Option, None, sym, ap, subst}
use Rattle.std.specs.Prelude.{nat_lt}
use Rattle.bpf_plain.specs.PlainStore.{Contents, shapes_of, has_cpu, is_running, held_spans}
use Rattle.bpf_loader.specs.Loaded.{Loaded}
use Rattle.bpf_cpu.specs.Task.{Task}
use Rattle.bpf_machine.specs.Listings.{Listing}
use Rattle.bpf_machine.specs.Machine.{MachineState}
use Rattle.bpf_machine.specs.Private.KeyLists.{listings}
use Rattle.bpf_machine.proofs.HostLaws.{fit_none}
use Rattle.bpf_machine.specs.Parts.{CanStand, chosen, made_of}
use Rattle.bpf_machine.specs.declared.machine.lane.Lane.{Lane}
use Rattle.bpf_machine.specs.Private.Lanes.{IsBoard, tasks_of}
use Rattle.bpf_machine.proofs.PartLaws.{board_made, tasks_made}
use Rattle.bpf_machine.proofs.machine.Machine.restore.Goals as goal

pub invariant_of-self : goal.invariant_of-self
invariant_of-self c =
    let m = c.self.inside in (
      subst (λ (ls : List Lane). IsBoard (has_cpu m.store) (is_running m.store) (held_spans m.store) m.programs.items m.jobs.items ls)
          (sym c.in_err-renew_lanes.ensures.err) c.self.invariant.0,
      c.self.invariant.1,
    )

pub invariant_of-self-2 : goal.invariant_of-self-2
invariant_of-self-2 c =
    let m = c.self.inside in
    let store = c.args.store.now in
    let parts = c.args.parts.now in
    let numbers = c.args.numbers.now in
    let stands : CanStand (made_of store m.programs.items parts numbers) = subst
    (λ (ps : List Loaded). CanStand (made_of store ps parts numbers)) (sym (ap (λ (s : MachineState). s.programs) c.self.view_is))
    c.requires.stands in
    let serves : (n : ℕ) → has_cpu store n ≡ nat_lt n c.cpus-cpus.result = λ n. sym (c.requires.shape.0 n) ∙
    (ap (λ (s : MachineState). has_cpu s.store n) (sym c.self.view_is) ∙ c.cpus-cpus.ensures n) in
    let board = board_made store m.programs.items parts numbers stands c.in_ok-jobs.jobs.items c.in_ok-jobs.ensures.count
    c.in_ok-jobs.ensures.each c.renew_lanes.new.lanes.items c.cpus-cpus.result c.in_ok-renew_lanes.ensures.count serves
    c.in_ok-renew_lanes.ensures.each in
    let B : Contents → Type 0 = λ p. IsBoard (has_cpu p) (is_running p) (held_spans p) m.programs.items c.in_ok-jobs.jobs.items c.renew_lanes.new.lanes.items in
    let none : listings m.keys m.lists.items ≡ None = ap (λ (s : MachineState). s.lists) c.self.view_is ∙ c.requires.lists in
    (subst B (sym c.copy_from.ensures) board, fit_none (shapes_of c.copy_from.new.self) c.in_ok-jobs.jobs.items m.keys m.lists.items none)

pub returns-clause-ok : goal.returns-clause-ok
returns-clause-ok c =
    let m = c.self.inside in
    let store = c.args.store.now in
    let parts = c.args.parts.now in
    let numbers = c.args.numbers.now in
    let programs = ap (λ (s : MachineState). s.programs) c.self.view_is in
    let stands : CanStand (made_of store m.programs.items parts numbers) = subst
    (λ (ps : List Loaded). CanStand (made_of store ps parts numbers)) (sym programs) c.requires.stands in
    let serves : (n : ℕ) → has_cpu store n ≡ nat_lt n c.cpus-cpus.result = λ n. sym (c.requires.shape.0 n) ∙
    (ap (λ (s : MachineState). has_cpu s.store n) (sym c.self.view_is) ∙ c.cpus-cpus.ensures n) in
    let tasks = tasks_made store m.programs.items parts numbers stands c.in_ok-jobs.jobs.items c.in_ok-jobs.ensures.count
    c.in_ok-jobs.ensures.each c.renew_lanes.new.lanes.items c.cpus-cpus.result c.in_ok-renew_lanes.ensures.count serves
    c.in_ok-renew_lanes.ensures.each in
    let jobs = tasks_of c.renew_lanes.new.lanes.items c.in_ok-jobs.jobs.items in
    let lists = listings m.keys m.lists.items in
    let none : lists ≡ None = ap (λ (s : MachineState). s.lists) c.self.view_is ∙ c.requires.lists in
    ap (λ (p : Contents). record { store = p; programs = m.programs.items; jobs = jobs; lists = lists }) c.copy_from.ensures
    ∙ (ap (λ (ps : List Loaded). record { store = store; programs = ps; jobs = jobs; lists = lists }) programs
    ∙ (ap (λ (ts : List Task). record { store = store; programs = c.args.self.now.programs; jobs = ts; lists = lists }) tasks
    ∙ ap (λ (ls : Option (List Listing)). record { store = store; programs = c.args.self.now.programs; jobs = chosen parts numbers; lists = ls }) none))
