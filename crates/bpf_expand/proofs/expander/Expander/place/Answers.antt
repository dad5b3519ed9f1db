use Rattle.std.proofs.Common.{◌≡◌, ◌∙◌, ◌<◌, ℕ, List, Option, length, option_map, sym, ap, subst}
use Rattle.std.specs.Prelude.{All, IfSome}
use Rattle.bpf_cpu.specs.Task.{Task}
use Rattle.bpf_machine.specs.Machine.{MachineState}
use Rattle.bpf_machine.specs.Parts.{CanStand, made_of}
use Rattle.bpf_machine.specs.Saved.{ComeFrom}
use Rattle.bpf_explore.specs.Stores.{IsOfShape}
use Rattle.bpf_expand.specs.State.{ExpanderState, Host, IsStateOf}
use Rattle.bpf_expand.specs.Private.Home.{IsRead}
use Rattle.bpf_expand.proofs.Taking.{come, made_again, placed_state, within}
use Rattle.bpf_expand.proofs.expander.Expander.place.Goals as goal

pub restore-requires-clause-within : goal.restore-requires-clause-within
restore-requires-clause-within c =
    let here = c.self.inside in
    let h : Host = record { shape = here.shape; programs = here.machine.programs; jobs = here.first.items; patient = here.patient } in
    let last = ap (λ (e : ExpanderState). e.read) c.self.view_is ∙ c.requires in
    let is = subst (λ (o : Option (List ℕ)). IfSome o (IsRead h.programs here.room h.jobs here.numbers.items here.jobs.items)) last c.self.invariant.read in
    subst (λ (l : List Task). All (λ n. n < length l) c.deref-2.result.now) (sym c.deref.ensures.value)
    (subst (λ (ns : List ℕ). All (λ n. n < length here.jobs.items) ns) (sym c.deref-2.ensures.value)
    (within h here.room here.numbers.items here.jobs.items c.args.bytes.now c.self.invariant.numbered is))

pub restore-requires-clause-stands : goal.restore-requires-clause-stands
restore-requires-clause-stands c =
    let here = c.self.inside in
    let programs = here.machine.programs in
    let last = ap (λ (e : ExpanderState). e.read) c.self.view_is ∙ c.requires in
    let is = subst (λ (o : Option (List ℕ)). IfSome o (IsRead programs here.room here.first.items here.numbers.items here.jobs.items)) last
    c.self.invariant.read in
    subst (λ (l : List Task). CanStand (made_of here.room programs l c.deref-2.result.now)) (sym c.deref.ensures.value)
    (subst (λ (ns : List ℕ). CanStand (made_of here.room programs here.jobs.items ns)) (sym c.deref-2.ensures.value) is.stands)

pub returns-then-self-clause-placed : goal.returns-then-self-clause-placed
returns-then-self-clause-placed c =
    let here = c.self.inside in
    let h : Host = record { shape = here.shape; programs = here.machine.programs; jobs = here.first.items; patient = here.patient } in
    let last = ap (λ (e : ExpanderState). e.read) c.self.view_is ∙ c.requires in
    let is = subst (λ (o : Option (List ℕ)). IfSome o (IsRead h.programs here.room h.jobs here.numbers.items here.jobs.items)) last c.self.invariant.read in
    subst (λ (x : ExpanderState). IsStateOf x.host x.machine c.args.bytes.now) c.self.view_is
    (placed_state h here.machine here.room here.numbers.items here.jobs.items c.args.bytes.now c.self.invariant.numbered is
    c.self.invariant.spare (c.self.invariant.placed c.if-self.true) c.jobs_fit_bytes.ensures)

pub returns-clause-placed : goal.returns-clause-placed
returns-clause-placed c =
    let here = c.self.inside in
    let h : Host = record { shape = here.shape; programs = here.machine.programs; jobs = here.first.items; patient = here.patient } in
    let jobs = here.jobs.items in
    let numbers = here.numbers.items in
    let last = ap (λ (e : ExpanderState). e.read) c.self.view_is ∙ c.requires in
    let is = subst (λ (o : Option (List ℕ)). IfSome o (IsRead h.programs here.room h.jobs numbers jobs)) last c.self.invariant.read in
    let made : c.restore.new.self ≡ made_of here.room h.programs jobs numbers =
    c.in_ok-restore.ensures.ok
    ∙ (ap (λ (l : List Task). made_of here.room h.programs l c.deref-2.result.now) c.deref.ensures.value ∙ ap
    (λ (ns : List ℕ). made_of here.room h.programs jobs ns) c.deref-2.ensures.value) in
    placed_state h c.restore.new.self here.room numbers jobs c.args.bytes.now c.self.invariant.numbered is c.self.invariant.spare made
    c.jobs_fit_bytes-2.ensures

pub invariant_of-self-2 : goal.invariant_of-self-2
invariant_of-self-2 c =
    let here = c.self.inside in
    let h : Host = record { shape = here.shape; programs = here.machine.programs; jobs = here.first.items; patient = here.patient } in
    let jobs = here.jobs.items in
    let numbers = here.numbers.items in
    let read : Option (List ℕ) = option_map (λ v. v.items) here.read in
    let last = ap (λ (e : ExpanderState). e.read) c.self.view_is ∙ c.requires in
    let is = subst (λ (o : Option (List ℕ)). IfSome o (IsRead h.programs here.room h.jobs numbers jobs)) last c.self.invariant.read in
    let made : c.restore.new.self ≡ made_of here.room h.programs jobs numbers =
    c.in_ok-restore.ensures.ok
    ∙ (ap (λ (l : List Task). made_of here.room h.programs l c.deref-2.result.now) c.deref.ensures.value ∙ ap
    (λ (ns : List ℕ). made_of here.room h.programs jobs ns) c.deref-2.ensures.value) in
    record {
      shape = subst (λ (m : MachineState). IsOfShape here.shape m.store) (sym made) c.self.invariant.spare;
      spare = c.self.invariant.spare;
      lists = ap (λ (m : MachineState). m.lists) made;
      short = c.self.invariant.short;
      come = subst (λ (m : MachineState). ComeFrom h.jobs m.jobs) (sym made) (come h here.room numbers jobs c.args.bytes.now c.self.invariant.numbered is);
      numbered = c.self.invariant.numbered;
      count = c.self.invariant.count;
      placed = λ is. made_again c.restore.new.self here.room h.programs jobs numbers made;
      read = subst (λ (m : MachineState). IfSome read (IsRead m.programs here.room h.jobs numbers jobs)) (sym made) c.self.invariant.read;
    }
