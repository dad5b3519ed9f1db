use Rattle.std.proofs.Common.{◌≡◌, ◌∙◌, ℕ, List, length, map, subst, arith}
use Rattle.bpf_loader.specs.Loaded.{Loaded}
use Rattle.bpf_plain.specs.PlainStore.{Contents}
use Rattle.bpf_cpu.specs.Task.{Task}
use Rattle.bpf_machine.specs.Parts.{CanStand, made_of}
use Rattle.bpf_buffering.proofs.Waits.{items_of}
use Rattle.bpf_expand.proofs.Fitting.{FitInBytes}
use Rattle.std.proofs.lemmas.List.{length-map}
use Rattle.bpf_buffer_expand.specs.Private.Fits.{FitAll}
use Rattle.bpf_buffer_expand.specs.Private.Room.{AreFrom}
use Rattle.bpf_buffer_expand.proofs.Stating.{fit_of}
use Rattle.bpf_buffer_expand.proofs.expander.is_of_host.Goals as goal

pub returns : goal.returns
returns c = λ is.
    let h = c.args.shape.now in
    let m = c.args.machine.now in
    let room = c.args.room.now in
    let waiting = map items_of c.args.waiting.now in
    let listed = c.listed-jobs.ensures in
    let from = subst (λ (l : List Task). AreFrom l m.machine.jobs) c.deref-2.ensures.value
    (subst (λ (l : List Task). AreFrom c.deref-2.result.now l) listed (c.are_from.ensures c.if-not-are_from.false)) in
    let fit : FitInBytes m.machine.jobs = subst (λ (l : List Task). FitInBytes l) listed c.jobs_fit_bytes.ensures in
    let kept = c.deref-3.ensures.value ∙ c.in_ok-kept.ensures ∙ listed in
    let made = c.can_stand.ensures.0 c.if-not-can_stand.false in
    let stands = subst (λ (s : Contents). CanStand (made_of s m.machine.programs m.machine.jobs room.numbers.items)) c.store.ensures
    (subst (λ (ps : List Loaded). CanStand (made_of c.store.result.now ps m.machine.jobs room.numbers.items)) c.programs.ensures
    (subst (λ (l : List Task). CanStand (made_of c.store.result.now c.programs.result.now l room.numbers.items)) kept
    (subst (λ (ns : List ℕ). CanStand (made_of c.store.result.now c.programs.result.now c.deref-3.result.now ns)) c.deref-4.ensures.value made))) in
    let few : length c.args.waiting.now ≡ c.cpus.result = omega (arith, c.if-waiting-cpus.false) in
    let count : length waiting ≡ h.cpus = length-map c.args.waiting.now items_of ∙ few ∙ c.cpus.ensures.cpus in
    let all = subst (λ (l : List Task). FitAll h l waiting) listed (c.fit_all.ensures.0 is) in
    fit_of h room.first.items m waiting room.numbers.items from fit c.are_savable.ensures c.requires.room.numbered stands c.requires.lists count all
