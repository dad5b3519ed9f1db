use Rattle.std.proofs.Common.{◌≡◌, ◌∙◌, ◌<◌, ◌≤◌, ◌++◌, ℕ, List, drop, length, sym, subst, arith}
use Rattle.std.specs.Prelude.{All}
use Rattle.bpf_plain.proofs.Options.{at_some, at_none}
use Rattle.bpf_cpu.specs.Task.{Task}
use Rattle.bpf_machine.specs.Parts.{CanStand, made_of}
use Rattle.bpf_machine.specs.Saved.{jobs_saved, AreLater}
use Rattle.bpf_expand.specs.State.{Host}
use Rattle.bpf_expand.proofs.Lists.{take_front}
use Rattle.bpf_expand.proofs.Taking.{no_store, no_end, no_stand, all_numbered}
use Rattle.bpf_expand.proofs.expander.Expander.read.Goals as goal
use Rattle.bpf_expand.proofs.expander.Expander.read.Goals.{then-count-rest-via-then-count-rest, then-count-rest-via-else-count-rest+then-not-can_restore}

pub returns-in_default-2-clause-none : goal.returns-in_default-2-clause-none
returns-in_default-2-clause-none c = λ no m is.
    let here = c.self.inside in
    let h : Host = record { shape = here.shape; programs = here.machine.programs; jobs = here.first.items; patient = here.patient } in
    let jobs : List Task = c.read_jobs.new.jobs in
    let later : AreLater h.jobs jobs = subst (λ (l : List Task). AreLater l jobs) c.deref.ensures.value
    (at_some _ _ _ c.in-Some.is c.in_ok-rest.ensures.later) in
    let read : c.args.bytes.now ≡ jobs_saved jobs ++ c.in-Some.rest.now = at_some _ _ _ c.in-Some.is c.in_ok-rest.ensures.some in
    no_store h jobs c.args.bytes.now c.in-Some.rest.now later read here.room c.self.invariant.spare
    (at_none _ _ c.in_default-2.is c.in_ok-count.ensures.none) m is

pub can_restore-requires : goal.can_restore-requires
can_restore-requires c =
    let here = c.self.inside in
    let h : Host = record { shape = here.shape; programs = here.machine.programs; jobs = here.first.items; patient = here.patient } in
    let jobs : List Task = c.read_jobs.new.jobs in
    let later : AreLater h.jobs jobs = subst (λ (l : List Task). AreLater l jobs) c.deref.ensures.value
    (at_some _ _ _ c.in-Some.is c.in_ok-rest.ensures.later) in
    let read : c.args.bytes.now ≡ jobs_saved jobs ++ c.in-Some.rest.now = at_some _ _ _ c.in-Some.is c.in_ok-rest.ensures.some in
    let count : here.jobs.len ≡ length jobs = omega (arith, c.read_jobs.auto.jobs, c.deref_mut.ensures.len) in
    let same : c.deref-else-count-rest.result.now ≡ jobs = c.deref-else-count-rest.ensures.value ∙ take_front here.jobs.len jobs
    (drop (length jobs) here.jobs.items) count in
    subst (λ (l : List Task). All (λ n. n < length l) c.deref-else-count-rest-2.result.now) (sym same)
    (subst (λ (ns : List ℕ). All (λ n. n < length jobs) ns) (sym c.deref-else-count-rest-2.ensures.value)
    (all_numbered h jobs c.args.bytes.now c.in-Some.rest.now later read here.numbers.items c.self.invariant.numbered))

pub returns-then-count-rest-clause-none : goal.returns-then-count-rest-clause-none
returns-then-count-rest-clause-none c = λ no m is.
    let here = c.self.inside in
    let h : Host = record { shape = here.shape; programs = here.machine.programs; jobs = here.first.items; patient = here.patient } in
    let jobs : List Task = c.read_jobs.new.jobs in
    let numbers : List ℕ = here.numbers.items in
    let room = c.read.new.self in
    let rest = c.in-Some.rest.now in
    let later : AreLater h.jobs jobs = subst (λ (l : List Task). AreLater l jobs) c.deref.ensures.value
    (at_some _ _ _ c.in-Some.is c.in_ok-rest.ensures.later) in
    let read : c.args.bytes.now ≡ jobs_saved jobs ++ rest = at_some _ _ _ c.in-Some.is c.in_ok-rest.ensures.some in
    let stored = at_some _ _ _ c.in-Some-2.is c.in_ok-count.ensures.read in
    elim c.then-count-rest.branch [
      | then-count-rest-via-then-count-rest w ↦
          let short : c.in-Some-2.count < length rest = omega (arith, w.if-count-rest.true) in
          no_end h jobs c.args.bytes.now rest later read here.room room c.in-Some-2.count c.self.invariant.spare stored short m is
      | then-count-rest-via-else-count-rest+then-not-can_restore w ↦
          let whole : length rest ≤ c.in-Some-2.count = omega (arith, w.if-count-rest.false) in
          no_stand h jobs c.args.bytes.now rest later read here.room room c.in-Some-2.count c.self.invariant.spare stored numbers
          c.self.invariant.numbered whole
          (λ stands.
          let count : here.jobs.len ≡ length jobs = omega (arith, c.read_jobs.auto.jobs, c.deref_mut.ensures.len) in
          let same : w.deref-else-count-rest.result.now ≡ jobs = w.deref-else-count-rest.ensures.value ∙ take_front here.jobs.len jobs
          (drop (length jobs) here.jobs.items) count in
          let there = subst (λ (l : List Task). CanStand (made_of room h.programs l w.deref-else-count-rest-2.result.now)) (sym same)
          (subst (λ (ns : List ℕ). CanStand (made_of room h.programs jobs ns)) (sym w.deref-else-count-rest-2.ensures.value) stands) in
          let yes = w.can_restore.ensures.1 there in
          let no = w.if-not-can_restore.true in
          cc)
          m is
    ]
