use Rattle.std.proofs.Common.{◌∙◌, ◌<◌, List, true, length, refl, sym, subst, arith}
use Rattle.bpf_names.specs.Names.{names_of}
use Rattle.bpf_machine.specs.Machine.{MachineState}
use Rattle.bpf_explore.specs.Outcomes.{Found}
use Rattle.bpf_explore.specs.Private.Answers.{IsFirst, IsAnsweredAt, StartsFresh}
use Rattle.bpf_explore.specs.Private.Replays.{CanRunOut}
use Rattle.bpf_explore.proofs.PatienceLaws.{Gathered, none_gathered, more_gathered, all_gathered}
use Rattle.bpf_explore.proofs.patience.gather_patiently.Goals as goal

pub loop-place-init : goal.loop-place-init
loop-place-init c =
    let names = names_of c.args.names.now in
    let kept = c.args.spread.now.kept in (
      refl,
      subst (λ (answers : List Found). Gathered kept names c.args.maps 0 true answers) (sym c.new-answers.ensures.items)
          (none_gathered kept names c.args.maps),
    )

pub tell_at-requires-clause-place : goal.tell_at-requires-clause-place
tell_at-requires-clause-place c = subst (λ (kept : List MachineState). c.loop-place.place < length kept) (sym c.loop-place.invariant.0) (omega arith)

pub tell_at-requires-clause-fresh : goal.tell_at-requires-clause-fresh
tell_at-requires-clause-fresh c = subst StartsFresh (sym c.loop-place.invariant.0) c.requires

pub tell_at-requires-clause-ends : goal.tell_at-requires-clause-ends
tell_at-requires-clause-ends c w first = c.loop-place.invariant.1.ends w (subst (λ (kept : List MachineState). IsFirst kept w) c.loop-place.invariant.0 first)

pub tell_at-requires-clause-sorted : goal.tell_at-requires-clause-sorted
tell_at-requires-clause-sorted c = c.loop-place.invariant.1.sorted

pub returns-in_err-answered-clause-same : goal.returns-in_err-answered-clause-same
returns-in_err-answered-clause-same c = c.tell_at.ensures.same ∙ c.loop-place.invariant.0

pub loop-place-preserved : goal.loop-place-preserved
loop-place-preserved c =
    let names = names_of c.args.names.now in
    let kept = c.args.spread.now.kept in
    let same = c.loop-place.invariant.0 in
    let far = c.loop-place.invariant.1 in (
      c.tell_at.ensures.same ∙ same,
      more_gathered kept names c.args.maps c.loop-place.place c.loop-place.whole c.in_ok-answered.answered c.both-whole.result
          c.loop-place.answers.items c.tell_at.new.answers.items far c.tell_at.ensures.sorted c.tell_at.ensures.keeps
          (λ w first all. c.tell_at.ensures.ends w (subst (λ (ms : List MachineState). IsFirst ms w) (sym same) first))
          (λ is. subst (λ (ms : List MachineState). IsAnsweredAt ms names c.args.maps c.tell_at.new.answers.items c.loop-place.place) same
          (c.in_ok-answered.ensures.answered is))
          (λ is. subst CanRunOut same (c.in_ok-answered.ensures.out is))
          c.both-whole.ensures.both
          c.both-whole.ensures.not,
    )

pub returns-clause-same : goal.returns-clause-same
returns-clause-same c = c.loop-place.invariant.0

pub returns-clause-outcomes : goal.returns-clause-outcomes
returns-clause-outcomes c w first = record { each = c.loop-place.invariant.1.ends w first; sorted = c.loop-place.invariant.1.sorted }

pub returns-clause-answered : goal.returns-clause-answered
returns-clause-answered c =
    all_gathered c.args.spread.now.kept (names_of c.args.names.now) c.args.maps c.loop-place.place c.loop-place.whole
    c.loop-place.answers.items (omega arith) c.loop-place.invariant.1

pub returns-clause-out : goal.returns-clause-out
returns-clause-out c is = c.loop-place.invariant.1.out is
