use Rattle.std.proofs.Common.{◌∙◌, ◌<◌, ◌+◌, List, length, refl, sym, subst, arith}
use Rattle.bpf_names.specs.Names.{names_of}
use Rattle.bpf_machine.specs.Schedule.{World}
use Rattle.bpf_machine.specs.Machine.{MachineState}
use Rattle.bpf_explore.specs.Outcomes.{Found}
use Rattle.bpf_explore.specs.Private.Answers.{IsFirst, Gathered}
use Rattle.bpf_explore.proofs.AnswerLaws.{none_gathered, all_gathered}
use Rattle.bpf_explore.proofs.answers.gather.Goals as goal

pub loop-place-init : goal.loop-place-init
loop-place-init c =
    let names = names_of c.args.names.now in
    let kept = c.args.spread.now.kept in
    (refl, subst (λ (answers : List Found). Gathered kept names c.args.maps 0 answers) (sym c.new-answers.ensures.items) (none_gathered kept names c.args.maps))

pub tell_at-requires : goal.tell_at-requires
tell_at-requires c =
    let names = names_of c.args.names.now in
    let same = c.loop-place.invariant.0 in
    record {
      place = subst (λ (kept : List MachineState). c.loop-place.place < length kept) (sym same) (omega arith);
      first = subst (λ (kept : List MachineState). (w : World) × IsFirst kept w) (sym same) c.requires;
      gathered = subst (λ (kept : List MachineState). Gathered kept names c.args.maps c.loop-place.place c.loop-place.answers.items)
          (sym same) c.loop-place.invariant.1;
    }

pub loop-place-preserved : goal.loop-place-preserved
loop-place-preserved c =
    let names = names_of c.args.names.now in
    let same = c.loop-place.invariant.0 in (
      c.tell_at.ensures.same ∙ same,
      subst (λ (kept : List MachineState). Gathered kept names c.args.maps (c.loop-place.place + 1)
          c.tell_at.new.answers.items) same c.in_ok-tell_at.ensures.gathered,
    )

pub returns-in_err-tell_at-clause-same : goal.returns-in_err-tell_at-clause-same
returns-in_err-tell_at-clause-same c = c.tell_at.ensures.same ∙ c.loop-place.invariant.0

pub returns-clause-same : goal.returns-clause-same
returns-clause-same c = c.loop-place.invariant.0

pub returns-clause-outcomes : goal.returns-clause-outcomes
returns-clause-outcomes c w first = record { each = c.loop-place.invariant.1.ends w first; sorted = c.loop-place.invariant.1.sorted }

pub returns-clause-answered : goal.returns-clause-answered
returns-clause-answered c =
    all_gathered c.args.spread.now.kept (names_of c.args.names.now) c.args.maps c.loop-place.place c.loop-place.answers.items
    (omega arith) c.loop-place.invariant.1
