use Rattle.std.proofs.Common.{◌∙◌, ◌+◌, ◌<◌, Bool, true, List, length, refl, sym, subst, arith}
use Rattle.bpf_names.specs.Names.{names_of}
use Rattle.bpf_machine.specs.Schedule.{World}
use Rattle.bpf_buffering.specs.Search.{BufferedState}
use Rattle.bpf_reorderings.specs.Private.Answers.{Gathered}
use Rattle.bpf_reorderings.specs.Private.Searching.{BeginsAt}
use Rattle.bpf_reorderings.proofs.Printing.{none_gathered, all_gathered}
use Rattle.bpf_reorderings.proofs.answers.gather.Goals as goal

pub loop-place-init : goal.loop-place-init
loop-place-init c =
    let names = names_of c.args.names.now in
    let e = c.args.explorer.now in
    (refl, refl, none_gathered e.patient e.kept names c.args.maps (record { answers = c.new.result; whole = true }) c.new.ensures.items refl)

pub tell_at-requires : goal.tell_at-requires
tell_at-requires c =
    let names = names_of c.args.names.now in
    let same = c.loop-place.invariant.0 in
    record {
      place = subst (λ (kept : List BufferedState). c.loop-place.place < length kept) (sym same) (omega arith);
      begins = subst (λ (kept : List BufferedState). (w : World) × BeginsAt kept w) (sym same) c.requires;
      gathered = subst (λ (kept : List BufferedState). Gathered c.loop-place.explorer.patient kept names c.args.maps c.loop-place.place
          c.loop-place.told) (sym same)
          (subst (λ (b : Bool). Gathered b c.args.explorer.now.kept names c.args.maps c.loop-place.place c.loop-place.told)
          (sym c.loop-place.invariant.1) c.loop-place.invariant.2);
    }

pub loop-place-preserved : goal.loop-place-preserved
loop-place-preserved c =
    let names = names_of c.args.names.now in
    let same = c.loop-place.invariant.0 in
    let as_patient = c.loop-place.invariant.1 in (
      c.tell_at.ensures.same ∙ same,
      c.tell_at.ensures.patient ∙ as_patient,
      subst (λ (b : Bool). Gathered b c.args.explorer.now.kept names c.args.maps (c.loop-place.place + 1) c.tell_at.new.told) as_patient
          (subst (λ (kept : List BufferedState). Gathered c.loop-place.explorer.patient kept names c.args.maps (c.loop-place.place + 1)
          c.tell_at.new.told) same c.in_ok-tell_at.ensures.gathered),
    )

pub returns-in_err-tell_at-clause-same : goal.returns-in_err-tell_at-clause-same
returns-in_err-tell_at-clause-same c = c.tell_at.ensures.same ∙ c.loop-place.invariant.0

pub returns-clause-same : goal.returns-clause-same
returns-clause-same c = c.loop-place.invariant.0

pub returns-clause-gathered : goal.returns-clause-gathered
returns-clause-gathered c =
    let e = c.args.explorer.now in
    all_gathered e.patient e.kept (names_of c.args.names.now) c.args.maps c.loop-place.place c.loop-place.told (omega arith)
    c.loop-place.invariant.2

pub returns-in_err-tell_at-clause-patient : goal.returns-in_err-tell_at-clause-patient
returns-in_err-tell_at-clause-patient c = c.tell_at.ensures.patient ∙ c.loop-place.invariant.1

pub returns-clause-patient : goal.returns-clause-patient
returns-clause-patient c = c.loop-place.invariant.1
