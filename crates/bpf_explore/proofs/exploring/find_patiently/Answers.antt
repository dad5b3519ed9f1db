use Rattle.std.proofs.Common.{List, sym, subst}
use Rattle.bpf_names.specs.Names.{names_of}
use Rattle.bpf_machine.specs.Machine.{MachineState}
use Rattle.bpf_machine.specs.Schedule.{World}
use Rattle.bpf_explore.specs.Private.Answers.{IsFirst}
use Rattle.bpf_explore.proofs.AnswerLaws.{answered_still}
use Rattle.bpf_explore.proofs.exploring.find_patiently.Goals as goal

pub dive_patiently-requires-clause-first : goal.dive_patiently-requires-clause-first
dive_patiently-requires-clause-first c = subst (λ (ms : List MachineState). (w : World) × IsFirst ms w)
    (sym c.gather_patiently.ensures.same) (c.requires.0, c.requires.2)

pub dive_patiently-requires-clause-sorted : goal.dive_patiently-requires-clause-sorted
dive_patiently-requires-clause-sorted c = (c.in_ok-answers.ensures.outcomes c.requires.0 c.requires.2).sorted

pub dive_patiently-requires-clause-ends : goal.dive_patiently-requires-clause-ends
dive_patiently-requires-clause-ends c w first = (c.in_ok-answers.ensures.outcomes w
    (subst (λ (ms : List MachineState). IsFirst ms w) c.gather_patiently.ensures.same first)).each

pub returns-clause-outcomes : goal.returns-clause-outcomes
returns-clause-outcomes c w first = record {
  each = c.dive_patiently.ensures.ends w (subst (λ (ms : List MachineState). IsFirst ms w) (sym c.gather_patiently.ensures.same) first);
  sorted = c.dive_patiently.ensures.sorted;
}

pub returns-clause-answered : goal.returns-clause-answered
returns-clause-answered c told i =
    answered_still c.args.spread.now.kept (names_of c.args.names.now) c.args.maps c.in_ok-answers.answers.items
    c.dive_patiently.new.answers.items i c.dive_patiently.ensures.keeps (c.in_ok-answers.ensures.answered told i)
