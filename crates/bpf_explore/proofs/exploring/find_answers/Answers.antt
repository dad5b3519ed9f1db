use Rattle.std.proofs.Common.{List, sym, subst}
use Rattle.bpf_names.specs.Names.{names_of}
use Rattle.bpf_machine.specs.Machine.{MachineState}
use Rattle.bpf_machine.specs.Schedule.{World}
use Rattle.bpf_explore.specs.Private.Answers.{IsFirst}
use Rattle.bpf_explore.proofs.AnswerLaws.{answered_still}
use Rattle.bpf_explore.proofs.exploring.find_answers.Goals as goal

pub dive_further-requires-clause-first : goal.dive_further-requires-clause-first
dive_further-requires-clause-first c = subst (λ (ms : List MachineState). (w : World) × IsFirst ms w) (sym c.gather.ensures.same) c.requires

pub dive_further-requires-clause-sorted : goal.dive_further-requires-clause-sorted
dive_further-requires-clause-sorted c = (c.in_ok-answers.ensures.outcomes c.requires.0 c.requires.1).sorted

pub dive_further-requires-clause-ends : goal.dive_further-requires-clause-ends
dive_further-requires-clause-ends c w first = (c.in_ok-answers.ensures.outcomes w
    (subst (λ (ms : List MachineState). IsFirst ms w) c.gather.ensures.same first)).each

pub returns-clause-outcomes : goal.returns-clause-outcomes
returns-clause-outcomes c w first = record {
  each = c.dive_further.ensures.ends w (subst (λ (ms : List MachineState). IsFirst ms w) (sym c.gather.ensures.same) first);
  sorted = c.dive_further.ensures.sorted;
}

pub returns-clause-answered : goal.returns-clause-answered
returns-clause-answered c i =
    answered_still c.args.explorer.now.kept (names_of c.args.names.now) c.args.maps c.in_ok-answers.answers.items
    c.dive_further.new.answers.items i c.dive_further.ensures.keeps (c.in_ok-answers.ensures.answered i)
