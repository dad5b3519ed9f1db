use Rattle.std.proofs.Common.{◌∙◌, List, subst}
use Rattle.bpf_names.specs.Names.{names_of}
use Rattle.bpf_machine.specs.Machine.{MachineState}
use Rattle.bpf_machine.specs.Patient.{NoneRanOut}
use Rattle.bpf_machine.specs.Schedule.{unrolled}
use Rattle.bpf_explore.specs.Private.Replays.{IsReplayed}
use Rattle.bpf_explore.proofs.AnswerLaws.{more_kept}
use Rattle.bpf_explore.proofs.DiveLaws.{all_end_patiently_still, found_ends_patiently}
use Rattle.bpf_explore.proofs.dives.dive_patiently.Goals as goal

pub returns-in_err-add_answer-clause-ends : goal.returns-in_err-add_answer-clause-ends
returns-in_err-add_answer-clause-ends c w first =
    let names = names_of c.args.names.now in
    let kept = c.args.spread.now.kept in
    let m = c.dive.new.self.machine in
    let by = c.in_ok-by.by.items in
    let none_out = subst (λ (n : MachineState). NoneRanOut n.jobs) c.machine.ensures.machine (c.some_ran_out.ensures.none c.if-some_ran_out.false) in
    let dived = subst (λ (ms : List MachineState). IsReplayed ms (unrolled by) m) c.loop-number.invariant.same c.in_ok-by.ensures.dived in
    let ends = found_ends_patiently kept m c.machine-in-loop-number.result.now names c.args.maps c.in_ok-report.field-0 c.in-Some.report by
    c.machine-in-loop-number.ensures.machine c.machine-in-loop-number.ensures.lists dived c.in-Some.is c.in_ok-report.ensures.ended
    c.in_ok-report.ensures.told c.new.result c.new.ensures none_out w first in
    all_end_patiently_still c.loop-number.answers.items c.add_answer.new.answers.items c.new.result w names c.args.maps
    c.add_answer.ensures.adds ends (c.loop-number.invariant.ends w first)

pub returns-in_err-add_answer-clause-keeps : goal.returns-in_err-add_answer-clause-keeps
returns-in_err-add_answer-clause-keeps c =
    more_kept c.args.answers.now.items c.loop-number.answers.items c.add_answer.new.answers.items c.loop-number.invariant.keeps c.add_answer.ensures.keeps

pub loop-number-preserved : goal.loop-number-preserved
loop-number-preserved c =
    let names = names_of c.args.names.now in
    let kept = c.args.spread.now.kept in
    let m = c.dive.new.self.machine in
    let by = c.in_ok-by.by.items in
    let none_out = subst (λ (n : MachineState). NoneRanOut n.jobs) c.machine.ensures.machine (c.some_ran_out.ensures.none c.if-some_ran_out.false) in
    let dived = subst (λ (ms : List MachineState). IsReplayed ms (unrolled by) m) c.loop-number.invariant.same c.in_ok-by.ensures.dived in
    record {
      same = c.dive.ensures.same ∙ c.loop-number.invariant.same;
      sorted = c.add_answer.ensures.sorted;
      keeps = more_kept c.args.answers.now.items c.loop-number.answers.items c.add_answer.new.answers.items c.loop-number.invariant.keeps
          c.add_answer.ensures.keeps;
      ends = λ w first. (
          let ends = found_ends_patiently kept m c.machine-in-loop-number.result.now names c.args.maps c.in_ok-report.field-0
          c.in-Some.report by c.machine-in-loop-number.ensures.machine c.machine-in-loop-number.ensures.lists dived c.in-Some.is
          c.in_ok-report.ensures.ended c.in_ok-report.ensures.told c.new.result c.new.ensures none_out w first in
          all_end_patiently_still c.loop-number.answers.items c.add_answer.new.answers.items c.new.result w names c.args.maps
          c.add_answer.ensures.adds ends (c.loop-number.invariant.ends w first));
    }
