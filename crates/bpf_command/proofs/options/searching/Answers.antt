-- The command has the arguments of its definition, in their order, and none is global.
use Rattle.std.proofs.Common.{ap}
use Rattle.clap.specs.Words.{App}
use Rattle.clap.specs.Simple.{Shape, new_shape}
use Rattle.bpf_command.specs.CommandLine.{all_states, explained, json, patient, progress, workers, x86}
use Rattle.bpf_command.proofs.Adding.{Made, added, last, owns, shapes, with_one}
use Rattle.bpf_command.proofs.options.searching.Goals as goal

pub returns : goal.returns
returns c =
    let shape : Shape = new_shape c.args.name.now in
    let begun : Made c.new.result shape = record { shape = ap (λ (a : App). a.top) c.new.ensures.app; own = c.new.ensures.local } in
    let shape1 : Shape = with_one shape explained in
    let one : Made c.in_ok-arg.field-0 shape1 =
    added _ _ c.in_ok-arg.field-0 shape explained begun c.explain_option.ensures.rule c.explain_option.ensures.own c.in_ok-arg.ensures in
    let shape2 : Shape = with_one shape1 patient in
    let two : Made c.in_ok-arg-2.field-0 shape2 =
    added _ _ c.in_ok-arg-2.field-0 shape1 patient one c.patient_option.ensures.rule c.patient_option.ensures.own c.in_ok-arg-2.ensures in
    let shape3 : Shape = with_one shape2 json in
    let three : Made c.in_ok-arg-3.field-0 shape3 =
    added _ _ c.in_ok-arg-3.field-0 shape2 json two c.json_option.ensures.rule c.json_option.ensures.own c.in_ok-arg-3.ensures in
    let shape4 : Shape = with_one shape3 progress in
    let four : Made c.in_ok-arg-4.field-0 shape4 =
    added _ _ c.in_ok-arg-4.field-0 shape3 progress three c.progress_option.ensures.rule c.progress_option.ensures.own c.in_ok-arg-4.ensures in
    let shape5 : Shape = with_one shape4 x86 in
    let five : Made c.in_ok-arg-5.field-0 shape5 =
    added _ _ c.in_ok-arg-5.field-0 shape4 x86 four c.buffers_option.ensures.rule c.buffers_option.ensures.own c.in_ok-arg-5.ensures in
    let shape6 : Shape = with_one shape5 all_states in
    let six : Made c.in_ok-arg-6.field-0 shape6 =
    added _ _ c.in_ok-arg-6.field-0 shape5 all_states five c.all_states_option.ensures.rule c.all_states_option.ensures.own c.in_ok-arg-6.ensures in
    let all : Shape = with_one shape6 workers in
    let made = last _ _ c.arg-7.result shape6 workers six c.search_workers_option.ensures.rule c.search_workers_option.ensures.own c.arg-7.ensures in
    record { shape = shapes c.arg-7.result all made; own = owns c.arg-7.result all made }
