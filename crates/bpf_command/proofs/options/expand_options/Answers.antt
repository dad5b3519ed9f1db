-- The command has the arguments of its definition, in their order, and none is global.
use Rattle.std.proofs.Common.{◌∙◌, ap, codes}
use Rattle.clap.specs.Words.{App}
use Rattle.clap.specs.Simple.{Shape, new_shape, shape_of_fields}
use Rattle.bpf_command.specs.CommandLine.{explained, first, patient, x86}
use Rattle.bpf_command.proofs.Adding.{Made, added, last, owns, shapes, with_one}
use Rattle.bpf_command.proofs.options.expand_options.Goals as goal

pub returns : goal.returns
returns c =
    let shape : Shape = new_shape (codes "expand") in
    let begun : Made c.after_help.result shape = record {
      shape = ap shape_of_fields c.after_help.ensures ∙ ap shape_of_fields c.about.ensures ∙ ap (λ (a : App). a.top) c.new.ensures.app;
      own = ap (λ f. f.has_globals) c.after_help.ensures ∙ ap (λ f. f.has_globals) c.about.ensures ∙ c.new.ensures.local;
    } in
    let shape1 : Shape = with_one shape explained in
    let one : Made c.in_ok-arg.field-0 shape1 =
    added _ _ c.in_ok-arg.field-0 shape explained begun c.explain_option.ensures.rule c.explain_option.ensures.own c.in_ok-arg.ensures in
    let shape2 : Shape = with_one shape1 first in
    let two : Made c.in_ok-arg-2.field-0 shape2 =
    added _ _ c.in_ok-arg-2.field-0 shape1 first one c.first_option.ensures.rule c.first_option.ensures.own c.in_ok-arg-2.ensures in
    let shape3 : Shape = with_one shape2 patient in
    let three : Made c.in_ok-arg-3.field-0 shape3 =
    added _ _ c.in_ok-arg-3.field-0 shape2 patient two c.alike_option.ensures.rule c.alike_option.ensures.own c.in_ok-arg-3.ensures in
    let all : Shape = with_one shape3 x86 in
    let made = last _ _ c.arg-4.result shape3 x86 three c.state_buffers_option.ensures.rule c.state_buffers_option.ensures.own c.arg-4.ensures in
    record { shape = shapes c.arg-4.result all made; own = owns c.arg-4.result all made }
