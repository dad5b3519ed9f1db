-- The command has the arguments of its definition, in their order, and none is global.
use Rattle.std.proofs.Common.{◌∙◌, ap, codes}
use Rattle.clap.specs.Simple.{Shape, shape_of_fields}
use Rattle.bpf_command.specs.CommandLine.{files, lenient, limit, searching, states}
use Rattle.bpf_command.proofs.Adding.{Made, added, last, owns, shapes, with_one}
use Rattle.bpf_command.proofs.options.check_command.Goals as goal

pub returns : goal.returns
returns c =
    let shape : Shape = (searching (codes "check")).top in
    let begun : Made c.after_help.result shape = record {
      shape = ap shape_of_fields c.after_help.ensures ∙ ap shape_of_fields c.about.ensures ∙ c.in_ok-searching.ensures.shape;
      own = ap (λ f. f.has_globals) c.after_help.ensures ∙ ap (λ f. f.has_globals) c.about.ensures ∙ c.in_ok-searching.ensures.own;
    } in
    let shape1 : Shape = with_one shape lenient in
    let one : Made c.in_ok-arg.field-0 shape1 =
    added _ _ c.in_ok-arg.field-0 shape lenient begun c.lenient_option.ensures.rule c.lenient_option.ensures.own c.in_ok-arg.ensures in
    let shape2 : Shape = with_one shape1 states in
    let two : Made c.in_ok-arg-2.field-0 shape2 =
    added _ _ c.in_ok-arg-2.field-0 shape1 states one c.states_option.ensures.rule c.states_option.ensures.own c.in_ok-arg-2.ensures in
    let shape3 : Shape = with_one shape2 limit in
    let three : Made c.in_ok-arg-3.field-0 shape3 =
    added _ _ c.in_ok-arg-3.field-0 shape2 limit two c.limit_option.ensures.rule c.limit_option.ensures.own c.in_ok-arg-3.ensures in
    let all : Shape = with_one shape3 files in
    let made = last _ _ c.arg-4.result shape3 files three c.files_argument.ensures.rule c.files_argument.ensures.own c.arg-4.ensures in
    record { shape = shapes c.arg-4.result all made; own = owns c.arg-4.result all made }
