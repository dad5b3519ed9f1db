-- The command has the arguments of its definition, in their order, and none is global.
use Rattle.std.proofs.Common.{◌∙◌, ap, codes}
use Rattle.clap.specs.Simple.{Shape, shape_of_fields}
use Rattle.bpf_command.specs.CommandLine.{limit, races, searching, sync}
use Rattle.bpf_command.proofs.Adding.{Made, added, last, owns, shapes, with_one}
use Rattle.bpf_command.proofs.options.explore_options.Goals as goal

pub returns : goal.returns
returns c =
    let shape : Shape = (searching (codes "explore")).top in
    let begun : Made c.after_help.result shape = record {
      shape = ap shape_of_fields c.after_help.ensures ∙ ap shape_of_fields c.about.ensures ∙ c.in_ok-searching.ensures.shape;
      own = ap (λ f. f.has_globals) c.after_help.ensures ∙ ap (λ f. f.has_globals) c.about.ensures ∙ c.in_ok-searching.ensures.own;
    } in
    let shape1 : Shape = with_one shape races in
    let one : Made c.in_ok-arg.field-0 shape1 =
    added _ _ c.in_ok-arg.field-0 shape races begun c.races_option.ensures.rule c.races_option.ensures.own c.in_ok-arg.ensures in
    let shape2 : Shape = with_one shape1 sync in
    let two : Made c.in_ok-arg-2.field-0 shape2 =
    added _ _ c.in_ok-arg-2.field-0 shape1 sync one c.sync_option.ensures.rule c.sync_option.ensures.own c.in_ok-arg-2.ensures in
    let all : Shape = with_one shape2 limit in
    let made = last _ _ c.arg-3.result shape2 limit two c.limit_option.ensures.rule c.limit_option.ensures.own c.arg-3.ensures in
    record { shape = shapes c.arg-3.result all made; own = owns c.arg-3.result all made }
