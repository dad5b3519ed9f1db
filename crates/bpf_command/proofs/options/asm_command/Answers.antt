-- The command has the arguments of its definition, in their order, and none is global.
use Rattle.clap.specs.Simple.{Shape}
use Rattle.bpf_command.specs.CommandLine.{asm_shows, budget, context, file}
use Rattle.bpf_command.proofs.Adding.{Made, added, last, owns, shapes, with_one}
use Rattle.bpf_command.proofs.options.asm_command.Goals as goal

pub returns : goal.returns
returns c =
    let shape : Shape = asm_shows.top in
    let begun : Made c.in_ok-asm_shows.field-0 shape = record { shape = c.in_ok-asm_shows.ensures.shape; own = c.in_ok-asm_shows.ensures.own } in
    let shape1 : Shape = with_one shape budget in
    let one : Made c.in_ok-arg.field-0 shape1 =
    added _ _ c.in_ok-arg.field-0 shape budget begun c.budget_option.ensures.rule c.budget_option.ensures.own c.in_ok-arg.ensures in
    let shape2 : Shape = with_one shape1 context in
    let two : Made c.in_ok-arg-2.field-0 shape2 =
    added _ _ c.in_ok-arg-2.field-0 shape1 context one c.context_option.ensures.rule c.context_option.ensures.own c.in_ok-arg-2.ensures in
    let all : Shape = with_one shape2 file in
    let made = last _ _ c.arg-3.result shape2 file two c.file_argument.ensures.rule c.file_argument.ensures.own c.arg-3.ensures in
    record { shape = shapes c.arg-3.result all made; own = owns c.arg-3.result all made }
