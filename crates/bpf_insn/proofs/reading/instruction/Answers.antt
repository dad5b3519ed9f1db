use Rattle.std.proofs.Common.{rules, Err, subst}
use Rattle.bpf_insn.specs.Private.Reading.{IsChecked}
use Rattle.bpf_insn.specs.declared.row.Row.{Row}
use Rattle.bpf_insn.proofs.Law.{none_found, first_refused, passed}
use Rattle.bpf_insn.proofs.reading.instruction.Goals as goal

pub returns-in_default : goal.returns-in_default
returns-in_default c = none_found c.args.window.now (search rules)

pub returns-in-Err : goal.returns-in-Err
returns-in-Err c =
    let checked = subst (λ (r : Row). IsChecked r c.args.window.now (Err c.in-Err.fault)) c.row.ensures.value c.in-Err.ensures in
    first_refused c.in-Some.insn c.args.window.now c.in-Err.fault (search rules) checked

pub returns-in-Ok : goal.returns-in-Ok
returns-in-Ok c = record {
  written = passed c.in-Some.insn c.args.window.now c.requires (search rules) (search rules);
  fits = c.row.ensures.writable.fits;
}
