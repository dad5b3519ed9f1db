use Rattle.std.specs.Prelude.{string_bytes}
use Rattle.bpf_jobs.proofs.VariableLines.{one_variable_more}
use Rattle.bpf_jobs.proofs.variables.list_variables.Goals as goal

pub loop-variable-preserved : goal.loop-variable-preserved
loop-variable-preserved c = λ s sound shown.
    one_variable_more s c.args.variables.now c.loop-variable.variable-index c.variable-item.result (string_bytes c.loop-variable.text)
    (string_bytes c.push_number.new.text)
    c.loop-variable-test.true c.variable-item.is (c.loop-variable.invariant s sound shown) (c.in_ok-push_number.ensures s sound shown)
