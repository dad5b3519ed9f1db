use Rattle.std.specs.Prelude.{string_bytes}
use Rattle.bpf_jobs.proofs.VariableLines.{one_variable_more}
use Rattle.bpf_workers.proofs.variables.list_variables.Goals as goal

pub loop-variable-preserved : goal.loop-variable-preserved
loop-variable-preserved c = λ last known same.
    one_variable_more last c.args.variables.now c.loop-variable.variable-index c.variable-item.result (string_bytes c.loop-variable.text)
    (string_bytes c.push_number.new.text)
    c.loop-variable-test.true c.variable-item.is (c.loop-variable.invariant last known same) (c.in_ok-push_number.ensures last known same)
