use Rattle.bpf_equal.proofs.Sparing.{permuted_budgets_suffice as law}
use Rattle.bpf_equal.proofs.laws.permuted_budgets_suffice.Goals as goal

pub returns : goal.returns
returns c = law c.alike_is_an_equivalence.ensures c.steps_are_alike.ensures c.one_state_is_alike.ensures c.writes_are_determined.ensures
    c.one_instruction_begins.ensures c.calls_have_one_reply.ensures
