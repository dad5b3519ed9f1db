use Rattle.std.proofs.Common.{sym, ◌∙◌}
use Rattle.bpf_file.proofs.Names.{part_is_text}
use Rattle.bpf_file.proofs.statement.put_numbers.Goals as goal

pub unreachable-requires : goal.unreachable-requires
unreachable-requires c = c.in_default.ensures.cases.0 (part_is_text c.before_open-name.result.now (sym c.is_name.ensures ∙ c.if-not-is_name.false))
