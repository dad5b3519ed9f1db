use Rattle.bpf_buffer_events.proofs.Histories.{histories_are_of_reports}
use Rattle.bpf_buffer_events.proofs.laws.histories_are_of_reports_with_buffers.Goals as goal

pub returns : goal.returns
returns c = histories_are_of_reports
