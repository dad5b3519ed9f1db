use Rattle.bpf_replies.proofs.SeenOnX86.{shown_on_x86_are_found as law}
use Rattle.bpf_replies.proofs.laws.shown_on_x86_are_found.Goals as goal

pub returns : goal.returns
returns c = law c.files_are_determined.ensures c.files_can_run.ensures c.reports_with_buffers_are_determined.ensures
    c.histories_are_of_reports_with_buffers.ensures
