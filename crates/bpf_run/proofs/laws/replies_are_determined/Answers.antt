use Rattle.bpf_run.proofs.OneReply.{replies_are_determined as law}
use Rattle.bpf_run.proofs.laws.replies_are_determined.Goals as goal

pub returns : goal.returns
returns c = law c.words_are_determined.ensures c.encodings_are_determined.ensures c.refusals_are_determined.ensures
    c.first_is_determined.ensures c.texts_are_determined.ensures c.outcomes_are_determined.ensures c.no_maps_no_events.ensures
    c.files_are_determined.ensures c.files_can_run.ensures c.reports_by_are_determined.ensures c.histories_are_determined.ensures
    c.scripts_are_determined.ensures
    c.reports_with_packets_are_determined.ensures c.reports_with_buffers_are_determined.ensures
    c.histories_with_buffers_are_determined.ensures
