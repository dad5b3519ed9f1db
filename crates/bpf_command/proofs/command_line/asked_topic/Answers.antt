use Rattle.std.proofs.Common.{Some, None, refl}
use Rattle.clap.specs.Words.{found_of}
use Rattle.bpf_command.proofs.OptionRows.{topic_in_rows}
use Rattle.bpf_command.proofs.command_line.asked_topic.Goals as goal

pub returns-in-Some : goal.returns-in-Some
returns-in-Some c =
    topic_in_rows (found_of c.args.options.now) c.topic_named.result (Some c.in-Some.text.now) c.in-Some.ensures c.topic_named.ensures

pub returns-in-None : goal.returns-in-None
returns-in-None c = topic_in_rows (found_of c.args.options.now) None None c.in-None.ensures refl
