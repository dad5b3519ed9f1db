use Rattle.std.proofs.Common.{◌≡◌, option_map, rules, string_bytes}
use Rattle.bpf_replies.specs.Answer.{stats_of}
use Rattle.bpf_run.specs.Conversing.{Converses}
use Rattle.bpf_run.proofs.Talked.{renamed}
use Rattle.bpf_run.proofs.program.perform_for.Goals as goal

pub returns-in-Some-clause-performed : goal.returns-in-Some-clause-performed
returns-in-Some-clause-performed g c =
    let hears = c.args.terminal.now in
    let heard = c.perform_command-done.new.terminal in
    let name : option_map (λ s. s.now) c.map.result ≡ option_map string_bytes c.args.wish.file = search rules in
    renamed c.args.wish.command c.args.wish.json (option_map (λ s. s.now) c.map.result) (option_map string_bytes c.args.wish.file) (heard ≡ hears)
    (Converses (g.D.Terminal.passes hears heard) (g.D.Terminal.is_unread heard) (g.D.Terminal.has_failed heard))
    (g.R.Source.remaining c.args.source.now) (g.R.Source.file c.args.source.now)
    (g.R.Source.has_failed c.perform_command-done.new.source) (g.W.Sink.contents c.args.sink.now) (g.W.Sink.contents c.perform_command-done.new.sink)
    (g.W.Sink.has_failed c.perform_command-done.new.sink) c.perform_command-done.result.status
    (stats_of c.perform_command-done.result.reply) name c.perform_command-done.ensures

pub returns-in-None-clause-performed : goal.returns-in-None-clause-performed
returns-in-None-clause-performed g c =
    let hears = c.args.terminal.now in
    let heard = c.perform_command-done.new.terminal in
    let name : option_map (λ s. s.now) c.map.result ≡ option_map string_bytes c.args.wish.file = search rules in
    renamed c.args.wish.command c.args.wish.json (option_map (λ s. s.now) c.map.result) (option_map string_bytes c.args.wish.file) (heard ≡ hears)
    (Converses (g.D.Terminal.passes hears heard) (g.D.Terminal.is_unread heard) (g.D.Terminal.has_failed heard))
    (g.R.Source.remaining c.args.source.now) (g.R.Source.file c.args.source.now)
    (g.R.Source.has_failed c.perform_command-done.new.source) (g.W.Sink.contents c.args.sink.now) (g.W.Sink.contents c.perform_command-done.new.sink)
    (g.W.Sink.has_failed c.perform_command-done.new.sink) c.perform_command-done.result.status
    (stats_of c.perform_command-done.result.reply) name c.perform_command-done.ensures
