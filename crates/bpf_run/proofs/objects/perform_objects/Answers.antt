use Rattle.std.proofs.Common.{ℕ, List, Some, Bor, subst}
use Rattle.std.specs.Prelude.{option_map}
use Rattle.bpf_replies.specs.Answer.{stats_of}
use Rattle.bpf_run.specs.Program.{Performs, input_of}
use Rattle.bpf_run.proofs.objects.perform_objects.Goals as goal

pub returns : goal.returns
returns g c =
    let kept = c.perform_of-status.new.sink in
    let done = c.perform_of-status.result in
    let input = input_of (g.R.Source.remaining c.args.source.now) (g.R.Source.file c.args.source.now) (option_map (λ (s : Bor (List ℕ)). s.now) c.args.file) in
    let P : List ℕ → Type 0 = λ t. Performs c.args.command input (g.R.Source.has_failed c.perform_of-status.new.source) (Some t) (Some kept.text.items) kept.cut
    done.status (stats_of done.reply) in
    record {
      replies = (
        Some kept.text.items,
        kept.cut,
        done.status,
        subst P c.new-kept.ensures.empty c.perform_of-status.ensures.replies,
        c.known_of-known.result,
        c.write_objects-status.ensures,
      );
    }
