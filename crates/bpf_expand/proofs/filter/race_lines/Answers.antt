use Rattle.std.proofs.Common.{◌≡◌, ◌∙◌, List, ap, length}
use Rattle.bpf_shared.specs.Shape.{Shape}
use Rattle.bpf_names.specs.Names.{names_of}
use Rattle.bpf_plain.specs.PlainStore.{Contents, shape_of}
use Rattle.bpf_loader.specs.declared.named.Named.{Named}
use Rattle.bpf_cpu.specs.Setup.{named_in}
use Rattle.bpf_races.specs.Races.{RaceFound}
use Rattle.bpf_races.specs.Lines.{here_lines}
use Rattle.bpf_expand.proofs.filter.race_lines.Goals as goal

pub returns : goal.returns
returns c =
    let names = names_of c.args.names.now in
    let races : List RaceFound = c.in_ok-races.races.items in
    let named : Named = c.named_of-named.result in
    let shape = c.store_shape.ensures ∙ ap (λ (p : Contents). shape_of p) c.store.ensures in
    let same : named ≡ named_in (shape_of c.args.machine.now.store) = c.named_of-named.ensures ∙ ap (λ (h : Shape). named_in h) shape in (
      races,
      c.in_ok-races.ensures,
      c.in_ok-text.ensures ∙ (ap (λ (xs : List RaceFound). here_lines named names (length xs) xs) c.deref.ensures.value ∙ ap
          (λ (n : Named). here_lines n names (length races) races) same),
    )
