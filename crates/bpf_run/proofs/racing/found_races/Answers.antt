use Rattle.std.proofs.Common.{◌≡◌, List, length, subst}
use Rattle.std.specs.Prelude.{string_bytes}
use Rattle.bpf_loader.specs.declared.named.Named.{Named}
use Rattle.bpf_names.specs.Names.{names_of}
use Rattle.bpf_races.specs.Lines.{comment_lines}
use Rattle.bpf_races.specs.Races.{RaceFound}
use Rattle.bpf_run.proofs.racing.found_races.Goals as goal

pub returns : goal.returns
returns g c =
    let races = c.in_ok-races.races in
    let found = races.list.items in
    let names = names_of c.args.file.names in
    let text = string_bytes c.in_ok-lines.lines in
    let L : List RaceFound → Type 0 = λ rs. text ≡ comment_lines c.named_of-named.result names (length rs) rs in
    let N : Named → Type 0 = λ n. text ≡ comment_lines n names (length found) found in
    let lines = subst L c.deref.ensures.value c.in_ok-lines.ensures in
    (found, races.refused, c.in_ok-races.ensures, subst N c.named_of-named.ensures lines, c.is_any_race.ensures)
