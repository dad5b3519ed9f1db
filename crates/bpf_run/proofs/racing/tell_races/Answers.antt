use Rattle.std.proofs.Common.{◌≡◌, subst}
use Rattle.std.specs.Prelude.{string_bytes}
use Rattle.bpf_loader.specs.declared.named.Named.{Named}
use Rattle.bpf_names.specs.Names.{names_of}
use Rattle.bpf_races.specs.Lines.{races_text}
use Rattle.bpf_run.proofs.racing.tell_races.Goals as goal

pub returns : goal.returns
returns g c =
    let races = c.in_ok-races.races in
    let found = races.list.items in
    let text = string_bytes c.in_ok-text.text in
    let N : Named → Type 0 = λ n. text ≡ races_text n (names_of c.args.file.names) c.args.sync.now found races.all in
    (found, races.refused, c.in_ok-races.ensures, subst N c.named_of-named.ensures c.in_ok-text.ensures, c.is_any_race-raced.ensures)
