use Rattle.std.proofs.Common.{◌∙◌, ◌++◌, ℕ, List, ap, length, string_bytes}
use Rattle.std.specs.Prelude.{codes}
use Rattle.bpf_schedule.specs.Spelling.{runs_text}
use Rattle.bpf_names.specs.Names.{names_of}
use Rattle.bpf_races.specs.Lines.{places_text, value_text}
use Rattle.bpf_races.proofs.Texts.{two_put}
use Rattle.bpf_races.proofs.listing.push_race.Goals as goal

pub returns : goal.returns
returns c =
    let old = string_bytes c.args.text.now in
    let race = c.args.race.now in
    let places = places_text race.pair ++ value_text c.args.named (names_of c.args.names.now) race in
    let runs = runs_text (length race.by) race.by in
    let first = string_bytes c.push_places.new.text in
    let second = string_bytes c.push_str.new.self in
    let third = string_bytes c.push_runs.new.text in
    let fourth = string_bytes c.push_str-2.new.self in
    two_put old (places ++ codes " by") (runs ++ codes "\n") second fourth
    (two_put old places (codes " by") first second c.in_ok-push_places.ensures c.in_ok-push_str.ensures.bytes)
    (two_put second runs (codes "\n") third fourth (c.in_ok-push_runs.ensures ∙ ap
    (λ (runs : List (ℕ × ℕ)). second ++ runs_text (length runs) runs) c.way_of.ensures) c.in_ok-push_str-2.ensures.bytes)
