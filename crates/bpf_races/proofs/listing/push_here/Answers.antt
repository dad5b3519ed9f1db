use Rattle.std.proofs.Common.{◌++◌, string_bytes}
use Rattle.std.specs.Prelude.{codes}
use Rattle.bpf_names.specs.Names.{names_of}
use Rattle.bpf_races.specs.Lines.{places_text, value_text}
use Rattle.bpf_races.proofs.Texts.{two_put}
use Rattle.bpf_races.proofs.listing.push_here.Goals as goal

pub returns : goal.returns
returns c =
    let race = c.args.race.now in
    let places = places_text race.pair ++ value_text c.args.named (names_of c.args.names.now) race in
    two_put (string_bytes c.args.text.now) places (codes "\n") (string_bytes c.push_places.new.text) (string_bytes c.push_str.new.self)
    c.in_ok-push_places.ensures c.in_ok-push_str.ensures.bytes
