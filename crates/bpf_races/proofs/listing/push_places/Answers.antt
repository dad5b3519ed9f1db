use Rattle.std.proofs.Common.{◌∙◌, ◌++◌, ℕ, List, ap, string_bytes}
use Rattle.bpf_names.specs.Names.{names_of}
use Rattle.bpf_races.specs.Lines.{places_text, value_text}
use Rattle.bpf_races.proofs.Texts.{two_put}
use Rattle.bpf_races.proofs.listing.push_places.Goals as goal

pub returns : goal.returns
returns c =
    let old = string_bytes c.args.text.now in
    let race = c.args.race.now in
    let first = string_bytes c.push_str.new.self in
    two_put old (places_text race.pair) (value_text c.args.named (names_of c.args.names.now) race) first (string_bytes c.push_str-2.new.self)
    (c.in_ok-push_str.ensures.bytes ∙ ap (λ (x : List ℕ). old ++ x) (c.as_str.ensures.value ∙ c.in_ok-places.ensures ∙ ap places_text c.pair_of.ensures))
    (c.in_ok-push_str-2.ensures.bytes ∙ ap (λ (x : List ℕ). first ++ x) (c.as_str-2.ensures.value ∙ c.in_ok-value.ensures))
