use Rattle.std.proofs.Common.{◌≡◌, ◌∙◌, ℕ, List, Option, String, Global, ap, map, string_bytes}
use Rattle.std.proofs.lemmas.Result.{IfOk-weaker}
use Rattle.bpf_names.specs.Names.{Variable, names_of, variable_at, variable_of}
use Rattle.bpf_races.specs.Lines.{keyed_text, shared_text, value_text, variable_text}
use Rattle.bpf_races.proofs.listing.value_text.Goals as goal

pub returns-in-Some : goal.returns-in-Some
returns-in-Some c =
    let names = names_of c.args.names.now in
    let race = c.args.race.now in
    IfOk-weaker c.variable_text.result (λ (text : String Global). string_bytes text ≡ variable_text (variable_of c.in-Some.variable.now))
    (λ (text : String Global). string_bytes text ≡ value_text c.args.named names race)
    (λ text told. told ∙ ap (λ (o : Option Variable). shared_text c.args.named names.maps race o)
    (c.in-Some.ensures ∙ ap (λ (b : ℕ). variable_at b names.variables) c.byte_of.ensures)) c.variable_text.ensures

pub returns-in-None : goal.returns-in-None
returns-in-None c =
    let names = names_of c.args.names.now in
    let race = c.args.race.now in
    IfOk-weaker c.keyed_text.result (λ (text : String Global). string_bytes text ≡ keyed_text c.args.named
    (map string_bytes c.deref.result.now) race) (λ (text : String Global). string_bytes text ≡ value_text c.args.named names race)
    (λ text told. told ∙ (ap (λ (ns : List (String Global)). keyed_text c.args.named (map string_bytes ns) race) c.deref.ensures.value
    ∙ ap (λ (o : Option Variable). shared_text c.args.named names.maps race o)
    (c.in-None.ensures ∙ ap (λ (b : ℕ). variable_at b names.variables) c.byte_of.ensures))) c.keyed_text.ensures
