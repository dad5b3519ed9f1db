use Rattle.std.proofs.Common.{ap, List, Option, String, Global, map, subst, sym}
use Rattle.std.specs.Prelude.{IfNone, IfSome, option_map, string_bytes}
use Rattle.bpf_names.specs.Names.{Variable, names_of, variable_of}
use Rattle.bpf_races.specs.declared.sync.Part.{Part}
use Rattle.bpf_races.specs.Sync.{SaysOfMap, variable_part}
use Rattle.bpf_races.proofs.Syncs.{none_by_map, said_by_map, said_variable}
use Rattle.bpf_races.proofs.sync.part_in.Goals as goal

pub returns-in-Some-clause-said : goal.returns-in-Some-clause-said
returns-in-Some-clause-said c =
    said_variable (names_of c.args.names.now) c.args.shape.now.maps c.args.text.now (variable_of c.in-Some.variable.now)
    c.variable_part.result c.in-Some.ensures c.variable_part.ensures

pub returns-in-None-clause-said : goal.returns-in-None-clause-said
returns-in-None-clause-said c =
    said_by_map (names_of c.args.names.now) c.args.shape.now.maps c.args.text.now c.map_part.result
    (subst (λ (ns : List (String Global)). IfSome c.map_part.result (SaysOfMap (map string_bytes ns) c.args.shape.now.maps c.args.text.now))
    c.deref.ensures.value c.map_part.ensures.said)

pub returns-in-None-clause-none : goal.returns-in-None-clause-none
returns-in-None-clause-none c =
    none_by_map (names_of c.args.names.now) c.args.shape.now.maps c.args.text.now c.map_part.result
    (ap (λ (o : Option Variable). option_map variable_part o) (sym c.in-None.ensures))
    (subst (λ (ns : List (String Global)). IfNone c.map_part.result
    ((part : Part) → SaysOfMap (map string_bytes ns) c.args.shape.now.maps c.args.text.now part → ⊥)) c.deref.ensures.value
    c.map_part.ensures.none)
