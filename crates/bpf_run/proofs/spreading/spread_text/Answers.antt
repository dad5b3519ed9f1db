use Rattle.std.proofs.Common.{◌≡◌, ◌∙◌, List, ℕ, Vec, Global, map, refl, string_bytes, subst}
use Rattle.bpf_names.specs.Names.{Names}
use Rattle.bpf_file.specs.File.{file_of}
use Rattle.bpf_expand.specs.Parts.{IsParted}
use Rattle.bpf_expand.specs.State.{Host}
use Rattle.bpf_run.specs.Spreading.{AreMade, ReadsAt, host_in, origins_name, part_name}
use Rattle.bpf_run.proofs.spreading.spread_text.Goals as goal

pub returns : goal.returns
returns g c =
    let f = file_of c.in_ok-file.file in
    let opened = c.in_ok-opened.opened in
    let is = c.in_ok-opened.ensures in
    let files = g.R.Source.file c.args.source.now in
    let options = c.args.spread.now in
    let made = c.in_ok-made.made in
    let parted = c.in_ok-made.ensures.parted in
    let now = c.parts_in.new.expander.host in
    let reads = subst (λ (h : Host). ReadsAt h opened.expander.machine files (map string_bytes options.states.items) parted.0) is.host parted.1 in
    let host : now ≡ host_in options.patient f = c.in_ok-made.ensures.same ∙ is.host in
    let one = subst (λ (h : Host). IsParted h f.names options.parts parted.0 parted.2 made) host
    (subst (λ (n : Names). IsParted now n options.parts parted.0 parted.2 made) is.names parted.4) in
    let has_made = g.T.Shelf.has_made c.args.rt.now in
    let parts = subst (λ (ps : List (Vec ℕ Global)). AreMade has_made (part_name (string_bytes options.folder)) (map (λ v. v.items) ps))
    c.deref.ensures.value
    (subst (λ (folder : List ℕ). AreMade has_made (part_name folder) (map (λ v. v.items) c.deref.result.now)) c.as_str.ensures.value
    c.in_ok-write_parts.ensures) in
    let origins = subst (λ (ps : List (Vec ℕ Global)). AreMade has_made (origins_name (string_bytes options.folder)) (map (λ v. v.items) ps))
    c.deref-2.ensures.value
    (subst (λ (folder : List ℕ). AreMade has_made (origins_name folder) (map (λ v. v.items) c.deref-2.result.now)) c.as_str-2.ensures.value
    c.in_ok-write_origins.ensures) in
    (f, c.in_ok-file.ensures.said, parted.0, (opened.expander.machine, is.machine, reads), parted.2, parted.3, made, one, parts, origins, refl)
