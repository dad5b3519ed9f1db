use Rattle.std.proofs.Common.{◌≡◌, ◌∙◌, List, ℕ, Option, String, Vec, Global, length, map, string_bytes, subst, sym}
use Rattle.std.proofs.lemmas.List.{length-map}
use Rattle.clap.specs.Words.{Text}
use Rattle.bpf_names.specs.Names.{names_of}
use Rattle.bpf_expand.specs.Parts.{IsParted}
use Rattle.bpf_run.specs.Spreading.{AreAllRead, AreRead, ReadsAt}
use Rattle.bpf_run.proofs.FilesRead.{all_read, at_parted}
use Rattle.bpf_run.proofs.spreading.parts_in.Goals as goal

pub returns-in-Parted-clause-parted : goal.returns-in-Parted-clause-parted
returns-in-Parted-clause-parted g c =
    let files : Text → Option (List ℕ) = g.R.Source.file c.args.source.now in
    let spread = c.args.spread.now in
    let f : Vec ℕ Global → List ℕ = λ v. v.items in
    let read : List (List ℕ) = map f c.in_ok-states.field-0.states.items in
    let seen : List (List ℕ) = map f c.in_ok-known.known.states.items in
    let reads : ReadsAt c.args.expander.now.host c.args.expander.now.machine files (map string_bytes spread.states.items) read =
    subst (λ (l : List (String Global)). ReadsAt c.args.expander.now.host c.args.expander.now.machine files (map string_bytes l) read)
    c.deref.ensures.value c.in_ok-states.ensures.read in
    let known : AreAllRead files (map string_bytes spread.seen.items) seen =
    all_read files _ c.deref-2.result.now spread.seen.items seen c.in_ok-states.ensures.files c.deref-2.ensures.value c.in_ok-known.ensures.read in
    let parted : IsParted c.parts_of.new.expander.host (names_of c.args.names.now) spread.parts read seen c.in-Parted.made =
    subst (λ (n : ℕ). IsParted c.parts_of.new.expander.host (names_of c.args.names.now) n read seen c.in-Parted.made) c.from-parts.ensures
    (at_parted c.in_ok-made.field-0 _ c.in-Parted.made c.in-Parted.is c.in_ok-made.ensures.parted) in
    (read, reads, seen, known, parted)
