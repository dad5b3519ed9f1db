use Rattle.std.proofs.Common.{◌≡◌, ◌∙◌, ◌<◌, ℕ, List, Option, Some, String, Vec, Global, ap, length, map, option_map, slice_get}
use Rattle.std.proofs.Common.{string_bytes, subst, sym, arith}
use Rattle.std.specs.Prelude.{IfSome}
use Rattle.std.proofs.lemmas.List.{map-append}
use Rattle.std.proofs.lemmas.Option.{slice_get-get_or, slice_get-map}
use Rattle.bpf_expand.specs.Parts.{records_of}
use Rattle.bpf_run.proofs.FilesRead.{one_more_read}
use Rattle.bpf_run.proofs.spreading.read_files.Goals as goal

pub loop-name-preserved : goal.loop-name-preserved
loop-name-preserved g c =
    let names = c.args.names.now in
    let n = c.loop-name.name-index in
    let one = c.name-item.result in
    let F = g.R.Source.file c.args.source.now in
    let name = c.deref.result.now in
    let less : n < length names = omega arith in
    let at : slice_get (map string_bytes names) n ≡ Some name =
    slice_get-map string_bytes names n
    ∙ (ap (option_map string_bytes) (slice_get-get_or names n one less ∙ ap (λ (v : String Global). Some v) (sym c.name-item.is))
    ∙ ap (λ (l : List ℕ). Some l) (sym c.deref.ensures)) in
    let items : Vec ℕ Global → List ℕ = λ v. v.items in
    let old = c.loop-name.read.states.items in
    let new = c.in_ok-states.states.items in
    let joined = ap (map items) c.in_ok-put_states.ensures ∙ map-append items old new in
    let is = subst (λ (f : List ℕ → Option (List ℕ)). IfSome (f name) (λ bytes. bytes ≡ records_of (map items new)))
    c.loop-name.invariant.files c.in_ok-states.ensures.read in
    record {
      files = c.states_of.ensures.files ∙ c.loop-name.invariant.files;
      read = one_more_read F (map string_bytes names) n name (map items old) (map items new) (map items c.put_states.new.read.states.items) at
          c.loop-name.invariant.read is joined;
    }
