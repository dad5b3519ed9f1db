use Rattle.std.proofs.Common.{◌≡◌, List, Some, length, refl, subst}
use Rattle.std.specs.Prelude.{slice_get}
use Rattle.std.proofs.lemmas.Option.{slice_get_read}
use Rattle.bpf_explore.specs.declared.scouts.Scout.{Scout}
use Rattle.bpf_explore.proofs.scouts.Scouts.find.Goals as goal

pub returns : goal.returns
returns c =
    let is = c.in_ok-note.ensures in
    let one = c.in_ok-get.field-0.now in
    let read = c.in_ok-get.ensures.lookup in
    let there : slice_get c.deref.result.now c.in_ok-scout.scout ≡ Some one =
    slice_get_read c.deref.result.now (length c.deref.result.now) c.in_ok-scout.scout one refl read.3.0 read.1 in
    (is.0, is.1, (one, subst (λ (l : List Scout). slice_get l c.in_ok-scout.scout ≡ Some one) c.deref.ensures.value there, is.2))
