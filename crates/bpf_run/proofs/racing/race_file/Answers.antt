use Rattle.std.proofs.Common.{◌≡◌, Option, Some, None, map, refl, subst}
use Rattle.std.specs.Prelude.{IfNone, string_bytes}
use Rattle.bpf_names.specs.Names.{names_of}
use Rattle.bpf_file.specs.File.{file_of}
use Rattle.bpf_races.specs.Sync.{IsAnyUnknown}
use Rattle.bpf_run.proofs.racing.race_file.Goals as goal

none_is : {A : Type 0} (P : Type 0) (o : Option A) → IfNone o P → ((x : A) → o ≡ Some x → ⊥) → P
none_is P None h never = h
none_is P (Some x) h never = absurd (never x refl)

pub returns-in_default : goal.returns-in_default
returns-in_default g c =
    let f = c.in_ok-file.file in
    let P : Type 0 = IsAnyUnknown (names_of f.names) f.setup.shape.maps (map string_bytes c.deref.result.now) in
    let found = none_is P c.in_ok-parts.field-0 c.in_ok-parts.ensures.unknown c.in_default.not-Some in
    let unknown = subst (λ texts. IsAnyUnknown (names_of f.names) f.setup.shape.maps (map string_bytes texts)) c.deref.ensures.value found in
    (file_of f, c.in_ok-file.ensures.said, unknown)
