-- The table of names that a file's programs may use.
use Rattle.std.proofs.Common.{◌≡◌, ℕ, true, false, List, length, Some, None, refl, sym, ap, ◌∙◌}
use Rattle.std.specs.Option.{option_or}
use Rattle.bpf_shared.specs.declared.shapes.ArrayShape.{ArrayShape}
use Rattle.bpf_text.specs.Symbols.{Table}
use Rattle.bpf_file.specs.Parts.{Part}
use Rattle.bpf_file.specs.Symbols.{symbol_at, maps_from, variables_from, names_for}
use Rattle.bpf_file.specs.Version.{has_arrays}
use mathlib.Core.Path.{fun_ext}

-- one that says of each name what the file says
pub table_made : (p : Part) (t : Table) (maps : ℕ) (arrays : List ArrayShape) → has_arrays p.version ≡ true → maps ≡ length p.file.maps → arrays ≡ p.file.arrays
    → ((q : List ℕ) → t q ≡ option_or (maps_from (symbol_at maps arrays) 0 p.file.names.maps q) (variables_from p.file.names.variables q)) →
    Some t ≡ names_for p
table_made p t maps arrays has counted same each =
    let T : ℕ → List ArrayShape → Table = λ m gs q. option_or (maps_from (symbol_at m gs) 0 p.file.names.maps q) (variables_from p.file.names.variables q) in
    let whole : t ≡ T maps arrays = fun_ext each in
    ap Some (whole ∙ ap (λ m. T m arrays) counted ∙ ap (λ gs. T (length p.file.maps) gs) same) ∙ sym (rw has refl)

pub no_table : (p : Part) → has_arrays p.version ≡ false → None ≡ names_for p
no_table p has = sym (rw has refl)
