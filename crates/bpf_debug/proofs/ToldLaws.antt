-- What is printed of the maps and of the jobs.
use Rattle.std.proofs.Common.{◌≡◌, ℕ, suc, ◌+◌, ◌<◌, List, [], ◌++◌, length, map, get_or, Option, Some, None, refl, sym, ap, subst, ◌∙◌}
use Rattle.std.proofs.Common.{append_assoc, arith, String}
use Rattle.std.specs.Prelude.{option_map, option_and_then, slice_get, slice_index_or, string_bytes}
use Rattle.std.specs.declared.alloc.Global.{Global}
use Rattle.std.proofs.lemmas.List.{get_or-map}
use Rattle.std.proofs.lemmas.Option.{slice_get-map, slice_get_read}
use Rattle.bpf_shared.specs.declared.shapes.ArrayShape.{ArrayShape}
use Rattle.bpf_shared.specs.declared.shapes.MapShape.{MapShape}
use Rattle.bpf_cpu.specs.declared.outcome.Outcome.{Outcome}
use Rattle.bpf_cpu.specs.Lines.{job_line}
use Rattle.bpf_cpu.specs.Task.{Task, ended}
use Rattle.bpf_names.specs.declared.names.Variable.{Variable as NamedBytes}
use Rattle.bpf_names.specs.Names.{Variable, variable_of}
use Rattle.bpf_debug.specs.Told.{array_line, array_lines, named_array, named_line, named_place, place_line, place_lines, shape_lines}
use Rattle.bpf_debug.specs.Told.{open_line, told_line, told_job, told_jobs}

-- ---- jobs
pub no_cpu : (j : ℕ) (o : Option Task) → option_map (λ task. task.cpu) o ≡ None → told_job j o ≡ []
no_cpu j None e = refl
no_cpu j (Some task) e = cc

pub is_open : (j : ℕ) (o : Option Task) (cpu : ℕ) → option_map (λ task. task.cpu) o ≡ Some cpu → option_and_then (λ task. ended task.stage)
    o ≡ None → told_job j o ≡ open_line j cpu
is_open j None cpu c e = cc
is_open j (Some task) cpu c e = let same : task.cpu ≡ cpu = cc in ap (told_line j task.cpu) e ∙ ap (open_line j) same

pub has_ended : (j : ℕ) (o : Option Task) (cpu : ℕ) (end : Outcome) → option_map (λ task. task.cpu) o ≡ Some cpu → option_and_then
    (λ task. ended task.stage) o ≡ Some end → told_job j o ≡ job_line j cpu end
has_ended j None cpu end c e = cc
has_ended j (Some task) cpu end c e = let same : task.cpu ≡ cpu = cc in ap (told_line j task.cpu) e ∙ ap (λ (n : ℕ). job_line j n end) same

pub one_job_more : (old text new : List ℕ) (jobs : List Task) (j : ℕ) → text ≡ old ++ told_jobs j jobs → new ≡ text ++ told_job j
    (slice_get jobs j) → new ≡ old ++ told_jobs (j + 1) jobs
one_job_more old text new jobs j so_far more =
    let next : suc j ≡ j + 1 = omega arith in
    let line = told_job j (slice_get jobs j) in
    subst (λ (n : ℕ). new ≡ old ++ told_jobs n jobs) next (more ∙ ap (λ (t : List ℕ). t ++ line) so_far ∙ append_assoc old (told_jobs j jobs) line)

-- ---- maps
pub one_map_more : (text new : List ℕ) (names : List (String Global)) (maps : List MapShape) (i : ℕ) (own : String Global) → i < length
    names → own ≡ get_or names i own
    → text ≡ shape_lines (map string_bytes names) maps i → new ≡ text ++ named_line (string_bytes own) (slice_get maps i) → new ≡
    shape_lines (map string_bytes names) maps (i + 1)
one_map_more text new names maps i own inside is so_far more =
    let name : get_or (map string_bytes names) i [] ≡ string_bytes own = get_or-map (λ n. string_bytes n) names i own [] inside ∙ ap
    (λ (n : String Global). string_bytes n) (sym is) in
    let next : suc i ≡ i + 1 = omega arith in
    subst (λ (n : ℕ). new ≡ shape_lines (map string_bytes names) maps n) next
    (more ∙ ap (λ (t : List ℕ). t ++ named_line (string_bytes own) (slice_get maps i)) so_far
    ∙ ap (λ (n : List ℕ). shape_lines (map string_bytes names) maps i ++ named_line n (slice_get maps i)) (sym name))

-- ---- arrays and variables
pub one_array_more : (text new name : List ℕ) (names : List (List ℕ)) (maps : ℕ) (arrays : List ArrayShape) (i : ℕ) (g : ArrayShape) →
    slice_get arrays i ≡ Some g → name ≡ slice_index_or names (maps + i) []
    → text ≡ array_lines names maps arrays i → new ≡ text ++ array_line name g → new ≡ array_lines names maps arrays (i + 1)
one_array_more text new name names maps arrays i g there is so_far more =
    let next : suc i ≡ i + 1 = omega arith in
    subst (λ (n : ℕ). new ≡ array_lines names maps arrays n) next
    (more ∙ ap (λ (t : List ℕ). t ++ array_line name g) so_far
    ∙ ap (λ (n : List ℕ). array_lines names maps arrays i ++ array_line n g) is
    ∙ ap (λ (o : Option ArrayShape). array_lines names maps arrays i ++ named_array (slice_index_or names (maps + i) []) o) (sym there))

there : (vs : List NamedBytes) (i : ℕ) (v : NamedBytes) → i < length vs → v ≡ get_or vs i v → slice_get (map variable_of vs) i ≡ Some (variable_of v)
there vs i v inside is = slice_get-map variable_of vs i ∙ ap (option_map variable_of) (slice_get_read vs (length vs) i v refl inside is)

pub one_place_more : (text new array : List ℕ) (names : List (List ℕ)) (maps : ℕ) (vs : List NamedBytes) (i : ℕ) (v : NamedBytes) → i <
    length vs → v ≡ get_or vs i v
    → array ≡ slice_index_or names (maps + v.array) [] → text ≡ place_lines names maps (map variable_of vs) i → new ≡ text ++ place_line array (variable_of v)
    → new ≡ place_lines names maps (map variable_of vs) (i + 1)
one_place_more text new array names maps vs i v inside is named so_far more =
    let next : suc i ≡ i + 1 = omega arith in
    let all = map variable_of vs in
    subst (λ (n : ℕ). new ≡ place_lines names maps all n) next
    (more ∙ ap (λ (t : List ℕ). t ++ place_line array (variable_of v)) so_far
    ∙ ap (λ (n : List ℕ). place_lines names maps all i ++ place_line n (variable_of v)) named
    ∙ ap (λ (o : Option Variable). place_lines names maps all i ++ named_place names maps o) (sym (there vs i v inside is)))

-- ---- texts, one after the other
pub behind_both : (x y z a b : List ℕ) → y ≡ x ++ a → z ≡ y ++ b → z ≡ x ++ (a ++ b)
behind_both x y z a b first second = second ∙ ap (λ (s : List ℕ). s ++ b) first ∙ append_assoc x a b
