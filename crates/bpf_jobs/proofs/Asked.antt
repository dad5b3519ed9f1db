-- What is printed besides lines of jobs, put together.
use Rattle.std.proofs.Common.{◌≡◌, ◌∙◌, ◌++◌, ℕ, Bool, true, List, ap, append_assoc, length, map, subst, sym}
use Rattle.std.proofs.lemmas.List.{length-map}
use Rattle.bpf_shared.specs.Store.{Plain}
use Rattle.bpf_names.specs.declared.names.Variable.{Variable as NamedBytes}
use Rattle.bpf_names.specs.Names.{Names, variable_of}
use Rattle.bpf_cpu.specs.Task.{Task}
use Rattle.bpf_jobs.specs.Printed.{AreMapLines, AreMapsAsked, array_lines, fixed_lines, job_lines, variable_lines}

-- lines of jobs, then of lists, then these
pub told_lines : (jobs own : List Task) (text lists lines both new listed : List ℕ) → own ≡ jobs → text ≡ job_lines (length jobs) jobs →
    lists ≡ listed → both ≡ text ++ lists → new ≡ both ++ lines
    → new ≡ job_lines (length own) own ++ (listed ++ lines)
told_lines jobs own text lists lines both new listed same first second joined all =
    all ∙ (ap (λ (t : List ℕ). t ++ lines) joined ∙ (append_assoc text lists lines
    ∙ (ap (λ (t : List ℕ). t ++ (lists ++ lines)) (first ∙ ap (λ (js : List Task). job_lines (length js) js) (sym same))
    ∙ ap (λ (t : List ℕ). job_lines (length own) own ++ (t ++ lines)) second)))

-- lines of variables, then of arrays
pub fixed_told : (s : Plain) (names : Names) (own items : List NamedBytes) (first second new : List ℕ) → own ≡ items → names.variables ≡ map variable_of items
    → first ≡ variable_lines s (map variable_of own) (length own) → second ≡ array_lines s names (length s.shape.arrays) → new ≡ first ++
    second → new ≡ fixed_lines s names
fixed_told s names own items first second new same are one two all =
    let named = one ∙ (ap (λ (vs : List NamedBytes). variable_lines s (map variable_of vs) (length vs)) same
    ∙ (ap (λ (n : ℕ). variable_lines s (map variable_of items) n) (sym (length-map items variable_of))
    ∙ ap (λ vs. variable_lines s vs (length vs)) (sym are))) in
    all ∙ (ap (λ (t : List ℕ). t ++ second) named ∙ ap (λ (t : List ℕ). variable_lines s names.variables (length names.variables) ++ t) two)

-- lines of maps, then those, where they are asked for
pub maps_told : (maps : Bool) (s : Plain) (names : Names) (lines text : List ℕ) → maps ≡ true → AreMapLines s names.maps
    (length s.shape.maps) lines → text ≡ lines ++ fixed_lines s names → AreMapsAsked maps s names text
maps_told maps s names lines text asked are all = subst (λ (b : Bool). AreMapsAsked b s names text) (sym asked) (lines, are, all)
