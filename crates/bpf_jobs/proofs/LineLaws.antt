-- Lines of jobs.
use Rattle.std.proofs.Common.{◌≡◌, ℕ, suc, ◌+◌, ◌<◌, List, [], ◌++◌, length, map, get_or, Option, Some, None, refl, sym, ap, subst, ◌∙◌, append_assoc, arith}
use Rattle.std.specs.Prelude.{option_map, option_and_then, Vec}
use Rattle.std.specs.declared.alloc.Global.{Global}
use Rattle.std.proofs.lemmas.List.{get_or-map}
use Rattle.bpf_shared.specs.Listing.{Pair, pair_at, pair_of}
use Rattle.bpf_cpu.specs.declared.outcome.Outcome.{Outcome}
use Rattle.bpf_cpu.specs.Lines.{job_line}
use Rattle.bpf_cpu.specs.Task.{Task, ended}
use Rattle.bpf_jobs.specs.Printed.{end_line, task_line, key_line, key_lines}

pub no_cpu : (j : ℕ) (o : Option Task) → option_map (λ task. task.cpu) o ≡ None → task_line j o ≡ []
no_cpu j None e = refl
no_cpu j (Some task) e = cc

pub no_outcome : (j : ℕ) (o : Option Task) → option_and_then (λ task. ended task.stage) o ≡ None → task_line j o ≡ []
no_outcome j None e = refl
no_outcome j (Some task) e = ap (end_line j task) e

pub has_ended : (j : ℕ) (o : Option Task) (cpu : ℕ) (end : Outcome) → option_map (λ task. task.cpu) o ≡ Some cpu → option_and_then
    (λ task. ended task.stage) o ≡ Some end → task_line j o ≡ job_line j cpu end
has_ended j None cpu end c e = cc
has_ended j (Some task) cpu end c e = let same : task.cpu ≡ cpu = cc in ap (end_line j task) e ∙ ap (λ (n : ℕ). job_line j n end) same

-- a pair of a listing, as its keys and values are read
pub pair_read : (pairs : List (Vec ℕ Global × Vec ℕ Global)) (i : ℕ) (x : Vec ℕ Global × Vec ℕ Global) → i < length pairs → x ≡ get_or pairs
    i x → pair_at (map pair_of pairs) i ≡ pair_of x
pair_read pairs i x inside e = get_or-map pair_of pairs i x ([], []) inside ∙ ap pair_of (sym e)

-- the lines of one key more
pub one_key_more : (name old text new : List ℕ) (pairs : List (Vec ℕ Global × Vec ℕ Global)) (i : ℕ) (x : Vec ℕ Global × Vec ℕ Global) → i <
    length pairs → x ≡ get_or pairs i x
    → text ≡ old ++ key_lines name i (map pair_of pairs) → new ≡ text ++ key_line name x.0.items x.1.items → new ≡ old ++ key_lines name
    (i + 1) (map pair_of pairs)
one_key_more name old text new pairs i x inside e so_far more =
    let pair = pair_read pairs i x inside e in
    let lines = key_lines name i (map pair_of pairs) in
    let next : suc i ≡ i + 1 = omega arith in
    subst (λ (n : ℕ). new ≡ old ++ key_lines name n (map pair_of pairs)) next
    (more ∙ ap (λ (t : List ℕ). t ++ key_line name x.0.items x.1.items) so_far ∙ append_assoc old lines (key_line name x.0.items x.1.items)
    ∙ ap (λ (p : Pair). old ++ (lines ++ key_line name p.0 p.1)) (sym pair))
