-- Jobs that have ended, one by one.
use Rattle.std.proofs.Common.{◌≡◌, ℕ, zero, suc, ◌+◌, ◌<◌, List, [], ◌∷◌, ◌++◌, length, map, get_or, Option, Some, refl, sym, ap, subst}
use Rattle.std.proofs.Common.{◌∙◌, append_assoc, arith}
use Rattle.std.proofs.lemmas.List.{length-map}
use Rattle.std.specs.Prelude.{Bool, ◌||◌, option_and_then, slice_get}
use Rattle.bpf_shared.specs.Store.{Plain}
use Rattle.bpf_cpu.specs.declared.job.Job.{Job}
use Rattle.bpf_cpu.specs.declared.outcome.Outcome.{Outcome}
use Rattle.bpf_cpu.specs.Lines.{job_line}
use Rattle.bpf_cpu.specs.Task.{Task, Ended, ended, waiting}
use Rattle.bpf_names.specs.Names.{Names}
use Rattle.bpf_jobs.specs.Printed.{any_stopped, is_stop, AreMapsAsked, job_lines, task_line, TellsWith}
use Rattle.bpf_workers.specs.Printed.{as_ended}

pub length_ended : (tasks : List Task) (ends : List Outcome) → length ends ≡ length tasks → length (as_ended tasks ends) ≡ length tasks
length_ended [] ends e = refl
length_ended (task ∷ tasks) [] e = absurd (omega (arith, e))
length_ended (task ∷ tasks) (end ∷ ends) e = ap suc (length_ended tasks ends (omega (arith, e)))

at_ended : (tasks : List Task) (ends : List Outcome) (j : ℕ) (task : Task) (end : Outcome) → slice_get tasks j ≡ Some task → slice_get ends j ≡ Some end
    → slice_get (as_ended tasks ends) j ≡ Some (record task { stage = Ended end })
at_ended [] ends j task end a b = cc
at_ended (t ∷ ts) [] j task end a b = cc
at_ended (t ∷ ts) (e ∷ es) zero task end a b =
    let same : t ≡ task = cc in
    let ends : e ≡ end = cc in
    ap (λ (x : Task). Some (record x { stage = Ended e })) same ∙ ap (λ (y : Outcome). Some (record task { stage = Ended y })) ends
at_ended (t ∷ ts) (e ∷ es) (suc j) task end a b = at_ended ts es j task end a b

got : {A : Type 0} (xs : List A) (j : ℕ) (d : A) → j < length xs → slice_get xs j ≡ Some (get_or xs j d)
got [] j d inside = absurd (omega arith)
got (y ∷ ys) zero d inside = refl
got (y ∷ ys) (suc j) d inside = got ys j d (omega arith)

-- some task is where an end does
there : (tasks : List Task) (j : ℕ) → j < length tasks → (task : Task) × (slice_get tasks j ≡ Some task)
there [] j inside = absurd (omega arith)
there (t ∷ ts) zero inside = (t, refl)
there (t ∷ ts) (suc j) inside = there ts j (omega arith)

waits : (jobs : List Job) (j : ℕ) (job : Job) → slice_get jobs j ≡ Some job → slice_get (map waiting jobs) j ≡ Some (waiting job)
waits [] j job a = cc
waits (x ∷ xs) zero job a = let same : x ≡ job = cc in ap (λ (y : Job). Some (waiting y)) same
waits (x ∷ xs) (suc j) job a = waits xs j job a

-- the lines of one job more
pub one_line_more : (jobs : List Job) (ends : List Outcome) (j : ℕ) (job : Job) (end : Outcome) (text new : List ℕ) → j < length jobs →
    length ends ≡ length jobs
    → text ≡ job_lines j (as_ended (map waiting jobs) ends) → new ≡ text ++ job_line j (get_or jobs j job).cpu (get_or ends j end)
    → new ≡ job_lines (j + 1) (as_ended (map waiting jobs) ends)
one_line_more jobs ends j job end text new inside sizes so_far more =
    let all = as_ended (map waiting jobs) ends in
    let one = get_or jobs j job in
    let so = get_or ends j end in
    let found = at_ended (map waiting jobs) ends j (waiting one) so (waits jobs j one (got jobs j job inside)) (got ends j end (omega (arith, sizes))) in
    let next : suc j ≡ j + 1 = omega arith in
    subst (λ (n : ℕ). new ≡ job_lines n all) next
    (more ∙ ap (λ (t : List ℕ). t ++ job_line j one.cpu so) so_far ∙ ap (λ (o : Option Task). job_lines j all ++ task_line j o) (sym found))

-- one job more that may have stopped
pub one_stop_more : (tasks : List Task) (ends : List Outcome) (j : ℕ) (end : Outcome) (so_far stop : Bool) → j < length ends → length tasks ≡ length ends
    → so_far ≡ any_stopped j (as_ended tasks ends) → stop ≡ is_stop (Some (get_or ends j end))
    → so_far || stop ≡ any_stopped (j + 1) (as_ended tasks ends)
one_stop_more tasks ends j end so_far stop inside sizes before is =
    let all = as_ended tasks ends in
    let so = get_or ends j end in
    let here = there tasks j (omega (arith, sizes)) in
    let found = at_ended tasks ends j here.0 so here.1 (got ends j end inside) in
    let next : suc j ≡ j + 1 = omega arith in
    subst (λ (n : ℕ). so_far || stop ≡ any_stopped n all) next
    (ap (λ (b : Bool). b || stop) before ∙ ap (λ (b : Bool). any_stopped j all || b) is
    ∙ ap (λ (o : Option Task). any_stopped j all || is_stop (option_and_then (λ (task : Task). ended task.stage) o)) (sym found))

-- all that is printed of jobs that have ended so
pub told : (jobs : List Job) (ends : List Outcome) (last : Plain) (names : Names) (maps : Bool) (text listed keys lines both new : List ℕ) (stopped : Bool)
    → length ends ≡ length jobs → AreMapsAsked maps last names lines → text ≡ job_lines (length jobs) (as_ended (map waiting jobs) ends) → keys ≡ listed
    → both ≡ text ++ keys → new ≡ both ++ lines
    → ((tasks : List Task) → length tasks ≡ length ends → stopped ≡ any_stopped (length ends) (as_ended tasks ends))
    → TellsWith listed last (as_ended (map waiting jobs) ends) names maps new stopped
told jobs ends last names maps text listed keys lines both new stopped sizes asked line lists more all_more stops =
    let all = as_ended (map waiting jobs) ends in
    let tasks : length (map waiting jobs) ≡ length jobs = length-map jobs waiting in
    let whole : length all ≡ length jobs = length_ended (map waiting jobs) ends (sizes ∙ sym tasks) ∙ tasks in (
      lines,
      asked,
      all_more ∙ (ap (λ (t : List ℕ). t ++ lines) more ∙ (append_assoc text keys lines
          ∙ (ap (λ (t : List ℕ). t ++ (keys ++ lines)) (line ∙ ap (λ (n : ℕ). job_lines n all) (sym whole))
          ∙ ap (λ (t : List ℕ). job_lines (length all) all ++ (t ++ lines)) lists))),
      stops (map waiting jobs) (tasks ∙ sym sizes) ∙ ap (λ (n : ℕ). any_stopped n all) (sizes ∙ sym whole),
    )
