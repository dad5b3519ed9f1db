-- What is printed of the jobs' ends, of the machine that turns lead to.
use Rattle.std.proofs.Common.{◌≡◌, ℕ, zero, suc, ◌<◌, Bool, false, List, [], ◌∷◌, ◌++◌, length, Some, None, refl, sym, ap, subst, ◌∙◌, arith}
use Rattle.std.specs.Prelude.{slice_get}
use Rattle.bpf_shared.specs.declared.events.Entry.{Entry}
use Rattle.bpf_shared.specs.declared.shapes.MapShape.{MapShape}
use Rattle.bpf_shared.specs.Shape.{Shape, IsMap}
use Rattle.bpf_shared.specs.Store.{Plain, as_made}
use Rattle.bpf_shared.specs.History.{IsLegal, Legal}
use Rattle.bpf_pairs.specs.Pairs.{Pair}
use Rattle.bpf_pairs.specs.Putting.{first_history}
use Rattle.bpf_pairs.specs.Filled.{filled}
use Rattle.bpf_cpu.specs.declared.outcome.Outcome.{Outcome}
use Rattle.bpf_cpu.specs.Task.{Task, Ended}
use Rattle.bpf_machine.specs.Rounds.{HaveEnded}
use Rattle.bpf_machine.specs.Schedule.{World}
use Rattle.bpf_jobs.specs.Printed.{cpu_lines, list_lines, TellsWith}
use Rattle.bpf_file.specs.File.{File, shape_of}
use Rattle.bpf_sched.specs.Explained.{IsExplained}
use Rattle.bpf_workers.specs.Printed.{as_ended, Asked, Printed, IsWorkersReport}
use Rattle.bpf_explore.specs.Outcomes.{IsOutcome}
use Rattle.bpf_agreement.specs.Ends.{LeadsToo}
use Rattle.bpf_agreement.specs.Laws.{CalmHistoriesAreSchedules, HistoriesAreSchedules, IsFirst}
use Rattle.bpf_agreement.specs.Printed.{machine_of, CalmWorkersPrintOutcomes, WorkersPrintOutcomes}
use Rattle.bpf_agreement.proofs.Agreeing.{none_listed}

-- ---- jobs that have ended so
ended_all : (tasks : List Task) (ends : List Outcome) (jobs : List Task) → length ends ≡ length tasks → length jobs ≡ length tasks
    → ((k : ℕ) (task : Task) → slice_get tasks k ≡ Some task → (end : Outcome) × (slice_get ends k ≡ Some end) ×
    (slice_get jobs k ≡ Some (record task { stage = Ended end })))
    → jobs ≡ as_ended tasks ends
ended_all [] ends [] e f each = refl
ended_all [] ends (job ∷ jobs) e f each = absurd (let no : suc (length jobs) ≡ 0 = f in omega arith)
ended_all (task ∷ tasks) [] jobs e f each = absurd (let no : 0 ≡ suc (length tasks) = e in omega arith)
ended_all (task ∷ tasks) (end ∷ ends) [] e f each = absurd (let no : 0 ≡ suc (length tasks) = f in omega arith)
ended_all (task ∷ tasks) (end ∷ ends) (job ∷ jobs) e f each =
    let first = each 0 task refl in
    let ended : end ≡ first.0 = one_end end first.0 first.1 in
    let is : job ≡ record task { stage = Ended first.0 } = one_task job (record task { stage = Ended first.0 }) first.2 in
    ap (λ (t : Task). t ∷ jobs) (is ∙ ap (λ (o : Outcome). record task { stage = Ended o }) (sym ended))
    ∙ ap (λ (ts : List Task). record task { stage = Ended end } ∷ ts)
    (ended_all tasks ends jobs (less (length ends) (length tasks) e) (less (length jobs) (length tasks) f) (λ k t at. each (suc k) t at))
  where
    less : (m n : ℕ) → suc m ≡ suc n → m ≡ n
    less m n h = omega arith

    one_end : (a b : Outcome) → Some a ≡ Some b → a ≡ b
    one_end a b h = cc

    one_task : (a b : Task) → Some a ≡ Some b → a ≡ b
    one_task a b h = cc

have_ended : (tasks : List Task) (ends : List Outcome) → HaveEnded (as_ended tasks ends)
have_ended [] ends j task at = absurd (nothing task at)
  where
    nothing : (x : Task) → None ≡ Some x → ⊥
    nothing x e = cc
have_ended (t ∷ ts) [] j task at = absurd (nothing task at)
  where
    nothing : (x : Task) → None ≡ Some x → ⊥
    nothing x e = cc
have_ended (t ∷ ts) (e ∷ es) zero task at = (e, ap (λ (x : Task). x.stage) (same task (record t { stage = Ended e }) at))
  where
    same : (a b : Task) → Some b ≡ Some a → a ≡ b
    same a b h = cc
have_ended (t ∷ ts) (e ∷ es) (suc j) task at = have_ended ts es j task at

-- ---- no lists
no_lines : (names : List (List ℕ)) (lists : ℕ → List (List (List ℕ))) (n : ℕ) → ((c : ℕ) → c < n → lists c ≡ []) → list_lines lists names n ≡ []
no_lines names lists zero none = refl
no_lines names lists (suc n) none = both _ _ (no_lines names lists n (λ c less. none c (omega arith))) (own (lists n) (none n (omega arith)))
  where
    both : (xs ys : List ℕ) → xs ≡ [] → ys ≡ [] → xs ++ ys ≡ []
    both xs ys p q = ap (λ (l : List ℕ). l ++ ys) p ∙ q

    own : (found : List (List (List ℕ))) → found ≡ [] → cpu_lines n names (length found) found ≡ []
    own found e = ap (λ (l : List (List (List ℕ))). cpu_lines n names (length l) l) e

-- ---- pairs
-- where there is no map, none has a pair
no_pairs : (h : Shape) (ps : List Pair) (rest history : List Entry) → h.maps ≡ [] → IsLegal h history → history ≡ first_history ps ++ rest → ps ≡ []
no_pairs h [] rest history none legal is = refl
no_pairs h (p ∷ ps) rest history none legal is =
    let l = subst (λ (es : List Entry). Legal (as_made h) es legal.0) is legal.1 in
    let there = l.2.1.1 in
    let at : IsMap h.maps p.map there.0 = subst (λ (s : Plain). IsMap s.shape.maps p.map there.0) l.1.2 there.1 in
    absurd (let nothing = subst (λ (maps : List MapShape). IsMap maps p.map there.0) none at in cc)

-- no list is in the report, and no pair was put in
unlisted : (f : File) (asked : Asked) (printed : Printed) (report : IsWorkersReport f asked printed) → f.pairs ≡ [] → asked.keys ≡ false →
    IsExplained (shape_of f) 0 [] f.programs f.jobs false report.ends report.lists report.closed.history
unlisted f asked printed report bare none =
    subst (λ (ps : List Pair). IsExplained (shape_of f) 0 (first_history ps) f.programs f.jobs false report.ends report.lists report.closed.history) bare
    (subst (λ (keys : Bool). IsExplained (shape_of f) 0 (first_history f.pairs) f.programs f.jobs keys report.ends report.lists
    report.closed.history) none report.explained)

-- what is printed of the history's end is printed of the machine that turns lead to
told_alike : (f : File) (asked : Asked) (printed : Printed) (report : IsWorkersReport f asked printed) → f.pairs ≡ [] → asked.keys ≡ false →
    LeadsToo (machine_of f) f.jobs report.ends report.last → IsOutcome (machine_of f) f.names asked.maps printed.text printed.stopped
told_alike f asked printed report bare none leads =
    let explained = unlisted f asked printed report bare none in
    let z : World = leads.world in
    let jobs : z.jobs ≡ as_ended f.jobs report.ends = ended_all f.jobs report.ends z.jobs explained.each_ended leads.size leads.each in
    -- the maps' names are those that the report has
    let without : TellsWith [] report.last (as_ended f.jobs report.ends) f.names asked.maps printed.text printed.stopped =
    subst (λ (text : List ℕ). TellsWith text report.last (as_ended f.jobs report.ends) f.names asked.maps printed.text printed.stopped)
    (no_lines _ report.lists f.cpus (λ c inside. none_listed (report.lists c) (explained.each_listed c inside))) report.tells in
    let of_store = subst (λ (s : Plain). TellsWith [] s (as_ended f.jobs report.ends) f.names asked.maps printed.text printed.stopped)
    (sym leads.store) without in
    let tells = subst (λ (ts : List Task). TellsWith [] z.store ts f.names asked.maps printed.text printed.stopped) (sym jobs) of_store in
    (leads.schedule, (z, leads.runs, subst HaveEnded (sym jobs) (have_ended f.jobs report.ends), tells))

first : (f : File) → f.pairs ≡ [] → IsFirst (shape_of f) f.programs f.jobs (machine_of f)
first f bare = record { store = ap (filled (shape_of f)) bare; programs = refl; jobs = refl }

pub workers_print_outcomes : HistoriesAreSchedules → WorkersPrintOutcomes
workers_print_outcomes law f asked printed arrays none report =
    let bare = no_pairs (shape_of f) f.pairs report.explained.rest report.closed.history arrays.maps report.explained.legal report.explained.begins in
    told_alike f asked printed report bare none
    (law (shape_of f) f.programs f.jobs report.ends report.lists report.closed.history report.last (machine_of f) arrays (first f bare)
    (unlisted f asked printed report bare none) report.leads.legal)

pub calm_workers_print_outcomes : CalmHistoriesAreSchedules → CalmWorkersPrintOutcomes
calm_workers_print_outcomes law f asked printed shape bare few fresh steps none report =
    told_alike f asked printed report bare none
    (law (shape_of f) f.programs f.jobs report.ends report.lists report.closed.history report.last (machine_of f) shape few (first f bare)
    fresh steps (unlisted f asked printed report bare none) report.leads.legal)
