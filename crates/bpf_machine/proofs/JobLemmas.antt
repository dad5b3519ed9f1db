-- Jobs' stages one after the other, and what they are saved as.
use Rattle.std.proofs.Common.{◌≡◌, ℕ, suc, ◌+◌, ◌<◌, List, [], ◌∷◌, ◌++◌, length, take, drop, get_or, refl, sym, ap, subst, ◌∙◌, arith, append_assoc}
use Rattle.std.proofs.Math.Seq.{take-suc, drop-cons}
use Rattle.std.specs.Prelude.{slice_set}
use Rattle.std.proofs.lemmas.List.{append-nil, take-append-drop, take_more_set}
use Rattle.bpf_cpu.specs.Task.{Stage, Task}
use Rattle.bpf_machine.specs.Saved.{jobs_saved, input_of, stage_saved, AreLater, HoldWhatMayBe, HoldsWhatMayBe, IsLater}
use Rattle.bpf_machine.proofs.StageLemmas.{stages_told}

-- ---- one more
later_last : (firsts jobs : List Task) (first task : Task) → AreLater firsts jobs → IsLater first task → AreLater (firsts ++ first ∷ []) (jobs ++ task ∷ [])
later_last [] [] first task are is = (is, tt)
later_last [] (t ∷ ts) first task are is = absurd are
later_last (f ∷ fs) [] first task are is = absurd are
later_last (f ∷ fs) (t ∷ ts) first task are is = (are.0, later_last fs ts first task are.1 is)

later_more : (all jobs : List Task) (n : ℕ) (d task : Task) → n < length all → AreLater (take n all) jobs → IsLater (get_or all n d) task →
    AreLater (take (n + 1) all) (jobs ++ task ∷ [])
later_more all jobs n d task inside are is =
    let more : n + 1 ≡ suc n = omega arith in
    let whole : take (n + 1) all ≡ take n all ++ get_or all n d ∷ [] = ap (λ (k : ℕ). take k all) more ∙ take-suc all n d inside in
    subst (λ (l : List Task). AreLater l (jobs ++ task ∷ [])) (sym whole) (later_last (take n all) jobs (get_or all n d) task are is)

-- the same in place
pub later_set : (all jobs : List Task) (n : ℕ) (d task : Task) → n < length all → n < length jobs → AreLater (take n all) (take n jobs) →
    IsLater (get_or all n d) task
    → AreLater (take (n + 1) all) (take (n + 1) (slice_set jobs n task))
later_set all jobs n d task inside within are is =
    subst (λ (l : List Task). AreLater (take (n + 1) all) l) (sym (take_more_set jobs n task within)) (later_more all (take n jobs) n d task inside are is)

pub saved_last : (jobs : List Task) (task : Task) → jobs_saved (jobs ++ task ∷ []) ≡ jobs_saved jobs ++ stage_saved task.stage
saved_last [] task = append-nil (stage_saved task.stage)
saved_last (t ∷ ts) task = ap (λ (l : List ℕ). stage_saved t.stage ++ l) (saved_last ts task) ∙ sym
    (append_assoc (stage_saved t.stage) (jobs_saved ts) (stage_saved task.stage))

saved_more : (bytes rest behind : List ℕ) (jobs : List Task) (task : Task) → bytes ≡ jobs_saved jobs ++ rest → rest ≡ stage_saved task.stage
    ++ behind → bytes ≡ jobs_saved (jobs ++ task ∷ []) ++ behind
saved_more bytes rest behind jobs task read more =
    read ∙ (ap (λ (l : List ℕ). jobs_saved jobs ++ l) more
    ∙ (sym (append_assoc (jobs_saved jobs) (stage_saved task.stage) behind) ∙ ap (λ (l : List ℕ). l ++ behind) (sym (saved_last jobs task))))

pub saved_set : (bytes rest behind : List ℕ) (jobs : List Task) (n : ℕ) (task : Task) → n < length jobs → bytes ≡ jobs_saved (take n jobs)
    ++ rest → rest ≡ stage_saved task.stage ++ behind
    → bytes ≡ jobs_saved (take (n + 1) (slice_set jobs n task)) ++ behind
saved_set bytes rest behind jobs n task within read more =
    subst (λ (l : List Task). bytes ≡ jobs_saved l ++ behind) (sym (take_more_set jobs n task within))
    (saved_more bytes rest behind (take n jobs) task read more)

-- ---- equal bytes are those of equal jobs
-- what comes after the jobs that were read, of other jobs that are saved so
pub jobs_behind : (fs gs ts os : List Task) (rest more : List ℕ) → AreLater fs ts → AreLater (fs ++ gs) os → HoldWhatMayBe os → jobs_saved
    ts ++ rest ≡ jobs_saved os ++ more
    → (ls : List Task) × AreLater gs ls × HoldWhatMayBe ls × (rest ≡ jobs_saved ls ++ more)
jobs_behind [] gs [] os rest more read are may e = (os, are, may, e)
jobs_behind [] gs (t ∷ ts) os rest more read are may e = absurd read
jobs_behind (f ∷ fs) gs [] os rest more read are may e = absurd read
jobs_behind (f ∷ fs) gs (t ∷ ts) [] rest more read are may e = absurd are
jobs_behind (f ∷ fs) gs (t ∷ ts) (o ∷ os) rest more read are may e =
    let is = sym (append_assoc (stage_saved t.stage) (jobs_saved ts) rest) ∙ (e ∙ append_assoc (stage_saved o.stage) (jobs_saved os) more) in
    let two = stages_told f.cpu (input_of f.stage) t.stage o.stage (jobs_saved ts ++ rest) (jobs_saved os ++ more) read.0.stage are.0.stage is in
    jobs_behind fs gs ts os rest more read.1 are.1 may.1 two.1

abbrev task_of : ℕ → ℕ → ℕ → Stage → Task
task_of cpu program budget stage = record { cpu = cpu; program = program; budget = budget; stage = stage }

pub jobs_told : (firsts jobs others : List Task) (rest more : List ℕ) → AreLater firsts jobs → AreLater firsts others → jobs_saved jobs ++
    rest ≡ jobs_saved others ++ more → (jobs ≡ others) × (rest ≡ more)
jobs_told [] [] [] rest more read are e = (refl, e)
jobs_told [] (t ∷ ts) os rest more read are e = absurd read
jobs_told [] [] (o ∷ os) rest more read are e = absurd are
jobs_told (f ∷ fs) [] os rest more read are e = absurd read
jobs_told (f ∷ fs) (t ∷ ts) [] rest more read are e = absurd are
jobs_told (f ∷ fs) (t ∷ ts) (o ∷ os) rest more read are e =
    let is = sym (append_assoc (stage_saved t.stage) (jobs_saved ts) rest) ∙ (e ∙ append_assoc (stage_saved o.stage) (jobs_saved os) more) in
    let two = stages_told f.cpu (input_of f.stage) t.stage o.stage (jobs_saved ts ++ rest) (jobs_saved os ++ more) read.0.stage are.0.stage is in
    let others = jobs_told fs ts os rest more read.1 are.1 two.1 in
    (same_head f t o read.0 are.0 two.0 ts os others.0, others.1)
  where
    same_task : (f t o : Task) → IsLater f t → IsLater f o → t.stage ≡ o.stage → t ≡ o
    same_task f t o x y s =
        let a : t.cpu ≡ o.cpu = x.cpu ∙ sym y.cpu in
        let b : t.program ≡ o.program = x.program ∙ sym y.program in
        let c : t.budget ≡ o.budget = x.budget ∙ sym y.budget in
        ap (λ (n : ℕ). task_of n t.program t.budget t.stage) a ∙ (ap (λ (n : ℕ). task_of o.cpu n t.budget t.stage) b
        ∙ (ap (λ (n : ℕ). task_of o.cpu o.program n t.stage) c ∙ ap (λ (r : Stage). task_of o.cpu o.program o.budget r) s))

    same_head : (f t o : Task) → IsLater f t → IsLater f o → t.stage ≡ o.stage → (ts os : List Task) → ts ≡ os → t ∷ ts ≡ o ∷ os
    same_head f t o x y s ts os e = ap (λ (u : Task). u ∷ ts) (same_task f t o x y s) ∙ ap (λ (l : List Task). o ∷ l) e

-- no stage of the next job is there
pub reads_stop : (all jobs others : List Task) (n : ℕ) (d : Task) (bytes rest more : List ℕ) → n < length all → AreLater (take n all) jobs →
    bytes ≡ jobs_saved jobs ++ rest
    → ((task : Task) (last : List ℕ) → IsLater (get_or all n d) task → HoldsWhatMayBe task.stage → rest ≡ stage_saved task.stage ++ last → ⊥)
    → AreLater all others → HoldWhatMayBe others → bytes ≡ jobs_saved others ++ more → ⊥
reads_stop all jobs others n d bytes rest more inside read is none are may e =
    let whole : take n all ++ (get_or all n d ∷ drop (suc n) all) ≡ all = ap (λ (l : List Task). take n all ++ l)
    (sym (drop-cons all n d inside)) ∙ take-append-drop n all in
    let b = jobs_behind (take n all) (get_or all n d ∷ drop (suc n) all) jobs others rest more read
    (subst (λ (l : List Task). AreLater l others) (sym whole) are) may (sym is ∙ e) in
    stops (drop (suc n) all) b.0 b.1 b.2 b.3
  where
    stops : (fs ls : List Task) → AreLater (get_or all n d ∷ fs) ls → HoldWhatMayBe ls → rest ≡ jobs_saved ls ++ more → ⊥
    stops fs [] x y z = x
    stops fs (l ∷ ls) x y z = none l (jobs_saved ls ++ more) x.0 y.0 (z ∙ append_assoc (stage_saved l.stage) (jobs_saved ls) more)
