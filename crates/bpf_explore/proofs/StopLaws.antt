-- What is printed of jobs that have ended says whether one of them was stopped.
use Rattle.std.proofs.Common.{◌≡◌, ◌∙◌, ℕ, zero, suc, ◌+◌, ◌<◌, ◌≤◌, Bool, true, false, ◌||◌, if◌then◌else◌, List, [], ◌∷◌, ◌++◌, Option}
use Rattle.std.proofs.Common.{Some, None, inl, inr, length, get_or, drop, refl, sym, ap, append_assoc, arith}
use Rattle.std.specs.Prelude.{slice_get, option_and_then, ◌==◌, ◌/◌, ◌%◌, nat_lt, codes}
use Rattle.std.specs.Fmt.{decimal, digits, digits_onto, digit_glyph}
use Rattle.std.proofs.lemmas.List.{append_cancel_left, length-set}
use Rattle.std.proofs.lemmas.Option.{slice_get-get_or}
use Rattle.bpf_shared.specs.Store.{Plain}
use Rattle.bpf_names.specs.Names.{Names}
use Rattle.bpf_cpu.specs.declared.cpu.Cpu.{Cpu}
use Rattle.bpf_cpu.specs.declared.outcome.Outcome.{Outcome}
use Rattle.bpf_cpu.specs.declared.outcome.Outcome.TheVariants.{Exit, Fault, OutOfBudget}
use Rattle.bpf_cpu.specs.Lines.{outcome_text, job_line}
use Rattle.bpf_cpu.specs.Task.{Stage, Task, InHand, Ended, ended, outcome_at}
use Rattle.bpf_machine.specs.declared.machine.Turn.{Turn}
use Rattle.bpf_machine.specs.Parts.{no_task}
use Rattle.bpf_machine.specs.Rounds.{HaveEnded}
use Rattle.bpf_machine.specs.Schedule.{World, Settles, GoesOn, TakesTurn, RunsSchedule}
use Rattle.bpf_jobs.specs.Printed.{end_line, task_line, job_lines, is_stop, any_stopped, Tells}

-- ---- numbers in decimal: no blank, and no end of a line
AreDigits : List ℕ → Type 0
AreDigits [] = Unit {0}
AreDigits (x ∷ xs) = (48 ≤ x) × AreDigits xs

one_high : (b : Bool) (x y : ℕ) → 48 ≤ x → 48 ≤ y → 48 ≤ (if b then x else y)
one_high true x y p q = p
one_high false x y p q = q

all_digits : (b : Bool) (xs ys : List ℕ) → AreDigits xs → AreDigits ys → AreDigits (if b then xs else ys)
all_digits true xs ys p q = p
all_digits false xs ys p q = q

glyph_high : (d : ℕ) → 48 ≤ digit_glyph false d
glyph_high d = one_high (nat_lt d 10) (48 + d) (87 + d) (omega arith) (omega arith)

digits_high : (k n : ℕ) (acc : List ℕ) → AreDigits acc → AreDigits (digits_onto k 10 false n acc)
unfolding AreDigits
digits_high zero n acc is = is
digits_high (suc k) n acc is =
    let more : List ℕ = digit_glyph false (n % 10) ∷ acc in
    let high : AreDigits more = (glyph_high (n % 10), is) in
    all_digits (n / 10 == 0) more (digits_onto k 10 false (n / 10) more) high (digits_high k (n / 10) more high)

decimal_high : (n : ℕ) → AreDigits (decimal n)
unfolding AreDigits digits
decimal_high n = digits_high 64 n [] tt

-- what is after two numbers, and a sign that no digit is
ends_same : (xs ys : List ℕ) (s : ℕ) (a b : List ℕ) → s < 48 → AreDigits xs → AreDigits ys → xs ++ s ∷ a ≡ ys ++ s ∷ b → a ≡ b
unfolding AreDigits
ends_same [] [] s a b small p q e = cc
ends_same [] (y ∷ ys) s a b small p q e = let no : s ≡ y = cc in absurd (omega (arith, q.0))
ends_same (x ∷ xs) [] s a b small p q e = let no : x ≡ s = cc in absurd (omega (arith, p.0))
ends_same (x ∷ xs) (y ∷ ys) s a b small p q e = let rest : xs ++ s ∷ a ≡ ys ++ s ∷ b = cc in ends_same xs ys s a b small p.1 q.1 rest

-- ---- the line of a job
abbrev SameStop : Outcome → Outcome → List ℕ → List ℕ → Type 0
SameStop e f x y = (is_stop (Some e) ≡ is_stop (Some f)) × (is_stop (Some e) ≡ false → x ≡ y)

apart : (a b : ℕ) (xs ys : List ℕ) → a < b → a ∷ xs ≡ b ∷ ys → ⊥
apart a b xs ys less e = let one : a ≡ b = cc in omega arith

same_tail : (e f : Outcome) (x y : List ℕ) → outcome_text e ++ 10 ∷ x ≡ outcome_text f ++ 10 ∷ y → SameStop e f x y
same_tail (Exit a) (Exit b) x y e = (refl, λ none. ends_same (decimal a) (decimal b) 10 x y (omega arith) (decimal_high a) (decimal_high b) (ap (drop 3) e))
same_tail (Exit a) (Fault g pc) x y e = absurd (apart 102 114 _ _ (omega arith) (sym e))
same_tail (Exit a) (OutOfBudget pc) x y e = absurd (apart 111 114 _ _ (omega arith) (sym e))
same_tail (Fault g pc) (Exit b) x y e = absurd (apart 102 114 _ _ (omega arith) e)
same_tail (Fault g pc) (Fault h qc) x y e = (refl, λ none. cc)
same_tail (Fault g pc) (OutOfBudget qc) x y e = (refl, λ none. cc)
same_tail (OutOfBudget pc) (Exit b) x y e = absurd (apart 111 114 _ _ (omega arith) e)
same_tail (OutOfBudget pc) (Fault h qc) x y e = (refl, λ none. cc)
same_tail (OutOfBudget pc) (OutOfBudget qc) x y e = (refl, λ none. cc)

abbrev line_onto : ℕ → ℕ → Outcome → List ℕ → List ℕ
line_onto j c end x = codes "job " ++ (decimal j ++ (codes " cpu " ++ (decimal c ++ (codes " " ++ (outcome_text end ++ 10 ∷ x)))))

line_is : (j c : ℕ) (end : Outcome) (x : List ℕ) → job_line j c end ++ x ≡ line_onto j c end x
line_is j c end x = simp append_assoc

same_line : (j c d : ℕ) (e f : Outcome) (x y : List ℕ) → job_line j c e ++ x ≡ job_line j d f ++ y → SameStop e f x y
same_line j c d e f x y same =
    let one : line_onto j c e x ≡ line_onto j d f y = sym (line_is j c e x) ∙ (same ∙ line_is j d f y) in
    let two : decimal j ++ (codes " cpu " ++ (decimal c ++ 32 ∷ (outcome_text e ++ 10 ∷ x))) ≡ decimal j ++
    (codes " cpu " ++ (decimal d ++ 32 ∷ (outcome_text f ++ 10 ∷ y))) = ap (drop 4) one in
    let three = append_cancel_left (decimal j) (codes " cpu " ++ (decimal c ++ 32 ∷ (outcome_text e ++ 10 ∷ x)))
    (codes " cpu " ++ (decimal d ++ 32 ∷ (outcome_text f ++ 10 ∷ y))) two in
    let four : decimal c ++ 32 ∷ (outcome_text e ++ 10 ∷ x) ≡ decimal d ++ 32 ∷ (outcome_text f ++ 10 ∷ y) = ap (drop 5) three in
    same_tail e f x y (ends_same (decimal c) (decimal d) 32 (outcome_text e ++ 10 ∷ x) (outcome_text f ++ 10 ∷ y) (omega arith)
    (decimal_high c) (decimal_high d) four)

-- ---- the lines of all jobs
record EndsAt (jobs : List Task) (n : ℕ) : Type 0 where
  cpu : ℕ
  end : Outcome
  line : task_line n (slice_get jobs n) ≡ job_line n cpu end
  stop : is_stop (outcome_at jobs n) ≡ is_stop (Some end)

ends_at : (jobs : List Task) (n : ℕ) → HaveEnded jobs → n < length jobs → EndsAt jobs n
ends_at jobs n all inside =
    let task = get_or jobs n no_task in
    let at : slice_get jobs n ≡ Some task = slice_get-get_or jobs n no_task inside in
    let over = all n task at in
    record {
      cpu = task.cpu;
      end = over.0;
      line = ap (task_line n) at ∙ ap (λ (s : Stage). end_line n task (ended s)) over.1;
      stop = ap (λ (o : Option Task). is_stop (option_and_then (λ t. ended t.stage) o)) at ∙ ap (λ (s : Stage). is_stop (ended s)) over.1;
    }

both_stopped : (a b s t : Bool) (x y : List ℕ) (P : Type 0) → a ≡ b → (a ≡ false → (s ≡ t) × (s ≡ false → P)) → ((a || s) ≡ (b || t)) × ((a || s) ≡ false → P)
both_stopped true true s t x y P e more = (refl, λ none. cc)
both_stopped true false s t x y P e more = cc
both_stopped false true s t x y P e more = cc
both_stopped false false s t x y P e more = more refl

lines_same : (n : ℕ) (jobs others : List Task) → HaveEnded jobs → HaveEnded others → n ≤ length jobs → n ≤ length others → (x y : List ℕ) →
    job_lines n jobs ++ x ≡ job_lines n others ++ y
    → (any_stopped n jobs ≡ any_stopped n others) × (any_stopped n jobs ≡ false → x ≡ y)
lines_same zero jobs others ended too inside within x y e = (refl, λ none. e)
lines_same (suc n) jobs others ended too inside within x y e =
    let first = task_line n (slice_get jobs n) in
    let second = task_line n (slice_get others n) in
    let moved : job_lines n jobs ++ (first ++ x) ≡ job_lines n others ++ (second ++ y) = sym (append_assoc (job_lines n jobs) first x) ∙
    (e ∙ append_assoc (job_lines n others) second y) in
    let far = lines_same n jobs others ended too (omega arith) (omega arith) (first ++ x) (second ++ y) moved in
    let here = ends_at jobs n ended (omega arith) in
    let there = ends_at others n too (omega arith) in
    both_stopped (any_stopped n jobs) (any_stopped n others) (is_stop (outcome_at jobs n)) (is_stop (outcome_at others n)) x y (x ≡ y) far.0 (λ none.
    let same : job_line n here.cpu here.end ++ x ≡ job_line n there.cpu there.end ++ y = ap (λ (l : List ℕ). l ++ x) (sym here.line) ∙
    (far.1 none ∙ ap (λ (l : List ℕ). l ++ y) there.line) in
    let r = same_line n here.cpu there.cpu here.end there.end x y same in
    (here.stop ∙ (r.0 ∙ sym there.stop), λ off. r.1 (sym here.stop ∙ off)))

pub same_stop : (s t : Plain) (jobs others : List Task) (names : Names) (maps : Bool) (text : List ℕ) (stopped halted : Bool) → length jobs
    ≡ length others → HaveEnded jobs → HaveEnded others
    → Tells s jobs names maps text stopped → Tells t others names maps text halted → stopped ≡ halted
same_stop s t jobs others names maps text stopped halted count ended too a b =
    let same : job_lines (length jobs) jobs ++ a.0 ≡ job_lines (length jobs) others ++ b.0 = sym a.2 ∙
    (b.2 ∙ ap (λ (n : ℕ). job_lines n others ++ b.0) (sym count)) in
    let all = lines_same (length jobs) jobs others ended too (omega arith) (omega arith) a.0 b.0 same in
    a.3 ∙ (all.0 ∙ (ap (λ (n : ℕ). any_stopped n others) count ∙ sym b.3))

-- ---- a schedule keeps the number of jobs
goes_length : (w : World) (c j : ℕ) (task : Task) (old : Cpu) (left : ℕ) (answer : Turn) (z : World) → GoesOn w c j task old left answer z →
    length z.jobs ≡ length w.jobs
goes_length w c j task old left answer z (program, end, s, new, rest, loaded, advances, settles) = settled end settles
  where
    settled : (end : Option Outcome) → Settles (record w { store = s }) c j task new rest end answer z → length z.jobs ≡ length w.jobs
    settled None (ran, is) = ap (λ (v : World). length v.jobs) is ∙ length-set w.jobs j (record task { stage = InHand new rest })
    settled (Some outcome) (t, allowed, is, inl lists) = ap (λ (v : World). length v.jobs) lists.1 ∙ length-set w.jobs j (record task { stage = Ended outcome })
    settled (Some outcome) (t, allowed, is, inr lists) = ap (λ (v : World). length v.jobs) lists.1 ∙ length-set w.jobs j (record task { stage = Ended outcome })

pub turn_length : (w : World) (c : ℕ) (answer : Turn) (z : World) → TakesTurn w c answer z → length z.jobs ≡ length w.jobs
turn_length w c answer z (inl (j, task, state, left, at, goes)) = goes_length w c j task state left answer z goes
turn_length w c answer z (inr (inl (free, (j, task, input, s, at, none, begins, goes)))) = goes_length (record w { store = s }) c j task _
    task.budget answer z goes
turn_length w c answer z (inr (inr (free, none, is, same))) = ap (λ (v : World). length v.jobs) same

pub runs_length : (cs : List ℕ) (w z : World) → RunsSchedule w cs z → length z.jobs ≡ length w.jobs
runs_length [] w z runs = ap (λ (v : World). length v.jobs) runs
runs_length (c ∷ cs) w z (answer, m, turns, rest) = runs_length cs m z rest ∙ turn_length w c answer m turns
