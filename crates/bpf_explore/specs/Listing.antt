-- How answers are printed. Our own choice.
use Rattle.std.specs.Prelude.{ℕ, zero, suc, ◌++◌, Bool, List, [], codes, length, slice_index_or, if◌then◌else◌, false}
use Rattle.std.specs.Fmt.{decimal}
use Rattle.bpf_schedule.specs.Moves.{all_moves_text}
use Rattle.bpf_threads.specs.declared.threads.Threads.{Threads}
use Rattle.bpf_threads.specs.Lines.{threads_text}
use Rattle.bpf_explore.specs.declared.budgets.Budgets.{Budgets}
use Rattle.bpf_explore.specs.declared.budgets.Budgets.TheVariants.{Suffice, RunOut, Unknown}
use Rattle.bpf_explore.specs.Outcomes.{Found}

-- the schedule on a line, and then what is printed
abbrev pub answer_text : Found → List ℕ
answer_text found =
    codes "by" ++ all_moves_text (length found.by) found.by ++ codes "\n" ++ found.text

abbrev pub no_answer : Found
no_answer = record { text = []; stopped = false; by = [] }

-- the first n of them
abbrev pub answers_text : ℕ → List Found → List ℕ
answers_text zero answers = []
answers_text (suc n) answers =
    answers_text n answers ++ answer_text (slice_index_or answers n no_answer)

-- whether they are all
abbrev pub all_text : Bool → List ℕ
all_text all = if all then codes "all" else codes "not all"

-- how many they are, and how many states were kept
abbrev pub counts_text : ℕ → ℕ → List ℕ
counts_text outcomes states =
    codes ": " ++ (decimal outcomes
    ++ (codes " outcomes, " ++ (decimal states ++ codes " states\n")))

abbrev pub last_line : Bool → ℕ → ℕ → List ℕ
last_line all outcomes states = all_text all ++ counts_text outcomes states

-- before the last line, what is said of threads
abbrev pub explored_text : List Found → Threads → Bool → ℕ → List ℕ
explored_text answers threads all states =
    (answers_text (length answers) answers ++ threads_text threads)
    ++ last_line all (length answers) states

-- ---- after a patient search
abbrev pub hung_text : List (ℕ × ℕ) → List ℕ
hung_text by = codes "hung by" ++ all_moves_text (length by) by ++ codes "\n"

-- the first n of them
abbrev pub hung_lines : ℕ → List (List (ℕ × ℕ)) → List ℕ
hung_lines zero hung = []
hung_lines (suc n) hung = hung_lines n hung ++ hung_text (slice_index_or hung n [])

-- whether some schedule uses a budget up
abbrev pub budgets_text : Budgets → List ℕ
budgets_text Suffice = []
budgets_text RunOut = codes "budgets can run out\n"
budgets_text Unknown = codes "budgets may run out\n"

abbrev pub patient_text : List Found → List (List (ℕ × ℕ)) → Budgets → Threads → Bool → ℕ → List ℕ
patient_text answers hung budgets threads all states =
    (((answers_text (length answers) answers ++ hung_lines (length hung) hung)
    ++ budgets_text budgets) ++ threads_text threads) ++ last_line all (length answers) states
