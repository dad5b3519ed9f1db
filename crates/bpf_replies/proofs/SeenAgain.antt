-- What a search shows of an outcome, its schedule and rounds after it show again.
use Rattle.std.proofs.Common.{◌≡◌, ◌∙◌, ℕ, zero, suc, ◌==◌, Bool, true, false, List, [], ◌∷◌, ◌++◌, Option, Some, None, Ok, inl, inr, cond}
use Rattle.std.proofs.Common.{length, refl, sym, ap, subst, string_bytes}
use Rattle.std.specs.Prelude.{slice_get}
use Rattle.bpf_shared.specs.Store.{Plain, put}
use Rattle.bpf_names.specs.Names.{Names}
use Rattle.bpf_cpu.specs.declared.cpu.Cpu.{Cpu}
use Rattle.bpf_cpu.specs.declared.outcome.Outcome.{Outcome}
use Rattle.bpf_cpu.specs.Task.{Task}
use Rattle.bpf_machine.specs.declared.machine.Turn.{Turn}
use Rattle.bpf_machine.specs.Listings.{Listing, Never, listed_now, made_keys}
use Rattle.bpf_machine.specs.Schedule.{World, GoesOn, Lists, RunsSchedule, Settles, TakesTurn, unrolled}
use Rattle.bpf_jobs.specs.Laws.{ReportsByAreDetermined}
use Rattle.bpf_jobs.specs.Printed.{IsReportBy, TellsWith, cpu_lines, list_lines, lines_of_lists}
use Rattle.bpf_explore.specs.Outcomes.{EndsBy, Found}
use Rattle.bpf_file.specs.File.{File}
use Rattle.bpf_file.specs.Laws.{FilesAreDetermined, FilesCanRun}
use Rattle.bpf_file.specs.Reading.{IsRunFile}
use Rattle.bpf_replies.proofs.FreshFiles.{fresh}
use Rattle.bpf_replies.proofs.Shaped.{shaped}
use Rattle.bpf_events.specs.Reports.{HistoriesAreOfReports}
use Rattle.bpf_replies.specs.Exploring.{AreFoundBy}
use Rattle.bpf_replies.specs.Laws.{ShownAreFound, WitnessesAreSeenAgain}
use Rattle.bpf_replies.specs.Script.{first_world_of}

-- ---- a machine that never lists never will
abbrev NeverLists : World → Type 0
NeverLists w = (c : ℕ) → w.lists c ≡ Never

put_never : (lists : ℕ → Listing) (c d : ℕ) (s : Plain) → lists c ≡ Never → lists d ≡ Never
    → put lists c (listed_now s (lists c)) d ≡ Never
put_never lists c d s here there = go (d == c)
  where
    go : (b : Bool) → cond b (listed_now s (lists c)) (lists d) ≡ Never
    go true = ap (listed_now s) here
    go false = there

after_lists : (w : World) (c : ℕ) (z : World) → Lists w c z → NeverLists w → NeverLists z
after_lists w c z (inl (works, e)) never = subst NeverLists (sym e) never
after_lists w c z (inr (over, e)) never =
    subst NeverLists (sym e) (λ d. put_never w.lists c d w.store (never c) (never d))

after_settling : (w : World) (c j : ℕ) (task : Task) (new : Cpu) (left : ℕ) (end : Option Outcome) (answer : Turn) (z : World)
    → Settles w c j task new left end answer z → NeverLists w → NeverLists z
after_settling w c j task new left None answer z (said, e) never = subst NeverLists (sym e) never
after_settling w c j task new left (Some end) answer z (s, allowed, said, lists) never =
    after_lists _ c z lists never

after_going : (w : World) (c j : ℕ) (task : Task) (old : Cpu) (left : ℕ) (answer : Turn) (z : World)
    → GoesOn w c j task old left answer z → NeverLists w → NeverLists z
after_going w c j task old left answer z (program, end, s, new, rest, at, advances, settles) never =
    after_settling _ c j task new rest end answer z settles never

after_turn : (w : World) (c : ℕ) (answer : Turn) (z : World) → TakesTurn w c answer z → NeverLists w → NeverLists z
after_turn w c answer z (inl (j, task, state, left, at, goes)) never =
    after_going w c j task state left answer z goes never
after_turn w c answer z (inr (inl (free, (j, task, input, s, at, none, allowed, goes)))) never =
    after_going _ c j task _ _ answer z goes never
after_turn w c answer z (inr (inr (free, none, said, e))) never = subst NeverLists (sym e) never

after_schedule : (w : World) (schedule : List ℕ) (z : World) → RunsSchedule w schedule z → NeverLists w → NeverLists z
after_schedule w [] z e never = subst NeverLists (sym e) never
after_schedule w (c ∷ cs) z (answer, m, turn, rest) never =
    after_schedule m cs z rest (after_turn w c answer m turn never)

no_lines : (lists : ℕ → List (List (List ℕ))) (names : List (List ℕ)) (n : ℕ) → ((c : ℕ) → lists c ≡ []) → list_lines lists names n ≡ []
no_lines lists names zero none = refl
no_lines lists names (suc n) none =
    let before = no_lines lists names n none in
    let here : cpu_lines n names (length (lists n)) (lists n) ≡ [] = ap (λ (all : List (List (List ℕ))). cpu_lines n names (length all) all) (none n) in
    ap (λ (t : List ℕ). t ++ cpu_lines n names (length (lists n)) (lists n)) before ∙ here

-- ---- so the report of an outcome's schedule is that outcome
reported : (w : World) (names : Names) (maps : Bool) (found : Found) → NeverLists w → EndsBy w names maps found
    → IsReportBy w found.by names maps found.text found.stopped
reported w names maps found never (z, runs, ended, tells) =
    let silent = after_schedule w (unrolled found.by) z runs never in
    let none : lines_of_lists z names.maps ≡ [] = no_lines (λ c. made_keys (z.lists c)) names.maps z.store.shape.cpus (λ c. ap made_keys (silent c)) in
    (z, (z, runs, (zero, refl, ended)), subst (λ (lines : List ℕ). TellsWith lines z.store z.jobs names maps found.text found.stopped) (sym none) tells)

-- what a search found is the outcome of its schedule
abbrev IsFoundIn : List ℕ → Found → Type 0
IsFoundIn text found = (f : File) × IsRunFile text (Ok f) × EndsBy (first_world_of f) f.names true found

is_found : (patient : Bool) (text : List ℕ) (answers : List Found) (all : Bool) (limit states i : ℕ) (found : Found)
    → AreFoundBy patient text answers all limit states → slice_get answers i ≡ Some found → IsFoundIn text found
is_found false text answers all limit states i found (f, said, refused, explored) at = (f, said, explored.outcomes.each i found at)
is_found true text answers all limit states i found (hung, budgets, (f, said, refused, explored)) at =
    let (z, leads, ended, none, tells) = explored.outcomes.each i found at in
    (f, said, (z, leads, ended, tells))

-- and the report of that schedule
one_report : FilesAreDetermined → FilesCanRun → ReportsByAreDetermined → (text : List ℕ) (found : Found) (g : File) (printed : List ℕ) (stopped : Bool)
    → IsFoundIn text found → IsRunFile text (Ok g) → IsReportBy (first_world_of g) found.by g.names true printed stopped
    → (printed ≡ found.text) × (stopped ≡ found.stopped)
one_report files runs reports text found g printed stopped (f, said, ends) read report =
    let both : Ok g ≡ Ok f = files text (Ok g) (Ok f) read said in
    let same : g ≡ f = cc in
    let w = first_world_of f in
    let known = subst (λ (h : File). IsReportBy (first_world_of h) found.by h.names true printed stopped) same report in
    reports w found.by f.names true printed found.text stopped found.stopped (fresh f (shaped text f said) (runs text f said)) known
    (reported w f.names true found (λ c. refl) ends)

pub witnesses_are_seen_again : FilesAreDetermined → FilesCanRun → ReportsByAreDetermined → WitnessesAreSeenAgain
witnesses_are_seen_again files runs reports patient text answers all limit states i found printed stopped explored at (g, read, report) =
    one_report files runs reports text found g (string_bytes printed) stopped (is_found patient text answers all limit states i found explored at) read report

pub shown_are_found : FilesAreDetermined → FilesCanRun → ReportsByAreDetermined → HistoriesAreOfReports → ShownAreFound
shown_are_found files runs reports histories patient text answers all limit states i found printed stopped explored at (g, read, history) =
    let (lines, told, report, both) = histories (first_world_of g) found.by g.names true (string_bytes printed) stopped history in
    let one = one_report files runs reports text found g told stopped (is_found patient text answers all limit states i found explored at) read report in
    (lines, both ∙ ap (λ (t : List ℕ). lines ++ t) one.0, one.1)
